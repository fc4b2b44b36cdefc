-- What the core does at a step, as a function of what it keeps.
use Rattle.std.specs.Prelude.{◌≡◌, ℕ, suc, ◌==◌, Bool, false, ◌&&◌, List, [], ◌∷◌, ◌++◌, map, is_some, Option, Some, None, if◌then◌else◌}
use Rattle.std.specs.List.{find}
use Rattle.std.specs.Option.{option_map}
use Rattle.usb_model.specs.declared.entry.Entry.{Entry}
use Rattle.usb_model.specs.declared.effect.Change.TheVariants.{Drops, Frees, Gains, Keeps, Renews, Sets}
use Rattle.usb_model.specs.declared.effect.Change.{Change}
use Rattle.usb_model.specs.Machine.{unused}
use Rattle.usb_model.specs.declared.errand.Errand.{Errand}
use Rattle.usb_model.specs.declared.reply.Reply.{Reply}
use Rattle.usb_model.specs.declared.reply.Reply.TheVariants as reply
use Rattle.usb_model.specs.declared.setup.EndpointInfo.{EndpointInfo}
use Rattle.usb_model.specs.declared.shared.Tagged.{Tagged}
use Rattle.usb_model.specs.declared.step.Step.{Step}
use Rattle.usb_model.specs.declared.step.Step.TheVariants.{Command, Deliver, Serve, Take}
use Rattle.usb_model.specs.declared.handle.Handle.{Handle}
use Rattle.usb_model.specs.declared.result.TransferResult.{TransferResult}
use Rattle.usb_model.specs.Setup.{Setup, endpoints_of, is_within, script_of, packet_size_of}
use Rattle.usb_model.specs.World.Shared.{past_first, tagged}
use Rattle.usb_model.specs.Machine.Turns.{takes_news, takes_order, takes_result}
use Rattle.usb_model.specs.World.{World, claims_after, holder, is_its, turn}
use Rattle.usb_model.specs.Kept.{KeptEndpoint, SentErrand, Telling, new_kept_endpoint}
use Rattle.usb_model.specs.Commands.{Carried, carry}
use Rattle.usb_model.specs.Events.{Handled, Reading, finish, reading}
use Rattle.usb_model.specs.Packets.{Answered, serve_kept}
use Rattle.usb_model.specs.Settlements.{pauses, settle}
use Rattle.refine_world.specs.Shows.{Core, Completes, RingEvent, RingOrder, Shows, Transfers, event_at, order_at}

-- what work at an endpoint leaves: its endpoint, the orders posted, the events told, the results made
pub record Work : Type 0 where
  pub reply : Reply
  pub endpoint : KeptEndpoint
  pub sent : List SentErrand
  pub told : List Telling
  pub results : List TransferResult

-- the place where the command ring is written next, after these
abbrev pub posted_by : List SentErrand → ℕ → ℕ
posted_by [] next = next
posted_by (x ∷ xs) next = suc (posted_by xs next)

-- the core after work of name h at an endpoint
abbrev pub worked : ℕ → Handle → ℕ → ℕ → Step → Work → Core → Core
worked h handle dev ep step k c = record {
  names = λ g. if h == g then handle else c.names g;
  claims = c.claims;
  gone = c.gone;
  endpoints = λ d e. if (dev == d) && (ep == e) then k.endpoint else c.endpoints d e;
  orders = past_first (takes_order step) c.orders ++ map (order_at dev ep) k.sent;
  events = past_first (takes_news step) c.events ++ map (event_at dev ep) k.told;
  posted = posted_by k.sent c.posted;
  results = c.results ++ tagged h k.results;
}

-- a step of a core: its entry, and the core after it
pub record Stepped : Type 0 where
  pub entry : Entry
  pub core : Core

-- nothing is done
abbrev pub idle : Core → Stepped
idle c = record { entry = record { owner = None; reply = reply.Idle }; core = c }

-- work of name h
abbrev pub works : ℕ → ℕ → ℕ → Step → Work → Core → Stepped
works h dev ep step k c = record { entry = record { owner = Some h; reply = k.reply }; core = worked h (c.names h) dev ep step k c }

-- an answer
abbrev pub answer_work : Answered → Work
answer_work a = record { reply = a.reply; endpoint = a.endpoint; sent = []; told = a.told; results = [] }

unfoldable pub serve_held : Setup → Core → ℕ → ℕ → Option ℕ → Stepped
serve_held setup c dev ep None = idle c
serve_held setup c dev ep (Some h) = works h dev ep (Serve dev ep) (answer_work (serve_kept (packet_size_of setup dev ep) (c.gone dev) (c.endpoints dev ep))) c

unfoldable pub serve_core : Setup → Core → ℕ → ℕ → Stepped
serve_core setup c dev ep = serve_held setup c dev ep (holder setup c.claims dev ep)

-- an order that was carried out, or failed
abbrev pub carry_work : ℕ → Errand → Carried → Work
carry_work ep errand a = record { reply = reply.Ran ep errand a.ok; endpoint = a.endpoint; sent = []; told = a.told; results = [] }

unfoldable pub command_held : Core → RingOrder → Option ℕ → Stepped
command_held c o None = idle c
command_held c o (Some h) = works h o.dev o.ep Command (carry_work o.ep o.errand (carry o.place (c.endpoints o.dev o.ep) o.errand (c.endpoints o.dev o.ep).state)) c

unfoldable pub command_first : Setup → Core → List RingOrder → Stepped
command_first setup c [] = idle c
command_first setup c (o ∷ os) = command_held c o (holder setup c.claims o.dev o.ep)

unfoldable pub command_core : Setup → Core → Stepped
command_core setup c = command_first setup c c.orders

-- a handled event
abbrev pub handle_work : Handled → Work
handle_work a = record { reply = a.reply; endpoint = a.endpoint; sent = a.orders; told = []; results = a.results }

-- a transfer's event: its end, or its pause (xHCI 1.2, 6.4.5, code 26: Stopped)
unfoldable pub transfer_work : Bool → ℕ → KeptEndpoint → ℕ → ℕ → Option Reading → Option Work
transfer_work gone next b p code None = None
transfer_work gone next b p code (Some found) = Some (handle_work (if code == 26 then pauses b p found else finish gone next b p code found))

-- whether this is the order of the errand that is under way
abbrev pub is_sent : ℕ → Option SentErrand → Bool
is_sent index None = false
is_sent index (Some s) = s.index == index

-- the endpoint of a device that is held and whose errand has this order
abbrev pub has_sent : Setup → Core → ℕ → ℕ → EndpointInfo → Bool
has_sent setup c dev index x = is_some (holder setup c.claims dev x.address) && is_sent index (c.endpoints dev x.address).errand

abbrev pub sender : Setup → Core → ℕ → ℕ → Option ℕ
sender setup c dev index = option_map (λ x. x.address) (find (has_sent setup c dev index) (endpoints_of setup dev))

unfoldable pub completion_work : ℕ → ℕ → KeptEndpoint → ℕ → Option SentErrand → Option Work
completion_work ep next b code None = None
completion_work ep next b code (Some s) = Some (handle_work (settle ep next b s.errand (code == 1)))

-- a stray event is dropped, with no other effect (no world that can be reached has one)
unfoldable pub delivers : Core → ℕ → ℕ → Option Work → Option ℕ → Stepped
delivers c dev ep (Some k) (Some h) = works h dev ep Deliver k c
delivers c dev ep _ _ = idle c

unfoldable pub complete_at : Setup → Core → ℕ → ℕ → Option ℕ → Stepped
complete_at setup c dev code None = idle c
complete_at setup c dev code (Some ep) = delivers c dev ep (completion_work ep c.posted (c.endpoints dev ep) code (c.endpoints dev ep).errand) (holder setup c.claims dev ep)

unfoldable pub deliver_first : Setup → Core → List RingEvent → Stepped
deliver_first setup c [] = idle c
deliver_first setup c (Transfers dev ep place residual code ∷ rest) =
    delivers c dev ep (transfer_work (c.gone dev) c.posted (c.endpoints dev ep) place code (reading (c.endpoints dev ep).line place residual)) (holder setup c.claims dev ep)
deliver_first setup c (Completes dev index code ∷ rest) = complete_at setup c dev code (sender setup c dev index)

unfoldable pub deliver_core : Setup → Core → Stepped
deliver_core setup c = deliver_first setup c c.events

-- the core as it is made
abbrev pub new_core : Setup → Core
new_core setup = record {
  names = λ h. unused;
  claims = λ d i. None;
  gone = λ d. false;
  endpoints = λ d e. new_kept_endpoint (script_of setup d e);
  orders = [];
  events = [];
  posted = 0;
  results = [];
}

-- the endpoints after a change of name h: those of endpoints that are made new are new
abbrev pub kept_endpoint_after : Setup → ℕ → Core → Change → ℕ → ℕ → KeptEndpoint
kept_endpoint_after setup h c Keeps d e = c.endpoints d e
kept_endpoint_after setup h c Frees d e = c.endpoints d e
kept_endpoint_after setup h c (Gains dev k) d e = if is_within setup dev k d e then new_kept_endpoint (script_of setup d e) else c.endpoints d e
kept_endpoint_after setup h c (Drops dev k) d e = c.endpoints d e
kept_endpoint_after setup h c (Renews dev) d e = if is_its h (holder setup c.claims d e) then new_kept_endpoint (script_of setup d e) else c.endpoints d e
kept_endpoint_after setup h c (Sets dev ep x) d e = c.endpoints d e

-- the core after a step of name h that does no work at an endpoint
abbrev pub rested : Setup → ℕ → Handle → Step → Change → Core → Core
rested setup h handle step change c = record {
  names = λ g. if h == g then handle else c.names g;
  claims = λ d i. claims_after h c.claims change d i;
  gone = c.gone;
  endpoints = λ d e. kept_endpoint_after setup h c change d e;
  orders = c.orders;
  events = c.events;
  posted = c.posted;
  results = past_first (takes_result step) c.results;
}

-- a step of the core is the world's turn
abbrev pub StepsTo : Setup → World → Step → Stepped → Type 0
StepsTo setup w step t = (t.entry ≡ (turn setup w step).entry) × Shows setup (turn setup w step).world t.core

-- the oldest result goes out to its callback
abbrev pub with_out : Handle → TransferResult → Handle
with_out handle x = record handle { in_callbacks = handle.in_callbacks ++ record { n = x.n; request = x.request; round = x.round; status = x.status } ∷ [] }

unfoldable pub take_first : Setup → Core → List (Tagged TransferResult) → Stepped
take_first setup c [] = idle c
take_first setup c (t ∷ ts) = record {
  entry = record { owner = Some t.name; reply = reply.Called (record { h = t.name; n = t.piece.n; ep = t.piece.request.ep; round = t.piece.round; status = t.piece.status; actual = t.piece.actual; bytes = t.piece.bytes }) };
  core = rested setup t.name (with_out (c.names t.name) t.piece) Take Keeps c;
}

unfoldable pub take_core : Setup → Core → Stepped
take_core setup c = take_first setup c c.results
