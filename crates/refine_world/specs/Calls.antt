-- What the core does at each step: at a call it is refused for the first of its tests that holds, as libusb has them.
use Rattle.std.specs.Prelude.{ℕ, ◌+◌, ◌==◌, nat_le, Bool, true, false, not, ◌&&◌, ◌||◌, List, [], ◌∷◌, length, count_by, is_none, is_some, Option, Some, None, if◌then◌else◌}
use Rattle.std.specs.Option.{option_and_then, unwrap_or}
use Rattle.std.specs.List.{list_all, list_any}
use Rattle.usb_model.specs.declared.effect.Change.{Change}
use Rattle.usb_model.specs.declared.effect.Change.TheVariants.{Drops, Frees, Gains, Keeps, Renews}
use Rattle.usb_model.specs.declared.handle.Handle.{Handle}
use Rattle.usb_model.specs.declared.item.Ask.{Ask}
use Rattle.usb_model.specs.declared.item.Ask.TheVariants as ask
use Rattle.usb_model.specs.declared.refused.Refused.{Refused}
use Rattle.usb_model.specs.declared.refused.Refused.TheVariants.{Busy, HeldElsewhere, InvalidParam, NoDevice, NotFound, NotSupported}
use Rattle.usb_model.specs.declared.reply.Reply.TheVariants as reply
use Rattle.usb_model.specs.declared.request.Body.TheVariants.{Out}
use Rattle.usb_model.specs.declared.request.Request.{Request}
use Rattle.usb_model.specs.declared.result.InCallback.{InCallback}
use Rattle.usb_model.specs.declared.result.TransferResult.{TransferResult}
use Rattle.usb_model.specs.declared.setup.EndpointInfo.{EndpointInfo}
use Rattle.usb_model.specs.declared.step.Step.{Step}
use Rattle.usb_model.specs.declared.step.Step.TheVariants.{Open, Close, Claim, Release, Reset, ClearHalt, Submit, Cancel, Expire, Serve, Command, Deliver, Take, Answer, Unplug}
use Rattle.usb_model.specs.declared.verdict.Verdict.{Verdict}
use Rattle.usb_model.specs.declared.verdict.Verdict.TheVariants.{Stop, Again, AgainWith}
use Rattle.usb_model.specs.Limits.{last_number, most_places}
use Rattle.usb_model.specs.Machine.{is_callback_at, is_result_at}
use Rattle.usb_model.specs.Machine.Calls.{callback_of, is_bad_body, without}
use Rattle.usb_model.specs.Machine.Turns.{gone_after, unplug_reply}
use Rattle.usb_model.specs.Requests.{is_same_kind, is_unsupported}
use Rattle.usb_model.specs.Setup.{Setup, endpoints_of, has_interface, interfaces_of, is_device, kind_of, packet_size_of}
use Rattle.usb_model.specs.World.{World, holder, is_its, is_others}
use Rattle.usb_model.specs.World.Shared.{pieces_of}
use Rattle.usb_model.specs.Kept.{KeptEndpoint, KeptTransfer}
use Rattle.usb_model.specs.Events.{Handled}
use Rattle.usb_model.specs.Joins.{asked, joined}
use Rattle.refine_world.specs.Shows.{Core, Shows}
use Rattle.refine_world.specs.Steps.{Stepped, StepsTo, command_core, deliver_core, handle_work, rested, serve_core, take_core, worked}

-- what a name has open
abbrev pub is_open : Core → ℕ → Bool
is_open c h = is_some (c.names h).device

abbrev pub device_of : Core → ℕ → ℕ
device_of c h = unwrap_or (c.names h).device 0

abbrev pub is_gone : Core → ℕ → Bool
is_gone c h = c.gone (device_of c h)

abbrev pub holds : Core → ℕ → ℕ → Bool
holds c h i = is_its h (c.claims (device_of c h) i)

-- an endpoint of a device, where the name holds its interface
abbrev pub own_kept : Setup → Core → ℕ → ℕ → ℕ → Option KeptEndpoint
own_kept setup c h dev ep = if is_its h (holder setup c.claims dev ep) then Some (c.endpoints dev ep) else None

-- the name's endpoint of this address, where it is open and holds the interface
abbrev pub kept_at : Setup → Core → ℕ → ℕ → Option KeptEndpoint
kept_at setup c h ep = option_and_then (λ dev. own_kept setup c h dev ep) (c.names h).device

-- the name's results that aren't taken
abbrev pub results_of : Core → ℕ → List TransferResult
results_of c h = pieces_of h c.results

-- the places in use at an endpoint: its line, and its results that aren't taken
abbrev pub places_at : Core → ℕ → ℕ → KeptEndpoint → ℕ
places_at c h ep b = length b.line + count_by (is_result_at ep) (results_of c h)

-- no transfer in its line, no errand, no result of it that waits, none of its transfers in a callback
abbrev pub is_quiet : Core → ℕ → ℕ → Option KeptEndpoint → Bool
is_quiet c h ep None = true
is_quiet c h ep (Some b) = (length b.line == 0) && (is_none b.errand && (not (list_any (is_result_at ep) (results_of c h)) && not (list_any (is_callback_at ep) (c.names h).in_callbacks)))

-- each of the name's endpoints that passes the test is quiet
abbrev pub are_quiet : Setup → Core → ℕ → (EndpointInfo → Bool) → Bool
are_quiet setup c h test = list_all (λ x. not (test x) || is_quiet c h x.address (kept_at setup c h x.address)) (endpoints_of setup (device_of c h))

-- a call that is refused changes nothing
abbrev pub refuses : Core → ℕ → Refused → Stepped
refuses c h why = record { entry = record { owner = Some h; reply = reply.Refused why }; core = c }

-- refused for the first of these tests that holds; else this
abbrev pub unless : Core → ℕ → List (Bool × Refused) → Stepped → Stepped
unless c h [] rest = rest
unless c h (x ∷ xs) rest = if x.0 then refuses c h x.1 else unless c h xs rest

-- Done, with this change, and no work at an endpoint
abbrev pub rests : Setup → Core → ℕ → Handle → Step → Change → Stepped
rests setup c h handle step change = record { entry = record { owner = Some h; reply = reply.Done }; core = rested setup h handle step change c }

-- work of a call at an endpoint, which tells nothing
abbrev pub calls : Core → ℕ → Handle → ℕ → ℕ → Step → Handled → Stepped
calls c h handle dev ep step a = record { entry = record { owner = Some h; reply = a.reply }; core = worked h handle dev ep step (handle_work a) c }

unfoldable pub open_core : Setup → Core → ℕ → ℕ → Stepped
open_core setup c h dev =
    unless c h ((not (is_device setup dev), NotFound) ∷ (c.gone dev, NoDevice) ∷ (is_open c h, Busy) ∷ [])
    (rests setup c h (record (c.names h) { device = Some dev }) (Open h dev) Frees)

unfoldable pub close_core : Setup → Core → ℕ → Stepped
close_core setup c h =
    unless c h ((not (is_open c h), NotFound) ∷ (not (are_quiet setup c h (λ x. true)), Busy) ∷ [])
    (rests setup c h (record (c.names h) { device = None }) (Close h) Frees)

unfoldable pub claim_core : Setup → Core → ℕ → ℕ → Stepped
claim_core setup c h i =
    unless c h ((not (is_open c h), NotFound) ∷ (is_gone c h, NoDevice) ∷ (not (has_interface setup (device_of c h) i), NotFound) ∷ (is_others h (c.claims (device_of c h) i), HeldElsewhere) ∷ [])
    (rests setup c h (c.names h) (Claim h i) (if holds c h i then Keeps else Gains (device_of c h) i))

unfoldable pub release_core : Setup → Core → ℕ → ℕ → Stepped
release_core setup c h i =
    unless c h ((not (is_open c h && holds c h i), NotFound) ∷ (not (are_quiet setup c h (λ x. x.interface == i)), Busy) ∷ [])
    (rests setup c h (c.names h) (Release h i) (Drops (device_of c h) i))

-- whether another name holds an interface of the device
abbrev pub others_hold : Setup → Core → ℕ → Bool
others_hold setup c h = list_any (λ i. is_others h (c.claims (device_of c h) i)) (interfaces_of setup (device_of c h))

unfoldable pub reset_core : Setup → Core → ℕ → Stepped
reset_core setup c h =
    unless c h ((not (is_open c h), NotFound) ∷ (is_gone c h, NoDevice) ∷ (not (are_quiet setup c h (λ x. true)), Busy) ∷ (others_hold setup c h, HeldElsewhere) ∷ [])
    (rests setup c h (c.names h) (Reset h) (Renews (device_of c h)))

-- the device's halt ends
abbrev pub unhalted : KeptEndpoint → Handled
unhalted b = record { reply = reply.Done; endpoint = record b { device_halted = false }; orders = []; results = [] }

unfoldable pub clear_core : Setup → Core → ℕ → ℕ → Option KeptEndpoint → Stepped
clear_core setup c h ep None = refuses c h NotFound
clear_core setup c h ep (Some b) = unless c h ((is_gone c h, NoDevice) ∷ (not (length b.line == 0), Busy) ∷ []) (calls c h (c.names h) (device_of c h) ep (ClearHalt h ep) (unhalted b))

-- a transfer joins its line
abbrev pub joins : ℕ → KeptEndpoint → ℕ → Request → ℕ → Handled
joins size b n request round = record { reply = reply.Number n; endpoint = joined size b n request round; orders = []; results = [] }

-- handle: what is left of the handle without the transfer that is made again
unfoldable pub submit_core : Setup → Core → ℕ → Handle → Step → Request → ℕ → Option KeptEndpoint → Stepped
submit_core setup c h handle step request round None = refuses c h NotFound
submit_core setup c h handle step request round (Some b) =
    unless c h (
    (is_gone c h, NoDevice)
    ∷ (is_unsupported (kind_of setup (device_of c h) request.ep), NotSupported)
    ∷ (not (is_same_kind request.kind (kind_of setup (device_of c h) request.ep)) || is_bad_body request.ep request.body, InvalidParam)
    ∷ (nat_le most_places (places_at c h request.ep b), Busy)
    ∷ ((c.names h).next_number == last_number, Busy)
    ∷ []
    )
    (calls c h (record handle { next_number = (c.names h).next_number + 1 }) (device_of c h) request.ep step (joins (packet_size_of setup (device_of c h) request.ep) b (c.names h).next_number request round))

-- the transfer of this number, in progress
abbrev pub is_kept_it : ℕ → KeptTransfer → Bool
is_kept_it n y = (y.n == n) && not y.blank

unfoldable pub kept_in_progress : ℕ → List KeptTransfer → Option KeptTransfer
kept_in_progress n [] = None
kept_in_progress n (y ∷ ys) = if is_kept_it n y then Some y else kept_in_progress n ys

-- where a transfer is in progress
pub record KeptHome : Type 0 where
  pub ep : ℕ
  pub endpoint : KeptEndpoint
  pub kept : KeptTransfer

abbrev pub home_by : ℕ → KeptEndpoint → Option KeptHome → Option KeptTransfer → Option KeptHome
home_by ep b rest None = rest
home_by ep b rest (Some y) = Some (record { ep = ep; endpoint = b; kept = y })

abbrev pub home_in : ℕ → ℕ → Option KeptEndpoint → Option KeptHome → Option KeptHome
home_in n ep None rest = rest
home_in n ep (Some b) rest = home_by ep b rest (kept_in_progress n b.line)

-- among these endpoints of the name
unfoldable pub kept_home : Setup → Core → ℕ → ℕ → List EndpointInfo → Option KeptHome
kept_home setup c h n [] = None
kept_home setup c h n (x ∷ xs) = home_in n x.address (kept_at setup c h x.address) (kept_home setup c h n xs)

-- timed: the ask is that of a time that is over, which a transfer without a timeout hasn't
unfoldable pub ask_core : Core → ℕ → Step → ℕ → Ask → Bool → Option KeptHome → Stepped
ask_core c h step n why timed None = refuses c h NotFound
ask_core c h step n why timed (Some home) =
    unless c h ((is_some home.kept.ask || (timed && (home.kept.request.timeout == 0)), NotFound) ∷ [])
    (calls c h (c.names h) (device_of c h) home.ep step (asked c.posted home.endpoint n why))

-- the name after the callback of this number ended
abbrev pub called_back : Core → ℕ → ℕ → Handle
called_back c h n = record (c.names h) { in_callbacks = without n (c.names h).in_callbacks }

unfoldable pub answer_core : Setup → Core → ℕ → Step → Verdict → Option InCallback → Stepped
answer_core setup c h step verdict None = refuses c h NotFound
answer_core setup c h step Stop (Some x) = rests setup c h (called_back c h x.n) step Keeps
answer_core setup c h step Again (Some x) = submit_core setup c h (called_back c h x.n) step x.request (x.round + 1) (kept_at setup c h x.request.ep)
answer_core setup c h step (AgainWith bytes) (Some x) = submit_core setup c h (called_back c h x.n) step (record x.request { body = Out bytes }) (x.round + 1) (kept_at setup c h x.request.ep)

-- an Unplug: nobody's, and the device is gone
unfoldable pub unplug_core : Setup → Core → ℕ → Stepped
unplug_core setup c dev = record { entry = record { owner = None; reply = unplug_reply setup c.gone dev }; core = record c { gone = λ d. gone_after setup c.gone (Unplug dev) d } }

-- a step of the core
unfoldable pub step_core : Setup → Core → Step → Stepped
step_core setup c (Open h dev) = open_core setup c h dev
step_core setup c (Close h) = close_core setup c h
step_core setup c (Claim h i) = claim_core setup c h i
step_core setup c (Release h i) = release_core setup c h i
step_core setup c (Reset h) = reset_core setup c h
step_core setup c (ClearHalt h ep) = clear_core setup c h ep (kept_at setup c h ep)
step_core setup c (Submit h request) = submit_core setup c h (c.names h) (Submit h request) request 0 (kept_at setup c h request.ep)
step_core setup c (Cancel h n) = ask_core c h (Cancel h n) n ask.Cancel false (kept_home setup c h n (endpoints_of setup (device_of c h)))
step_core setup c (Expire h n) = ask_core c h (Expire h n) n ask.Time true (kept_home setup c h n (endpoints_of setup (device_of c h)))
step_core setup c (Serve dev ep) = serve_core setup c dev ep
step_core setup c Command = command_core setup c
step_core setup c Deliver = deliver_core setup c
step_core setup c Take = take_core setup c
step_core setup c (Answer h n verdict) = answer_core setup c h (Answer h n verdict) verdict (callback_of n (c.names h).in_callbacks)
step_core setup c (Unplug dev) = unplug_core setup c dev

-- from a core that shows a world each step gives the entry of the world's turn, and a core that shows the world after it
abbrev pub StepsWhole : Setup → Type 0
StepsWhole setup = (w : World) (c : Core) → Shows setup w c → (step : Step) → StepsTo setup w step (step_core setup c step)
