-- What a step does to a machine is the same where more is left at its endpoints.
use Rattle.std.proofs.Common.{◌≡◌, ℕ, ◌+◌, ◌==◌, nat_le, Bool, true, false, not, ◌&&◌, ◌||◌, List, [], ◌∷◌, ◌++◌, length, Option, Some, None, refl, sym, ap, ap₂, ◌∙◌}
use Rattle.std.specs.Prelude.{if◌then◌else◌, is_some}
use Rattle.std.specs.Option.{unwrap_or, option_map, option_and_then, option_map_or}
use Rattle.std.specs.List.{find, list_all, list_any}
use Rattle.usb_model.specs.declared.refused.Refused.{Refused}
use Rattle.usb_model.specs.declared.refused.Refused.TheVariants.{InvalidParam, NoDevice, NotFound, Busy, NotSupported}
use Rattle.usb_model.specs.declared.reply.Reply.TheVariants as reply
use Rattle.usb_model.specs.declared.request.Kind.{Kind}
use Rattle.usb_model.specs.declared.request.Request.{Request}
use Rattle.usb_model.specs.declared.request.Body.TheVariants.{Out}
use Rattle.usb_model.specs.declared.setup.EndpointInfo.{EndpointInfo}
use Rattle.usb_model.specs.declared.verdict.Verdict.{Verdict}
use Rattle.usb_model.specs.declared.verdict.Verdict.TheVariants.{Stop, Again, AgainWith}
use Rattle.usb_model.specs.declared.endpoint.Endpoint.{Endpoint}
use Rattle.usb_model.specs.declared.handle.Handle.{Handle}
use Rattle.usb_model.specs.declared.item.Ask.{Ask}
use Rattle.usb_model.specs.declared.item.Ask.TheVariants as ask
use Rattle.usb_model.specs.declared.item.Item.{Item}
use Rattle.usb_model.specs.declared.news.News.{News}
use Rattle.usb_model.specs.declared.order.Order.{Order}
use Rattle.usb_model.specs.declared.result.InCallback.{InCallback}
use Rattle.usb_model.specs.declared.result.TransferResult.{TransferResult}
use Rattle.usb_model.specs.declared.step.Step.{Step}
use Rattle.usb_model.specs.declared.step.Step.TheVariants.{Open, Close, Claim, Release, Reset, ClearHalt, Submit, Cancel, Expire, Serve, Command, Deliver, Take, Answer, Unplug}
use Rattle.usb_model.specs.declared.effect.Effect.{Effect}
use Rattle.usb_model.specs.declared.effect.Change.{Change}
use Rattle.usb_model.specs.declared.effect.Change.TheVariants.{Keeps, Frees, Gains, Drops, Renews, Sets}
use Rattle.usb_model.specs.Setup.{Setup, is_device, has_interface, endpoints_of, info_of, interface_of, kind_of, packet_size_of}
use Rattle.usb_model.specs.Endpoint.{in_progress}
use Rattle.usb_model.specs.Endpoint.Serve.{serve}
use Rattle.usb_model.specs.Endpoint.Command.{command}
use Rattle.usb_model.specs.Endpoint.Deliver.{deliver}
use Rattle.usb_model.specs.Machine.{Machine, is_open, device_of, is_gone, endpoint_at, is_quiet, are_quiet, says, does, refused_if, unless, at_endpoint}
use Rattle.usb_model.specs.Machine.Calls.{open_effect, close_effect, claim_effect, release_effect, reset_effect, clear_tests, clear_halt_effect, submit_tests, submitted, submit_to, submit_effect, Home, home_by, home_in, home_of, asks, ask_in_progress, ask_effect, callback_of, called_back, answer_callback, answer_effect}
use Rattle.usb_model.specs.Machine.Turns.{serve_effect, command_order, command_effect, deliver_news, deliver_effect, take_effect, unplug_reply, effect}
use Rattle.refine_world.specs.Living.{More, GoesOn, with_more, is_wanting, is_empty}
use Rattle.refine_world.proofs.LivingServes.{effect_of_end, serve_same}
use Rattle.refine_world.proofs.Ends.{command_same, deliver_same}

-- a machine, a change and an effect, but that more is left
abbrev pub machine_with : More → Machine → Machine
machine_with more m = record m { endpoints = λ d ep. option_map (with_more (more d ep)) (m.endpoints d ep) }

abbrev pub change_with : More → Change → Change
change_with more Keeps = Keeps
change_with more Frees = Frees
change_with more (Gains dev i) = Gains dev i
change_with more (Drops dev i) = Drops dev i
change_with more (Renews dev) = Renews dev
change_with more (Sets dev ep e) = Sets dev ep (with_more (more dev ep) e)

abbrev pub effect_with : More → Effect → Effect
effect_with more x = record x { change = change_with more x.change }

-- what the configurations say is the same
pub info_same : (setup longer : Setup) (more : More) (d ep : ℕ) → GoesOn setup longer more → info_of longer d ep ≡ info_of setup d ep
unfolding info_of
info_same setup longer more d ep g = ap (find (λ x. x.address == ep)) (g.endpoints d)

pub size_same : (setup longer : Setup) (more : More) (d ep : ℕ) → GoesOn setup longer more → packet_size_of longer d ep ≡ packet_size_of setup d ep
size_same setup longer more d ep g = ap (λ o. option_map_or (λ x. x.packet_size) o 0) (info_same setup longer more d ep g)

-- so are a machine's endpoints, but that more is left
end_same : (more : More) (m : Machine) (ep : ℕ) → endpoint_at (machine_with more m) ep ≡ option_map (with_more (more (device_of m) ep)) (endpoint_at m ep)
end_same more m ep = by_device m.handle.device
  where
    by_device : (o : Option ℕ) → option_and_then (λ d. option_map (with_more (more d ep)) (m.endpoints d ep)) o ≡ option_map (with_more (more (unwrap_or o 0) ep)) (option_and_then (λ d. m.endpoints d ep) o)
    by_device None = refl
    by_device (Some d) = refl

quiet_same : (more : More) (m : Machine) (ep : ℕ) → is_quiet (machine_with more m) ep (endpoint_at (machine_with more m) ep) ≡ is_quiet m ep (endpoint_at m ep)
quiet_same more m ep = ap (is_quiet (machine_with more m) ep) (end_same more m ep) ∙ by_end (endpoint_at m ep)
  where
    by_end : (o : Option Endpoint) → is_quiet (machine_with more m) ep (option_map (with_more (more (device_of m) ep)) o) ≡ is_quiet m ep o
    by_end None = refl
    by_end (Some e) = refl

all_quiet_same : (setup longer : Setup) (more : More) (m : Machine) (test : EndpointInfo → Bool) → GoesOn setup longer more → are_quiet longer (machine_with more m) test ≡ are_quiet setup m test
all_quiet_same setup longer more m test g = λ i. list_all (λ x. not (test x) || quiet_same more m x.address i) (g.endpoints (device_of m) i)

refused_with : (more : More) (m : Machine) (b : Bool) (why : Refused) (rest : Effect) → refused_if (machine_with more m) b why (effect_with more rest) ≡ effect_with more (refused_if m b why rest)
unfolding refused_if
refused_with more m true why rest = refl
refused_with more m false why rest = refl

unless_with : (more : More) (m : Machine) (tests : List (Bool × Refused)) (rest : Effect) → unless (machine_with more m) tests (effect_with more rest) ≡ effect_with more (unless m tests rest)
unless_with more m [] rest = refl
unless_with more m (x ∷ xs) rest = ap (refused_if (machine_with more m) x.0 x.1) (unless_with more m xs rest) ∙ refused_with more m x.0 x.1 (unless m xs rest)

-- libusb's calls
open_same : (setup longer : Setup) (more : More) (m : Machine) (dev : ℕ) → GoesOn setup longer more → open_effect longer (machine_with more m) dev ≡ effect_with more (open_effect setup m dev)
unfolding open_effect
open_same setup longer more m dev g =
    ap (λ b. unless (machine_with more m) ((not b, NotFound) ∷ (m.gone dev, NoDevice) ∷ (is_open m, Busy) ∷ []) (does (record m.handle { device = Some dev }) Frees)) (g.devices dev)
    ∙ unless_with more m ((not (is_device setup dev), NotFound) ∷ (m.gone dev, NoDevice) ∷ (is_open m, Busy) ∷ []) (does (record m.handle { device = Some dev }) Frees)

close_same : (setup longer : Setup) (more : More) (m : Machine) → GoesOn setup longer more → close_effect longer (machine_with more m) ≡ effect_with more (close_effect setup m)
unfolding close_effect
close_same setup longer more m g =
    ap (λ b. unless (machine_with more m) ((not (is_open m), NotFound) ∷ (not b, Busy) ∷ []) (does (record m.handle { device = None }) Frees)) (all_quiet_same setup longer more m (λ x. true) g)
    ∙ unless_with more m ((not (is_open m), NotFound) ∷ (not (are_quiet setup m (λ x. true)), Busy) ∷ []) (does (record m.handle { device = None }) Frees)

-- what is held already stays
kept : (more : More) (b : Bool) (dev i : ℕ) → (if b then Keeps else Gains dev i) ≡ change_with more (if b then Keeps else Gains dev i)
kept more true dev i = refl
kept more false dev i = refl

held : (m : Machine) (i : ℕ) → Change
held m i = if m.held (device_of m) i then Keeps else Gains (device_of m) i

claim_same : (setup longer : Setup) (more : More) (m : Machine) (i : ℕ) → GoesOn setup longer more → claim_effect longer (machine_with more m) i ≡ effect_with more (claim_effect setup m i)
unfolding claim_effect held
claim_same setup longer more m i g =
    ap₂ (λ xs c. unless (machine_with more m) ((not (is_open m), NotFound) ∷ (is_gone m, NoDevice) ∷ (not (list_any (λ k. k == i) xs), NotFound) ∷ []) (does m.handle c)) (g.interfaces (device_of m)) (kept more (m.held (device_of m) i) (device_of m) i)
    ∙ unless_with more m ((not (is_open m), NotFound) ∷ (is_gone m, NoDevice) ∷ (not (has_interface setup (device_of m) i), NotFound) ∷ []) (does m.handle (held m i))

release_same : (setup longer : Setup) (more : More) (m : Machine) (i : ℕ) → GoesOn setup longer more → release_effect longer (machine_with more m) i ≡ effect_with more (release_effect setup m i)
unfolding release_effect
release_same setup longer more m i g =
    ap (λ b. unless (machine_with more m) ((not (is_open m && m.held (device_of m) i), NotFound) ∷ (not b, Busy) ∷ []) (does m.handle (Drops (device_of m) i))) (all_quiet_same setup longer more m (λ x. x.interface == i) g)
    ∙ unless_with more m ((not (is_open m && m.held (device_of m) i), NotFound) ∷ (not (are_quiet setup m (λ x. x.interface == i)), Busy) ∷ []) (does m.handle (Drops (device_of m) i))

reset_same : (setup longer : Setup) (more : More) (m : Machine) → GoesOn setup longer more → reset_effect longer (machine_with more m) ≡ effect_with more (reset_effect setup m)
unfolding reset_effect
reset_same setup longer more m g =
    ap (λ b. unless (machine_with more m) ((not (is_open m), NotFound) ∷ (is_gone m, NoDevice) ∷ (not b, Busy) ∷ []) (does m.handle (Renews (device_of m)))) (all_quiet_same setup longer more m (λ x. true) g)
    ∙ unless_with more m ((not (is_open m), NotFound) ∷ (is_gone m, NoDevice) ∷ (not (are_quiet setup m (λ x. true)), Busy) ∷ []) (does m.handle (Renews (device_of m)))

clear_same : (more : More) (m : Machine) (ep : ℕ) (o : Option Endpoint)
    → clear_halt_effect (machine_with more m) ep (option_map (with_more (more (device_of m) ep)) o) ≡ effect_with more (clear_halt_effect m ep o)
unfolding clear_halt_effect
clear_same more m ep None = refl
clear_same more m ep (Some e) = unless_with more m (clear_tests m e) (does m.handle (Sets (device_of m) ep (record e { device_halted = false })))

submit_to_same : (setup longer : Setup) (more : More) (m : Machine) (handle : Handle) (request : Request) (round : ℕ) (o : Option Endpoint) → GoesOn setup longer more
    → submit_to longer (machine_with more m) handle request round (option_map (with_more (more (device_of m) request.ep)) o) ≡ effect_with more (submit_to setup m handle request round o)
unfolding submit_to at_endpoint
submit_to_same setup longer more m handle request round None g = refl
submit_to_same setup longer more m handle request round (Some e) g =
    ap (λ xs. unless (machine_with more m) xs (effect_with more joined)) tests ∙ unless_with more m (submit_tests setup m request e) joined
  where
    joined : Effect
    joined = at_endpoint (record handle { next_number = m.handle.next_number + 1 }) (device_of m) request.ep (submitted m.handle.next_number request round e)

    kinds : kind_of longer (device_of m) request.ep ≡ kind_of setup (device_of m) request.ep
    kinds = ap (λ o. option_map_or (λ x. x.kind) o Kind.Control) (info_same setup longer more (device_of m) request.ep g)

    tests : submit_tests longer (machine_with more m) request (with_more (more (device_of m) request.ep) e) ≡ submit_tests setup m request e
    tests = rw kinds refl

submit_same : (setup longer : Setup) (more : More) (m : Machine) (handle : Handle) (request : Request) (round : ℕ) → GoesOn setup longer more
    → submit_effect longer (machine_with more m) handle request round ≡ effect_with more (submit_effect setup m handle request round)
unfolding submit_effect
submit_same setup longer more m handle request round g =
    ap (submit_to longer (machine_with more m) handle request round) (end_same more m request.ep) ∙ submit_to_same setup longer more m handle request round (endpoint_at m request.ep) g

-- where a transfer is in progress
abbrev home_with : More → ℕ → Home → Home
home_with more d home = record home { endpoint = with_more (more d home.ep) home.endpoint }

home_by_same : (more : More) (d ep : ℕ) (e : Endpoint) (rest : Option Home) (o : Option Item)
    → home_by ep (with_more (more d ep) e) (option_map (home_with more d) rest) o ≡ option_map (home_with more d) (home_by ep e rest o)
home_by_same more d ep e rest None = refl
home_by_same more d ep e rest (Some x) = refl

home_in_same : (more : More) (d n ep : ℕ) (o : Option Endpoint) (rest : Option Home)
    → home_in n ep (option_map (with_more (more d ep)) o) (option_map (home_with more d) rest) ≡ option_map (home_with more d) (home_in n ep o rest)
home_in_same more d n ep None rest = refl
home_in_same more d n ep (Some e) rest = home_by_same more d ep e rest (in_progress n e.line)

home_same : (more : More) (m : Machine) (n : ℕ) (xs : List EndpointInfo) → home_of (machine_with more m) n xs ≡ option_map (home_with more (device_of m)) (home_of m n xs)
unfolding home_of
home_same more m n [] = refl
home_same more m n (x ∷ xs) = ap₂ (home_in n x.address) (end_same more m x.address) (home_same more m n xs) ∙ home_in_same more (device_of m) n x.address (endpoint_at m x.address) (home_of m n xs)

ask_in_same : (more : More) (m : Machine) (n : ℕ) (a : Ask) (timed : Bool) (o : Option Home)
    → ask_in_progress (machine_with more m) n a timed (option_map (home_with more (device_of m)) o) ≡ effect_with more (ask_in_progress m n a timed o)
unfolding ask_in_progress at_endpoint asks
ask_in_same more m n a timed None = refl
ask_in_same more m n a timed (Some home) =
    unless_with more m ((is_some home.item.ask || (timed && (home.item.request.timeout == 0)), NotFound) ∷ []) (at_endpoint m.handle (device_of m) home.ep (asks home.endpoint n a))

ask_same : (setup longer : Setup) (more : More) (m : Machine) (n : ℕ) (a : Ask) (timed : Bool) → GoesOn setup longer more
    → ask_effect longer (machine_with more m) n a timed ≡ effect_with more (ask_effect setup m n a timed)
unfolding ask_effect
ask_same setup longer more m n a timed g =
    ap (λ xs. ask_in_progress (machine_with more m) n a timed (home_of (machine_with more m) n xs)) (g.endpoints (device_of m))
    ∙ ap (ask_in_progress (machine_with more m) n a timed) (home_same more m n (endpoints_of setup (device_of m)))
    ∙ ask_in_same more m n a timed (home_of m n (endpoints_of setup (device_of m)))

answer_same : (setup longer : Setup) (more : More) (m : Machine) (v : Verdict) (o : Option InCallback) → GoesOn setup longer more
    → answer_callback longer (machine_with more m) v o ≡ effect_with more (answer_callback setup m v o)
unfolding answer_callback
answer_same setup longer more m Stop None g = refl
answer_same setup longer more m Again None g = refl
answer_same setup longer more m (AgainWith bytes) None g = refl
answer_same setup longer more m Stop (Some x) g = refl
answer_same setup longer more m Again (Some x) g = submit_same setup longer more m (called_back m x.n) x.request (x.round + 1) g
answer_same setup longer more m (AgainWith bytes) (Some x) g = submit_same setup longer more m (called_back m x.n) (record x.request { body = Out bytes }) (x.round + 1) g

-- the controller's and the host's steps
serves_same : (setup longer : Setup) (more : More) (m : Machine) (d ep : ℕ) (o : Option Endpoint) → GoesOn setup longer more
    → (not (is_empty (more d ep)) && (not (m.gone d) && option_map_or is_wanting o false)) ≡ false
    → serve_effect longer (machine_with more m) d ep (option_map (with_more (more d ep)) o) ≡ effect_with more (serve_effect setup m d ep o)
unfolding serve_effect at_endpoint
serves_same setup longer more m d ep None g free = refl
serves_same setup longer more m d ep (Some e) g free =
    ap (λ s. at_endpoint m.handle d ep (serve s (m.gone d) (with_more (more d ep) e))) (size_same setup longer more d ep g)
    ∙ ap (at_endpoint m.handle d ep) (serve_same (packet_size_of setup d ep) (m.gone d) (more d ep) e free)

commands_same : (setup longer : Setup) (more : More) (m : Machine) (xs : List Order) → GoesOn setup longer more
    → command_effect longer (machine_with more m) xs ≡ effect_with more (command_effect setup m xs)
unfolding command_effect command_order at_endpoint
commands_same setup longer more m [] g = refl
commands_same setup longer more m (x ∷ xs) g = ap (command_order longer (machine_with more m) x) (end_same more m x.ep) ∙ by_end (endpoint_at m x.ep)
  where
    by_end : (o : Option Endpoint) → command_order longer (machine_with more m) x (option_map (with_more (more (device_of m) x.ep)) o) ≡ effect_with more (command_order setup m x o)
    by_end None = refl
    by_end (Some e) =
        ap (λ s. at_endpoint m.handle (device_of m) x.ep (command s x.ep (with_more (more (device_of m) x.ep) e) x.errand e.state)) (size_same setup longer more (device_of m) x.ep g)
        ∙ ap (at_endpoint m.handle (device_of m) x.ep) (command_same (packet_size_of setup (device_of m) x.ep) x.ep (more (device_of m) x.ep) e x.errand e.state)

delivers_same : (setup longer : Setup) (more : More) (m : Machine) (xs : List News) → GoesOn setup longer more
    → deliver_effect longer (machine_with more m) xs ≡ effect_with more (deliver_effect setup m xs)
unfolding deliver_effect deliver_news at_endpoint
delivers_same setup longer more m [] g = refl
delivers_same setup longer more m (x ∷ xs) g = ap (deliver_news longer (machine_with more m) x) (end_same more m x.ep) ∙ by_end (endpoint_at m x.ep)
  where
    by_end : (o : Option Endpoint) → deliver_news longer (machine_with more m) x (option_map (with_more (more (device_of m) x.ep)) o) ≡ effect_with more (deliver_news setup m x o)
    by_end None = refl
    by_end (Some e) =
        ap (λ s. at_endpoint m.handle (device_of m) x.ep (deliver s x.ep (is_gone m) (with_more (more (device_of m) x.ep) e) x.event)) (size_same setup longer more (device_of m) x.ep g)
        ∙ ap (at_endpoint m.handle (device_of m) x.ep) (deliver_same (packet_size_of setup (device_of m) x.ep) x.ep (is_gone m) (more (device_of m) x.ep) e x.event)

takes_same : (more : More) (h : ℕ) (m : Machine) (xs : List TransferResult) → take_effect h (machine_with more m) xs ≡ effect_with more (take_effect h m xs)
unfolding take_effect
takes_same more h m [] = refl
takes_same more h m (x ∷ xs) = refl

-- whether a step of this machine meets the end of a script that goes on
abbrev pub machine_meets : More → Machine → Step → Bool
machine_meets more m (Serve d ep) = not (is_empty (more d ep)) && (not (m.gone d) && option_map_or is_wanting (m.endpoints d ep) false)
machine_meets more m _ = false

-- a step that doesn't does the same where more is left
pub effect_same : (setup longer : Setup) (more : More) (h : ℕ) (m : Machine) (step : Step) → GoesOn setup longer more → machine_meets more m step ≡ false
    → effect longer h (machine_with more m) step ≡ effect_with more (effect setup h m step)
unfolding effect answer_effect
effect_same setup longer more h m (Open g dev) on free = open_same setup longer more m dev on
effect_same setup longer more h m (Close g) on free = close_same setup longer more m on
effect_same setup longer more h m (Claim g i) on free = claim_same setup longer more m i on
effect_same setup longer more h m (Release g i) on free = release_same setup longer more m i on
effect_same setup longer more h m (Reset g) on free = reset_same setup longer more m on
effect_same setup longer more h m (ClearHalt g ep) on free = ap (clear_halt_effect (machine_with more m) ep) (end_same more m ep) ∙ clear_same more m ep (endpoint_at m ep)
effect_same setup longer more h m (Submit g request) on free = submit_same setup longer more m m.handle request 0 on
effect_same setup longer more h m (Cancel g n) on free = ask_same setup longer more m n ask.Cancel false on
effect_same setup longer more h m (Expire g n) on free = ask_same setup longer more m n ask.Time true on
effect_same setup longer more h m (Serve d ep) on free = serves_same setup longer more m d ep (m.endpoints d ep) on free
effect_same setup longer more h m Command on free = commands_same setup longer more m m.orders on
effect_same setup longer more h m Deliver on free = delivers_same setup longer more m m.news on
effect_same setup longer more h m Take on free = takes_same more h m m.results
effect_same setup longer more h m (Answer g n v) on free = answer_same setup longer more m v (callback_of n m.handle.in_callbacks) on
effect_same setup longer more h m (Unplug dev) on free = ap (λ b. says m (if not b then reply.Refused NotFound else if m.gone dev then reply.Refused NoDevice else reply.Done)) (on.devices dev)
