-- What each step of a machine does: a deed, or nothing.
use Rattle.std.proofs.Common.{Bool, List, None, Option, Some, [], ap, arith, false, length, not, option_map, refl, subst, sym, true, ℕ, ◌+◌, ◌<◌, ◌==◌, ◌∙◌, ◌∷◌, ◌≡◌, ◌≤◌}
use Rattle.std.specs.Prelude.{if◌then◌else◌, is_some, option_and_then, unwrap_or}
use Rattle.std.proofs.lemmas.Bool.{and_parts, leb-false, not-false, or_parts}
use Rattle.std.specs.Option.{option_map_or}
use Rattle.usb_model.specs.declared.endpoint.Endpoint.{Endpoint}
use Rattle.usb_model.specs.declared.handle.Handle.{Handle}
use Rattle.usb_model.specs.declared.item.Ask.TheVariants as ask
use Rattle.usb_model.specs.declared.item.Ask.{Ask}
use Rattle.usb_model.specs.declared.news.News.{News}
use Rattle.usb_model.specs.declared.order.Order.{Order}
use Rattle.usb_model.specs.declared.result.InCallback.{InCallback}
use Rattle.usb_model.specs.declared.result.TransferResult.{TransferResult}
use Rattle.usb_model.specs.declared.refused.Refused.TheVariants.{NoDevice, NotFound}
use Rattle.usb_model.specs.declared.refused.Refused.{Refused}
use Rattle.usb_model.specs.declared.reply.Reply.TheVariants as reply
use Rattle.usb_model.specs.declared.request.Request.{Request}
use Rattle.usb_model.specs.declared.setup.EndpointInfo.{EndpointInfo}
use Rattle.usb_model.specs.declared.step.Step.TheVariants.{Answer, Cancel, Claim, ClearHalt, Close, Command, Deliver, Expire, Open, Release, Reset, Serve, Submit, Take, Unplug}
use Rattle.usb_model.specs.declared.step.Step.{Step}
use Rattle.usb_model.specs.declared.verdict.Verdict.TheVariants.{Again, AgainWith, Stop}
use Rattle.usb_model.specs.declared.verdict.Verdict.{Verdict}
use Rattle.usb_model.specs.Machine.Calls.{Home, answer_callback, answer_effect, ask_in_progress, ask_effect, callback_of, claim_effect, clear_halt_effect, close_effect, is_bad_body, open_effect, release_effect, reset_effect, submit_to, submit_effect}
use Rattle.usb_model.specs.declared.effect.Effect.{Effect}
use Rattle.usb_model.specs.declared.effect.Change.TheVariants.{Gains, Keeps}
use Rattle.usb_model.specs.Machine.{Machine, are_quiet, device_of, does, at_endpoint, endpoint_at, is_open, places, refused_if, says}
use Rattle.usb_model.specs.Endpoint.Serve.{serve}
use Rattle.usb_model.specs.Setup.{Setup, info_of, is_device, is_within, packet_size_of}
use Rattle.usb_model.specs.Machine.Turns.{command_order, command_effect, deliver_news, deliver_effect, effect, serve_effect, take_effect, takes_news, takes_order, takes_result, unplug_reply}
use Rattle.proof_model.proofs.Coherence.Posts.{commands_now, delivers_now}
use Rattle.usb_model.specs.Fitness.{errands_of, events_of, IsWell}
use Rattle.proof_model.proofs.Work.StepMoves.{IsHome, home_is}
use Rattle.proof_model.proofs.Lists.Pieces.{same_name}
use Rattle.proof_model.proofs.Machines.Deeds.{IsAsk, IsDone, IsSubmission, TakesNone, again, again_with, anew, asks_it, cancels, claims, claims_again, clears, closes, commands, delivers, expires, idles, only_rests, opens, refuses, releases, resets, serves, stays, stops, submits, takes, unplugs, works}
use Rattle.proof_model.proofs.Machines.Idle.{idle_if_none, no_items, quiet_idle}

-- a step that may be refused does what the rest does, or nothing
done_if : (setup : Setup) (h : ℕ) (m : Machine) (step : Step) (b : Bool) (why : Refused) (rest : Effect) → TakesNone m step → (b ≡ false → IsDone setup h m step rest) → IsDone setup h m step (refused_if m b why rest)
unfolding refused_if
done_if setup h m step true why rest t later = only_rests (stays (refuses why) t)
done_if setup h m step false why rest t later = later refl

-- a step that takes of no list
pub takes_none : (m : Machine) (step : Step) → takes_order step ≡ false → takes_news step ≡ false → takes_result step ≡ false → TakesNone m step
takes_none m step o n r = record {
  orders = rw o refl;
  news = rw n refl;
  results = rw r refl;
  commands = λ ep. by_order step o ep;
  delivers = λ ep. by_news step n ep;
}
  where
    by_order : (step : Step) → takes_order step ≡ false → (ep : ℕ) → commands_now ep m step ≡ 0
    by_order Command o ep = absurd cc
    by_order _ o ep = refl

    by_news : (step : Step) → takes_news step ≡ false → (ep : ℕ) → delivers_now ep m step ≡ 0
    by_news Deliver n ep = absurd cc
    by_news _ n ep = refl

-- an option that is not there is None
nothing_there : {A : Type 0} (o : Option A) → is_some o ≡ false → o ≡ None
nothing_there None e = refl
nothing_there (Some d) e = absurd cc

-- an option that is there is its value
open_at : (o : Option ℕ) → not (is_some o) ≡ false → o ≡ Some (unwrap_or o 0)
open_at None e = absurd cc
open_at (Some d) e = refl

-- Open does nothing at the endpoints
open_done : (setup : Setup) (h : ℕ) (m : Machine) (g dev : ℕ) → IsDone setup h m (Open g dev) (open_effect setup m dev)
unfolding open_effect
open_done setup h m g dev =
    let t = takes_none m (Open g dev) refl refl refl in
    done_if setup h m _ _ _ _ t (λ p. done_if setup h m _ _ _ _ t (λ q. done_if setup h m _ _ _ _ t (λ closed. only_rests (opens g dev (nothing_there m.handle.device closed)))))

-- Close frees all interfaces, and finds every endpoint idle
close_done : (setup : Setup) (h : ℕ) (m : Machine) (g : ℕ) → IsWell setup m → IsDone setup h m (Close g) (close_effect setup m)
unfolding close_effect
close_done setup h m g well =
    let t = takes_none m (Close g) refl refl refl in
    done_if setup h m _ _ _ _ t (λ p. done_if setup h m _ _ _ _ t (λ quiet. only_rests (closes g (λ ep. quiet_idle setup m (λ x. true) ep well (not-false (are_quiet setup m (λ x. true)) quiet) (λ s e. refl)))))

-- Claim makes endpoints new
claim_done : (setup : Setup) (h : ℕ) (m : Machine) (g i : ℕ) → IsDone setup h m (Claim g i) (claim_effect setup m i)
unfolding claim_effect
claim_done setup h m g i =
    let t = takes_none m (Claim g i) refl refl refl in
    done_if setup h m _ _ _ _ t (λ opened. done_if setup h m _ _ _ _ t (λ p. done_if setup h m _ _ _ _ t (λ q. by_held opened (m.held (device_of m) i) refl)))
  where
    by_held : not (is_open m) ≡ false → (b : Bool) → m.held (device_of m) i ≡ b → IsDone setup h m (Claim g i) (does m.handle (if b then Keeps else Gains (device_of m) i))
    by_held opened true e = only_rests (claims_again g i)
    by_held opened false e = only_rests (claims g i (open_at m.handle.device opened) e)

-- an endpoint within an interface has it
within_has : (setup : Setup) (dev i ep : ℕ) (s : EndpointInfo) → info_of setup dev ep ≡ Some s → is_within setup dev i dev ep ≡ true → (s.interface == i) ≡ true
within_has setup dev i ep s is within =
    let p = and_parts (dev == dev) _ within in
    ap (λ o. option_map_or (λ k. k == i) (option_map (λ x. x.interface) o) false) (sym is) ∙ p.1

-- Release finds the interface's endpoints idle
release_done : (setup : Setup) (h : ℕ) (m : Machine) (g i : ℕ) → IsWell setup m → IsDone setup h m (Release g i) (release_effect setup m i)
unfolding release_effect
release_done setup h m g i well =
    let t = takes_none m (Release g i) refl refl refl in
    done_if setup h m _ _ _ _ t (λ p. done_if setup h m _ _ _ _ t (λ quiet. only_rests (releases g i (λ ep within.
    quiet_idle setup m (λ x. x.interface == i) ep well (not-false (are_quiet setup m (λ x. x.interface == i)) quiet) (λ s e. within_has setup (device_of m) i ep s e within)))))

-- Reset frees all interfaces, and finds every endpoint idle
reset_done : (setup : Setup) (h : ℕ) (m : Machine) (g : ℕ) → IsWell setup m → IsDone setup h m (Reset g) (reset_effect setup m)
unfolding reset_effect
reset_done setup h m g well =
    let t = takes_none m (Reset g) refl refl refl in
    done_if setup h m _ _ _ _ t (λ p. done_if setup h m _ _ _ _ t (λ q. done_if setup h m _ _ _ _ t (λ quiet. only_rests (resets g (λ ep.
    quiet_idle setup m (λ x. true) ep well (not-false (are_quiet setup m (λ x. true)) quiet) (λ s e. refl))))))

-- ClearHalt is work at its endpoint
clear_done : (setup : Setup) (h : ℕ) (m : Machine) (g ep : ℕ) (o : Option Endpoint) → endpoint_at m ep ≡ o → IsDone setup h m (ClearHalt g ep) (clear_halt_effect m ep o)
unfolding clear_halt_effect at_endpoint
clear_done setup h m g ep None here = only_rests (stays (refuses _) (takes_none m (ClearHalt g ep) refl refl refl))
clear_done setup h m g ep (Some e) here =
    let t = takes_none m (ClearHalt g ep) refl refl refl in
    done_if setup h m _ _ _ _ t (λ p. done_if setup h m _ _ _ _ t (λ empty. works ep e here (clears g (no_items e.line (not-false (length e.line == 0) empty)))))

-- a submission is work at its endpoint
submit_done : (setup : Setup) (h : ℕ) (m : Machine) (step : Step) (handle : Handle) (request : Request) (round : ℕ) (o : Option Endpoint) → TakesNone m step → IsSubmission m.handle step handle request round → endpoint_at m request.ep ≡ o
    → IsDone setup h m step (submit_to setup m handle request round o)
unfolding submit_to
submit_done setup h m step handle request round None t is here = only_rests (stays (refuses _) t)
submit_done setup h m step handle request round (Some e) t is here =
    done_if setup h m _ _ _ _ t (λ p. done_if setup h m _ _ _ _ t (λ q. done_if setup h m _ _ _ _ t (λ fine. done_if setup h m _ _ _ _ t (λ room. done_if setup h m _ _ _ _ t (λ r.
    works request.ep e here (submits is refl (or_parts _ (is_bad_body request.ep request.body) fine).1 (has_room (places m request.ep e) (leb-false 16 (places m request.ep e) room))))))))
  where
    has_room : (a : ℕ) → a < 16 → a + 1 ≤ 16
    has_room a lt = omega (arith, lt)

-- an answer to a callback frees the callback, or submits once more
answer_done : (setup : Setup) (h : ℕ) (m : Machine) (g k : ℕ) (verdict : Verdict) (o : Option InCallback) → callback_of k m.handle.in_callbacks ≡ o → IsDone setup h m (Answer g k verdict) (answer_callback setup m verdict o)
unfolding answer_callback submit_effect
answer_done setup h m g k verdict None is = only_rests (stays (refuses _) (takes_none m (Answer g k verdict) refl refl refl))
answer_done setup h m g k Stop (Some x) is = only_rests (stops g k x is)
answer_done setup h m g k Again (Some x) is = submit_done setup h m (Answer g k Again) _ _ _ _ (takes_none m (Answer g k Again) refl refl refl) (again g k x is) refl
answer_done setup h m g k (AgainWith bytes) (Some x) is = submit_done setup h m (Answer g k (AgainWith bytes)) _ _ _ _ (takes_none m (Answer g k (AgainWith bytes)) refl refl refl) (again_with g k bytes x is) refl

-- an ask is work at the endpoint of its transfer
ask_done : (setup : Setup) (h : ℕ) (m : Machine) (step : Step) (n : ℕ) (ask : Ask) (timed : Bool) (o : Option Home) → TakesNone m step → IsAsk step n ask → IsHome m n o → IsDone setup h m step (ask_in_progress m n ask timed o)
unfolding ask_in_progress
ask_done setup h m step n ask timed None t is home = only_rests (stays (refuses _) t)
ask_done setup h m step n ask timed (Some home) t is at =
    done_if setup h m _ _ _ _ t (λ fine. works home.ep home.endpoint at.0 (asks_it n home.item is at.1 (nothing_there home.item.ask (or_parts (is_some home.item.ask) _ fine).0)))

-- Serve is work at its endpoint
serve_done : (setup : Setup) (h : ℕ) (m : Machine) (dev ep : ℕ) (o : Option Endpoint) → IsWell setup m → m.endpoints dev ep ≡ o → IsDone setup h m (Serve dev ep) (serve_effect setup m dev ep o)
unfolding serve_effect
serve_done setup h m dev ep None well here = only_rests (stays idles (takes_none m (Serve dev ep) refl refl refl))
serve_done setup h m dev ep (Some e) well here =
    let at = well.at_device dev ep e here in
    let same : device_of m ≡ dev = ap (λ o. unwrap_or o 0) at in
    let there : endpoint_at m ep ≡ Some e = ap (option_and_then (λ d. m.endpoints d ep)) at ∙ here in
    subst (λ k. IsDone setup h m (Serve dev ep) (at_endpoint m.handle k ep (serve (packet_size_of setup k ep) (m.gone k) e))) same (works ep e there (serves dev))

-- nothing is taken of empty lists
no_order : (m : Machine) → m.orders ≡ [] → TakesNone m Command
no_order m none = record { orders = rw none refl; news = refl; results = refl; commands = λ ep. rw none refl; delivers = λ ep. refl }

-- without news Deliver takes none
no_piece : (m : Machine) → m.news ≡ [] → TakesNone m Deliver
no_piece m none = record { orders = refl; news = rw none refl; results = refl; commands = λ ep. refl; delivers = λ ep. rw none refl }

-- without results Take takes none
no_result : (m : Machine) → m.results ≡ [] → TakesNone m Take
no_result m none = record { orders = refl; news = refl; results = rw none refl; commands = λ ep. refl; delivers = λ ep. refl }

-- Command is work at its order's endpoint
command_done : (setup : Setup) (h : ℕ) (m : Machine) (xs : List Order) → IsWell setup m → m.orders ≡ xs → IsDone setup h m Command (command_effect setup m xs)
unfolding command_effect command_order
command_done setup h m [] well is = only_rests (stays idles (no_order m is))
command_done setup h m (order ∷ orders) well is = by_end (endpoint_at m order.ep) refl
  where
    waits : errands_of order.ep m.orders ≡ order.errand ∷ errands_of order.ep orders
    waits = ap (errands_of order.ep) is ∙ rw (same_name order.ep) refl

    by_end : (o : Option Endpoint) → endpoint_at m order.ep ≡ o → IsDone setup h m Command (command_order setup m order o)
    by_end None none = absurd (cc ((idle_if_none order.ep m none (well.fits order.ep)).no_orders, waits))
    by_end (Some e) here = works order.ep e here (commands order.errand orders is)

-- Deliver is work at its news' endpoint
deliver_done : (setup : Setup) (h : ℕ) (m : Machine) (xs : List News) → IsWell setup m → m.news ≡ xs → IsDone setup h m Deliver (deliver_effect setup m xs)
unfolding deliver_effect deliver_news
deliver_done setup h m [] well is = only_rests (stays idles (no_piece m is))
deliver_done setup h m (news ∷ rest) well is = by_end (endpoint_at m news.ep) refl
  where
    waits : events_of news.ep m.news ≡ news.event ∷ events_of news.ep rest
    waits = ap (events_of news.ep) is ∙ rw (same_name news.ep) refl

    by_end : (o : Option Endpoint) → endpoint_at m news.ep ≡ o → IsDone setup h m Deliver (deliver_news setup m news o)
    by_end None none = absurd (cc ((idle_if_none news.ep m none (well.fits news.ep)).no_news, waits))
    by_end (Some e) here = works news.ep e here (delivers news.event rest is)

-- Take calls the first result back
take_done : (setup : Setup) (h : ℕ) (m : Machine) (xs : List TransferResult) → m.results ≡ xs → IsDone setup h m Take (take_effect h m xs)
unfolding take_effect
take_done setup h m [] is = only_rests (stays idles (no_result m is))
take_done setup h m (x ∷ xs) is = only_rests (takes x xs is)

-- Unplug does nothing at the endpoints
unplug_done : (setup : Setup) (h : ℕ) (m : Machine) (dev : ℕ) → IsDone setup h m (Unplug dev) (says m (unplug_reply setup m.gone dev))
unplug_done setup h m dev = by_tests (not (is_device setup dev)) (m.gone dev)
  where
    by_tests : (a b : Bool) → IsDone setup h m (Unplug dev) (says m (if a then reply.Refused NotFound else (if b then reply.Refused NoDevice else reply.Done)))
    by_tests true b = only_rests (stays (refuses _) (takes_none m (Unplug dev) refl refl refl))
    by_tests false true = only_rests (stays (refuses _) (takes_none m (Unplug dev) refl refl refl))
    by_tests false false = only_rests (stays (unplugs dev) (takes_none m (Unplug dev) refl refl refl))

-- what each step does
pub is_done : (setup : Setup) (h : ℕ) (m : Machine) (step : Step) → IsWell setup m → IsDone setup h m step (effect setup h m step)
unfolding effect submit_effect ask_effect answer_effect
is_done setup h m (Open g dev) well = open_done setup h m g dev
is_done setup h m (Close g) well = close_done setup h m g well
is_done setup h m (Claim g i) well = claim_done setup h m g i
is_done setup h m (Release g i) well = release_done setup h m g i well
is_done setup h m (Reset g) well = reset_done setup h m g well
is_done setup h m (ClearHalt g ep) well = clear_done setup h m g ep (endpoint_at m ep) refl
is_done setup h m (Submit g request) well = submit_done setup h m (Submit g request) m.handle request 0 _ (takes_none m (Submit g request) refl refl refl) (anew g request) refl
is_done setup h m (Cancel g n) well = ask_done setup h m (Cancel g n) n ask.Cancel false _ (takes_none m (Cancel g n) refl refl refl) (cancels g n) (home_is m n _)
is_done setup h m (Expire g n) well = ask_done setup h m (Expire g n) n ask.Time true _ (takes_none m (Expire g n) refl refl refl) (expires g n) (home_is m n _)
is_done setup h m (Serve dev ep) well = serve_done setup h m dev ep (m.endpoints dev ep) well refl
is_done setup h m Command well = command_done setup h m m.orders well refl
is_done setup h m Deliver well = deliver_done setup h m m.news well refl
is_done setup h m Take well = take_done setup h m m.results refl
is_done setup h m (Answer g k verdict) well = answer_done setup h m g k verdict (callback_of k m.handle.in_callbacks) refl
is_done setup h m (Unplug dev) well = unplug_done setup h m dev
