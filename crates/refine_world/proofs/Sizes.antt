-- An endpoint without a packet size stays as it was made: no transfer joins it, and nothing is ordered or told there.
use Rattle.std.proofs.Common.{Bool, List, None, Option, Some, [], ap, false, inl, inr, refl, sym, true, ℕ, ◌<◌, ◌∙◌, ◌∷◌, ◌≡◌, ◌+◌}
use Rattle.usb_model.specs.declared.endpoint.Endpoint.{Endpoint}
use Rattle.usb_model.specs.declared.endpoint.EndpointState.{EndpointState}
use Rattle.usb_model.specs.declared.endpoint.EndpointState.TheVariants.{Halted, Running, Stopped}
use Rattle.usb_model.specs.declared.errand.Errand.{Errand}
use Rattle.usb_model.specs.declared.effect.Effect.{Effect}
use Rattle.usb_model.specs.declared.refused.Refused.TheVariants.{NoDevice, NotSupported}
use Rattle.usb_model.specs.declared.handle.Handle.{Handle}
use Rattle.usb_model.specs.declared.item.Item.{Item}
use Rattle.usb_model.specs.declared.news.Event.{Event}
use Rattle.usb_model.specs.declared.reply.Reply.TheVariants.{Number}
use Rattle.usb_model.specs.declared.request.Body.TheVariants.{Out}
use Rattle.usb_model.specs.declared.request.Request.{Request}
use Rattle.usb_model.specs.declared.step.Step.{Step}
use Rattle.usb_model.specs.declared.verdict.Verdict.TheVariants.{Again, AgainWith}
use Rattle.usb_model.specs.Coherence.{IsCoherent, served_events}
use Rattle.usb_model.specs.Endpoint.{first_waiting, in_progress}
use Rattle.usb_model.specs.Endpoint.Serve.{serve, serve_first}
use Rattle.usb_model.specs.Machine.{Machine, device_of, is_gone, refused_if}
use Rattle.usb_model.specs.Machine.Calls.{answer_callback, answer_effect, submit_effect, submit_to}
use Rattle.usb_model.specs.Machine.Turns.{effect}
use Rattle.usb_model.specs.Requests.{is_unsupported}
use Rattle.usb_model.specs.Setup.{Setup, kind_of}
use Rattle.proof_model.proofs.Machines.Deeds.{IsSubmission, again, again_with, anew}
use Rattle.proof_model.proofs.Work.Phases.{free}
use Rattle.refine_world.specs.Lively.{IsSized}

-- where a transfer waits there is a packet size
pub waits_sized : (size : ℕ) (e : Endpoint) (x : Item) → IsSized size e → first_waiting e.line ≡ Some x → 0 < size
unfolding first_waiting
waits_sized size e x (inl some) first = some
waits_sized size e x (inr idle) first = let none : first_waiting e.line ≡ None = ap first_waiting idle.0 in absurd (cc (none, first))

-- and where one is in progress
pub asked_sized : (size : ℕ) (e : Endpoint) (n : ℕ) (x : Item) → IsSized size e → in_progress n e.line ≡ Some x → 0 < size
unfolding in_progress
asked_sized size e n x (inl some) there = some
asked_sized size e n x (inr idle) there = let none : in_progress n e.line ≡ None = ap (in_progress n) idle.0 in absurd (cc (none, there))

-- nothing waits for an endpoint that has no transfer and no errand
pub idle_waits : (e : Endpoint) (os : List Errand) (ns : List Event) → IsCoherent e os ns → e.line ≡ [] → e.errand ≡ None → (os ≡ []) × (ns ≡ [])
unfolding served_events
idle_waits e os ns c line errand =
    let f = free e.state e.errand os (served_events e.line) c.tail errand c.phase in
    (f.0, c.news ∙ (rw line f.1))

-- where an order waits there is a packet size
pub ordered_sized : (size : ℕ) (e : Endpoint) (o : Errand) (os : List Errand) (ns : List Event) → IsSized size e → IsCoherent e (o ∷ os) ns → 0 < size
ordered_sized size e o os ns (inl some) c = some
ordered_sized size e o os ns (inr idle) c = let w = idle_waits e (o ∷ os) ns c idle.0 idle.1 in absurd (cc w.0)

-- and where an event waits
pub told_sized : (size : ℕ) (e : Endpoint) (os : List Errand) (event : Event) (ns : List Event) → IsSized size e → IsCoherent e os (event ∷ ns) → 0 < size
told_sized size e os event ns (inl some) c = some
told_sized size e os event ns (inr idle) c = let w = idle_waits e os (event ∷ ns) c idle.0 idle.1 in absurd (cc w.1)

-- an endpoint that has no transfer serves nothing
pub served_sized : (size : ℕ) (gone : Bool) (e : Endpoint) → IsSized size e → IsSized size (serve size gone e).endpoint
unfolding serve serve_first first_waiting
served_sized size gone e (inl some) = inl some
served_sized size gone e (inr idle) =
    let none : first_waiting e.line ≡ None = ap first_waiting idle.0 in
    rw none (by_state gone e.state)
  where
    by_state : (g : Bool) (s : EndpointState) → IsSized size (serve_first size g e s None).endpoint
    by_state true Running = inr idle
    by_state false Running = inr idle
    by_state true Stopped = inr idle
    by_state false Stopped = inr idle
    by_state true Halted = inr idle
    by_state false Halted = inr idle

-- a submission that is given its number is one that is supported
joined_supported : (setup : Setup) (m : Machine) (handle : Handle) (request : Request) (round n : ℕ) (o : Option Endpoint) → (submit_to setup m handle request round o).reply ≡ Number n → is_unsupported (kind_of setup (device_of m) request.ep) ≡ false
unfolding submit_to refused_if
joined_supported setup m handle request round n None says = absurd cc
joined_supported setup m handle request round n (Some e) says = by_tests (is_gone m) (is_unsupported (kind_of setup (device_of m) request.ep)) _ says
  where
    by_tests : (g u : Bool) (rest : Effect) → (refused_if m g NoDevice (refused_if m u NotSupported rest)).reply ≡ Number n → u ≡ false
    by_tests true u rest q = absurd cc
    by_tests false true rest q = absurd cc
    by_tests false false rest q = refl

-- so each step that submits: the first time, or once more from a callback
pub submits_supported : (setup : Setup) (h : ℕ) (m : Machine) (step : Step) (handle : Handle) (request : Request) (round n : ℕ) → IsSubmission m.handle step handle request round → (effect setup h m step).reply ≡ Number n
    → is_unsupported (kind_of setup (device_of m) request.ep) ≡ false
unfolding effect submit_effect answer_effect answer_callback
submits_supported setup h m step handle request round n (anew g r) says = joined_supported setup m m.handle r 0 n _ says
submits_supported setup h m step handle request round n (again g k x in_call) says = joined_supported setup m _ x.request (x.round + 1) n _ (sym (ap (λ o. (answer_callback setup m Again o).reply) in_call) ∙ says)
submits_supported setup h m step handle request round n (again_with g k bytes x in_call) says =
    joined_supported setup m _ (record x.request { body = Out bytes }) (x.round + 1) n _ (sym (ap (λ o. (answer_callback setup m (AgainWith bytes) o).reply) in_call) ∙ says)
