-- Submit, and an Answer that submits again: a transfer joins the line of an endpoint that the name holds.
use Rattle.std.proofs.Common.{Bool, List, Option, Some, [], ap, false, length, refl, ℕ, ◌+◌, ◌==◌, ◌||◌, ◌∙◌, ◌∷◌, ◌≡◌, ◌≤◌}
use Rattle.std.specs.Prelude.{nat_le, nat_lt, not}
use Rattle.std.specs.List.{count_by}
use Rattle.std.proofs.lemmas.Bool.{ltb-false, or_parts}
use Rattle.usb_model.specs.declared.effect.Effect.{Effect}
use Rattle.usb_model.specs.declared.endpoint.Endpoint.{Endpoint}
use Rattle.usb_model.specs.declared.handle.Handle.{Handle}
use Rattle.usb_model.specs.declared.refused.Refused.TheVariants.{Busy, InvalidParam, NoDevice, NotFound, NotSupported}
use Rattle.usb_model.specs.declared.refused.Refused.{Refused}
use Rattle.usb_model.specs.declared.request.Body.TheVariants.{In, Out}
use Rattle.usb_model.specs.declared.request.Body.{Body}
use Rattle.usb_model.specs.declared.request.Request.{Request}
use Rattle.usb_model.specs.declared.step.Step.TheVariants.{Submit}
use Rattle.usb_model.specs.declared.step.Step.{Step}
use Rattle.usb_model.specs.Limits.{last_number, most_bytes, most_places}
use Rattle.usb_model.specs.Machine as machine
use Rattle.usb_model.specs.Machine.{at_endpoint, is_result_at}
use Rattle.usb_model.specs.Machine.Calls.{is_bad_body, submit_effect, submit_to, submitted}
use Rattle.usb_model.specs.Machine.Turns.{effect}
use Rattle.usb_model.specs.Requests.{is_same_kind, is_unsupported, length_of}
use Rattle.usb_model.specs.Setup.{Setup, is_in, kind_of, packet_size_of}
use Rattle.usb_model.specs.World.{World, machine_of, owner_of}
use Rattle.usb_model.specs.Kept.{KeptEndpoint}
use Rattle.refine_world.specs.Calls.{calls, device_of, is_gone, joins, kept_at, places_at, results_of, submit_core}
use Rattle.refine_world.specs.Lively.{IsFine}
use Rattle.refine_world.specs.Shows.{Core, Shows}
use Rattle.refine_world.specs.Steps.{StepsTo}
use Rattle.refine_world.proofs.Calls.Refusals.{refused_steps, unless_steps}
use Rattle.refine_world.proofs.Calls.Tables.{with_tables}
use Rattle.refine_world.proofs.Calls.Tests.{AreSeen, are_seen, same_length, seen, unseen}
use Rattle.refine_world.proofs.CallWorks.{IsCall, submit_steps}

-- a body that isn't bad has at most 262,144 bytes
few_bytes : (ep : ℕ) (body : Body) → is_bad_body ep body ≡ false → length_of body ≤ 262144
few_bytes ep (In n) q = ltb-false most_bytes n (or_parts (not (is_in ep)) (nat_lt most_bytes n) q).1
few_bytes ep (Out bytes) q = ltb-false most_bytes (length bytes) (or_parts (is_in ep) (nat_lt most_bytes (length bytes)) q).1

-- a submission under the next number, at an endpoint as it is seen
pub submission_steps : (setup : Setup) (w : World) (c : Core) → IsFine setup → Shows setup w (with_tables w c) → (h : ℕ) (step : Step) (handle : Handle) (request : Request) (round : ℕ) → IsCall step → owner_of setup w step ≡ Some h
    → effect setup h (machine_of setup h w) step ≡ submit_effect setup (machine_of setup h w) handle request round
    → StepsTo setup w step (submit_core setup (with_tables w c) h handle step request round (kept_at setup (with_tables w c) h request.ep))
unfolding submit_effect submit_to submit_core machine_of
submission_steps setup w c fine s h step handle request round call own is = by_seen _ _ (are_seen setup w c h request.ep) is
  where
    k : Core
    k = with_tables w c

    dev : ℕ
    dev = device_of k h

    after : Handle
    after = record handle { next_number = (w.names h).next_number + 1 }

    -- by the places in use
    tests : ℕ → List (Bool × Refused)
    tests places =
        (is_gone k h, NoDevice)
        ∷ (is_unsupported (kind_of setup dev request.ep), NotSupported)
        ∷ (not (is_same_kind request.kind (kind_of setup dev request.ep)) || is_bad_body request.ep request.body, InvalidParam)
        ∷ (nat_le most_places places, Busy)
        ∷ ((w.names h).next_number == last_number, Busy)
        ∷ []

    by_seen : (o : Option Endpoint) (b : Option KeptEndpoint) → AreSeen setup w c h dev request.ep o b → effect setup h (machine_of setup h w) step ≡ submit_to setup (machine_of setup h w) handle request round o
        → StepsTo setup w step (submit_core setup k h handle step request round b)
    by_seen o b unseen q = refused_steps setup w k s h step NotFound call own q
    by_seen o b (seen holds) q =
        let e : Endpoint = w.endpoints dev request.ep in
        let kept : KeptEndpoint = c.endpoints dev request.ep in
        let n : ℕ = (w.names h).next_number in
        let rest : Effect = at_endpoint after dev request.ep (submitted n request round e) in
        unless_steps setup w k s h step rest (calls k h after dev request.ep step (joins (packet_size_of setup dev request.ep) kept n request round)) call own (tests (places_at k h request.ep kept))
        (q ∙ ap (λ l. machine.unless (machine_of setup h w) (tests (l + count_by (is_result_at request.ep) (results_of k h))) rest) (same_length setup w c s h dev request.ep holds))
        (λ p none. submit_steps setup w k fine s h dev request.ep step after n request round (few_bytes request.ep request.body (or_parts _ (is_bad_body request.ep request.body) none.1.1.0).1) call own holds p)

-- Submit
pub submit_call_steps : (setup : Setup) (w : World) (c : Core) → IsFine setup → Shows setup w (with_tables w c) → (h : ℕ) (request : Request)
    → StepsTo setup w (Submit h request) (submit_core setup (with_tables w c) h (w.names h) (Submit h request) request 0 (kept_at setup (with_tables w c) h request.ep))
unfolding effect machine_of
submit_call_steps setup w c fine s h request = submission_steps setup w c fine s h (Submit h request) (w.names h) request 0 (record { owned = refl; no_order = refl; no_news = refl; no_result = refl }) refl refl
