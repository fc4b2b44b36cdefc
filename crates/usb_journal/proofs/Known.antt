-- What is known of each transfer of a machine by its number, its request and its round stays known over any step.
use Rattle.std.proofs.Common.{◌≡◌, ◌==◌, ◌++◌, ℕ, Bool, true, false, Some, ap, refl, subst, sym}
use Rattle.std.proofs.lemmas.Bool.{eqb-true}
use Rattle.std.specs.List.{AllByRecursion}
use Rattle.usb_model.specs.declared.effect.Effect.{Effect}
use Rattle.usb_model.specs.declared.endpoint.Endpoint.{Endpoint}
use Rattle.usb_model.specs.declared.endpoint_effect.EndpointEffect.{EndpointEffect}
use Rattle.usb_model.specs.declared.handle.Handle.{Handle}
use Rattle.usb_model.specs.declared.request.Request.{Request}
use Rattle.usb_model.specs.declared.step.Step.{Step}
use Rattle.usb_model.specs.Fitness.{IsWell}
use Rattle.usb_model.specs.Laws.Bounds.{line_at}
use Rattle.usb_model.specs.Machine.Turns.{machine_after, takes_result}
use Rattle.usb_model.specs.Machine.{Machine, at_endpoint, device_of, endpoint_at}
use Rattle.usb_model.specs.Setup.{Setup}
use Rattle.usb_model.specs.World.Shared.{past_first}
use Rattle.proof_model.proofs.Bounds.Items.{KeepsItems, OfItem, OfResult, keeps_work}
use Rattle.proof_model.proofs.Bounds.Runs.{OfCallback, rest_callbacks, rest_items, rest_part}
use Rattle.proof_model.proofs.Calls.{work_callbacks}
use Rattle.proof_model.proofs.Machines.Acts.{end_set, rests_at, works_elsewhere}
use Rattle.proof_model.proofs.Machines.Deeds.{IsDone, IsRest, IsSubmission, IsWork, only_rests, works}
use Rattle.proof_model.proofs.Places.Placed.{takes_no_result}
use Rattle.proof_model.proofs.Lists.Parts.{each_append, each_part, each_weaker}

-- of each transfer in a line, in a result, and in its callback
pub record Known (P : ℕ → Request → ℕ → Type 0) (m : Machine) : Type 0 where
  pub items : (ep : ℕ) → AllByRecursion (OfItem P) (line_at (endpoint_at m ep))
  pub results : AllByRecursion (OfResult P) m.results
  pub in_callbacks : AllByRecursion (OfCallback P) m.handle.in_callbacks

-- what follows of each is known of each
pub known_weaker : (P Q : ℕ → Request → ℕ → Type 0) (m : Machine) → ((n : ℕ) (request : Request) (round : ℕ) → P n request round → Q n request round) → Known P m → Known Q m
known_weaker P Q m f k = record {
  items = λ ep. each_weaker (OfItem P) (OfItem Q) (line_at (endpoint_at m ep)) (λ x p. f x.n x.request x.round p) (k.items ep);
  results = each_weaker (OfResult P) (OfResult Q) m.results (λ x p. f x.n x.request x.round p) k.results;
  in_callbacks = each_weaker (OfCallback P) (OfCallback Q) m.handle.in_callbacks (λ x p. f x.n x.request x.round p) k.in_callbacks;
}

-- those in callbacks after a step, by the results and those in callbacks before it
pub callbacks_after : (P : ℕ → Request → ℕ → Type 0) (setup : Setup) (h : ℕ) (m : Machine) (step : Step) (done : Effect) → IsDone setup h m step done → AllByRecursion (OfResult P) m.results → AllByRecursion (OfCallback P) m.handle.in_callbacks
    → AllByRecursion (OfCallback P) (machine_after setup m step done).handle.in_callbacks
unfolding machine_after at_endpoint
callbacks_after P setup h m step done (only_rests rest) rs cs = rest_callbacks P setup h m step done rest rs cs
callbacks_after P setup h m step done (works {handle = handle} {d = d} ep e here work) rs cs = work_callbacks setup m ep e step handle d (OfCallback P) work cs

-- the results behind work
results_after : (setup : Setup) (m : Machine) (step : Step) (handle : Handle) (dev ep : ℕ) (d : EndpointEffect) → takes_result step ≡ false → (machine_after setup m step (at_endpoint handle dev ep d)).results ≡ m.results ++ d.results
unfolding machine_after at_endpoint
results_after setup m step handle dev ep d none = ap (λ b. past_first b m.results ++ d.results) none

-- a step without work keeps it known
pub known_rest : (P : ℕ → Request → ℕ → Type 0) (setup : Setup) (h : ℕ) (m : Machine) (step : Step) (done : Effect) → IsWell setup m → IsRest setup h m step done → Known P m → Known P (machine_after setup m step done)
known_rest P setup h m step done well rest k = record {
  items = λ ep. rest_items (OfItem P) setup ep m (machine_after setup m step done) step (rests_at setup h m step done ep well rest) (k.items ep);
  results = each_part (OfResult P) (rest_part setup h m step done rest) k.results;
  in_callbacks = callbacks_after P setup h m step done (only_rests rest) k.results k.in_callbacks;
}

-- and work, if it is of what is submitted
pub known_work : (P : ℕ → Request → ℕ → Type 0) (setup : Setup) (h : ℕ) (m : Machine) (step : Step) (ep : ℕ) (e : Endpoint) (handle : Handle) (d : EndpointEffect) → endpoint_at m ep ≡ Some e → IsWork setup m ep e step handle d
    → ((left : Handle) (request : Request) (round : ℕ) → IsSubmission m.handle step left request round → P m.handle.next_number request round) → Known P m → Known P (machine_after setup m step (at_endpoint handle (device_of m) ep d))
known_work P setup h m step ep e handle d here work new k = record {
  items = λ at. items_at at (ep == at) refl;
  results = subst (AllByRecursion (OfResult P)) (sym (results_after setup m step handle (device_of m) ep d (takes_no_result setup m ep e step handle d work))) (each_append (OfResult P) m.results d.results k.results left.results);
  in_callbacks = callbacks_after P setup h m step (at_endpoint handle (device_of m) ep d) (works ep e here work) k.results k.in_callbacks;
}
  where
    m' : Machine
    m' = machine_after setup m step (at_endpoint handle (device_of m) ep d)

    left : KeepsItems P d
    left = keeps_work P setup m ep e step handle d work (λ rest request round is at. new rest request round is) (subst (λ o. AllByRecursion (OfItem P) (line_at o)) here (k.items ep))

    items_at : (at : ℕ) (b : Bool) → (ep == at) ≡ b → AllByRecursion (OfItem P) (line_at (endpoint_at m' at))
    items_at at true is = subst (λ i. AllByRecursion (OfItem P) (line_at (endpoint_at m' i))) (eqb-true ep at is) (subst (λ o. AllByRecursion (OfItem P) (line_at o)) (sym (end_set setup m ep e step handle d here work)) left.items)
    items_at at false other = subst (λ o. AllByRecursion (OfItem P) (line_at o)) (sym (works_elsewhere setup m step handle d ep e work at other).end) (k.items at)
