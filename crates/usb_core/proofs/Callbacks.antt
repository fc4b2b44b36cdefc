-- The transfer of a callback is submitted once more: what the calls that this is made of come to.
use Rattle.std.proofs.Common.{Bool, ◌≡◌, ℕ, ◌+◌, refl, ap, sym, subst, ◌∙◌, List, Option, Some, None, Ok, Err}
use Rattle.std.specs.Prelude.{◌==◌, ◌&&◌, if◌then◌else◌}
use Rattle.usb_model.specs.declared.refused.Refused.{Refused as Why}
use Rattle.usb_model.specs.declared.refused.Refused.TheVariants.{NotFound}
use Rattle.usb_model.specs.declared.reply.Reply.TheVariants.{Refused}
use Rattle.usb_model.specs.declared.result.InCallback.{InCallback}
use Rattle.usb_model.specs.declared.step.Step.TheVariants.{Answer}
use Rattle.usb_model.specs.declared.request.Request.{Request}
use Rattle.usb_model.specs.declared.verdict.Verdict.TheVariants.{Again}
use Rattle.proof_model.proofs.Lists.Pieces.{same_name}
use Rattle.usb_model.specs.Setup.{Setup}
use Rattle.usb_model.specs.World.{World}
use Rattle.usb_tables.specs.HandleState.{Kept as HandleState, is_one_of}
use Rattle.usb_tables.specs.HandleStates.{SameCallbacks, SameCounts, SameNumbers, SameResults, callback_at, callbacks_at, is_there}
use Rattle.refine_world.specs.Shows.{Core, Shows}
use Rattle.refine_core.specs.Handles.{says}
use Rattle.refine_core.specs.State.{Keeps, State}
use Rattle.refine_core.specs.Steps.{DoesCoreStep}
use Rattle.refine_core.specs.Submissions.{Admits}
use Rattle.refine_core.proofs.Again.{again_none, again_refused}
use Rattle.refine_core.proofs.Stops.{Ended}
use Rattle.usb_core.specs.Submissions.{AgainAt, IsResubmission}
use Rattle.usb_core.specs.declared.submission.Admission.{Admission}

-- room is asked for, and the callback is taken
pub ended_by : (old room new : List HandleState) (h n : ℕ) (o : Option InCallback) → SameNumbers old room → SameCallbacks old room → SameResults old room → SameCounts old room → o ≡ callback_at room h n
    → ((g k : ℕ) → callback_at new g k ≡ (if is_there h n g k then None else callback_at room g k))
    → ((g id : ℕ) → callbacks_at room g id ≡ callbacks_at new g id + (if (h == g) && is_one_of id o then 1 else 0)) → SameNumbers room new → SameResults room new → Ended old new h n
ended_by old room new h n o numbers callbacks results counts is ended fewer numbers_now results_now = record {
  callbacks = λ g k. ended g k ∙ ap (λ (x : Option InCallback). if is_there h n g k then None else x) (callbacks g k);
  counts = λ g id. sym (counts g id) ∙ fewer g id ∙ ap (λ (x : Option InCallback). callbacks_at new g id + (if (h == g) && is_one_of id x then 1 else 0)) (is ∙ callbacks h n);
  numbers = λ g. numbers_now g ∙ numbers g;
  results = λ g id. results_now g id ∙ results g id;
}

module _ {P : Type 0} where
  -- what is refused
  pub refuses_again : (s : State P) (h n : ℕ) (why : Why) → IsResubmission s h n (Err why) → DoesCoreStep s (Answer h n Again) (says h (Refused why)) s
  refuses_again s h n why is = by_found (callback_at s.callers h n) refl is
    where
      by_found : (o : Option InCallback) → callback_at s.callers h n ≡ o → AgainAt s h o (Err why) → DoesCoreStep s (Answer h n Again) (says h (Refused why)) s
      by_found None none same =
          let one : NotFound ≡ why = cc in
          subst (λ (r : Why). DoesCoreStep s (Answer h n Again) (says h (Refused r)) s) one (again_none s h n Again none)
      by_found (Some x) found refused = again_refused s h n Again x x.request why found refl refused

  -- what is accepted
  pub admits_again : (s : State P) (h n : ℕ) (x : InCallback) (admission : Admission) → callback_at s.callers h n ≡ Some x → IsResubmission s h n (Ok admission)
      → (setup : Setup) (w : World) (c : Core) → Keeps setup s c → Shows setup w c → Admits setup s c h admission.dev x.request admission.tds
  admits_again s h n x admission found is = subst (λ (o : Option InCallback). AgainAt s h o (Ok admission)) found is

-- it isn't in its callback once that ended
pub absent : (amid : List HandleState) (old : List HandleState) (h n k : ℕ) → k ≡ n → Ended old amid h n → callback_at amid h k ≡ None
absent amid old h n k number ended =
    ap (callback_at amid h) number ∙ ended.callbacks h n ∙ ap (λ (b : Bool). if b && (n == n) then None else callback_at old h n) (same_name h) ∙ ap (λ (b : Bool). if b then None else callback_at old h n) (same_name n)

-- a submission is accepted there
abbrev pub AdmitsIt : {P : Type 0} → State P → ℕ → Request → Admission → Type 0
AdmitsIt s h request admission = (setup : Setup) (w : World) (c : Core) → Keeps setup s c → Shows setup w c → Admits setup s c h admission.dev request admission.tds
