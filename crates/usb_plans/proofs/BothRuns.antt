-- Two runs of a plan, kept together.
use Rattle.std.proofs.Common.{◌≡◌, ℕ, ◌+◌, ◌<◌, ◌≤◌, Bool, true, false, List, [], ◌∷◌, ◌++◌, length, map, slice_index_or, Option, None, Some, Result, Ok, Err, refl, ap, sym, ◌∙◌, subst, arith}
use Rattle.std.specs.Prelude.{IfOk, is_some}
use Rattle.std.specs.List.{AllByRecursion, count_by}
use Rattle.usb_model.specs.declared.entry.Entry.{Entry}
use Rattle.usb_model.specs.declared.plan.Plan.{Plan}
use Rattle.usb_model.specs.declared.step.Step.{Step}
use Rattle.usb_model.specs.declared.verdict.Rule.{Rule}
use Rattle.usb_model.specs.Setup.{Setup}
use Rattle.usb_model.specs.Machine.Turns.{alone}
use Rattle.usb_model.specs.World.Journal.{IsBeginning, entries, own, world_run}
use Rattle.usb_model.specs.World.Plans.{expand, first_stage, is_submission}
use Rattle.proof_model.proofs.Handles.Alone.{runs_alone}
use Rattle.proof_model.proofs.Handles.Isolation.{sees_alone}
use Rattle.usb_plans.specs.Alone.{AdvancesBoth, AreLeft, Begins, PerformsTwice, StartsBoth, TellsPlan, TwinState, alone_of, is_own_by, shared_of}
use Rattle.usb_plans.specs.declared.comparison.Comparison.{Comparison}
use Rattle.usb_plans.specs.declared.plan_run.Performed.{Performed}
use Rattle.usb_plans.specs.declared.twins.TwinPiece.{TwinPiece}
use Rattle.usb_plans.specs.Drives.{TakesNext}
use Rattle.usb_plans.specs.PlanRuns.{Performs, ShowsStage, entries_of, is_verdict}
use Rattle.usb_plans.proofs.Apart.{entries_in_order, entries_once}
use Rattle.usb_plans.proofs.ApartPlans as plans
use Rattle.usb_plans.proofs.ApartPlans.{Beside}
use Rattle.proof_laws.proofs.Expansion.{expands_alone}
use Rattle.proof_laws.proofs.Plans.{AreFixed}

module _ {P : Type 0} where
  -- where a callback is left, a submission has one
  pub is_next : (submits : Bool) (left more : List P) (out : Option P) → TakesNext submits left more out → submits ≡ true → 0 < length left → is_some out ≡ true
  is_next true [] more out next submits some = absurd (omega arith)
  is_next true (c ∷ cs) more out next submits some = ap (λ o. is_some o) next.0
  is_next false left more out next submits some = absurd cc

  -- one is left where any submission has one
  some_left : (left : List P) → ((more : List P) (out : Option P) → TakesNext true left more out → is_some out ≡ true) → 0 < length left
  some_left [] has = absurd (cc (has [] None (refl, refl)))
  some_left (c ∷ cs) has = omega arith

module _ {P : Type 0} (rule : P → Rule) (h : ℕ) (piece : Plan) (callback mine : Option P) (v w : TwinState P) where
  -- a piece of the handle's own was performed by both
  pub performs_two : (t : TwinPiece P) (own : Bool) → Performs rule v.run piece callback (entries_of t.shared) w.run → own ≡ is_own_by h piece t.shared.entry → own ≡ true → Performs rule v.own piece mine (entries_of t.alone) w.own → w.left ≡ v.left → w.its ≡ v.its
      → PerformsTwice rule h piece callback mine v w (Some t)
  performs_two t own performs tested owned again left its = record { both = (performs, sym tested ∙ owned, again); left = left; its = its }

  -- a piece of another, by the first alone
  pub performs_one : (x : Performed P) (own : Bool) → Performs rule v.run piece callback (entries_of x) w.run → own ≡ is_own_by h piece x.entry → own ≡ false → w.own ≡ v.own → w.left ≡ v.left → w.its ≡ v.its → PerformsTwice rule h piece callback mine v w None
  performs_one x own performs tested others same left its = record { both = (x, performs, sym tested ∙ others, same); left = left; its = its }

  -- and so with the callbacks that were next
  pub advances : {E : Type 0} (left its : List P) (r : Result (Option (TwinPiece P)) E) → TakesNext (is_submission piece) left v.left callback → TakesNext (is_submission piece) its v.its mine
      → IfOk r (λ told. PerformsTwice rule h piece callback mine v w told) → IfOk r (λ told. AdvancesBoth rule h piece (record { run = v.run; own = v.own; left = left; its = its }) w told)
  advances left its (Ok told) next next_its twice = record {
    callback = callback;
    mine = mine;
    takes = subst (λ l. TakesNext (is_submission piece) left l callback) (sym twice.left) next;
    takes_its = subst (λ l. TakesNext (is_submission piece) its l mine) (sym twice.its) next_its;
    both = twice.both;
  }
  advances left its (Err e) next next_its twice = tt

module _ {P : Type 0} (rule : P → Rule) (setup : Setup) (plan : List Plan) (rules : List Rule) (h : ℕ) where
  -- so many pieces were performed; the entries that were told of either run
  abbrev pub AreBeside : TwinState P → (shared apart : List Entry) → ℕ → Type 0
  AreBeside v shared apart i = Beside rule setup plan rules h v.run v.own shared apart i v.left v.its

  -- none was
  pub none_yet : (other : Setup) (callbacks others : List P) (v : TwinState P) → Begins rule setup other callbacks others v → other ≡ setup → rules ≡ map rule callbacks → map rule others ≡ map rule callbacks → AreFixed rules
      → length callbacks ≡ count_by is_submission plan → AllByRecursion (λ piece. is_verdict piece ≡ false) plan → AreBeside v [] [] 0
  none_yet other callbacks others v b same under again fixed enough none =
      plans.none_yet rule setup plan rules h v.run v.own v.left v.its b.run (subst (λ s. (rs : List Rule) → ShowsStage rule s v.own (first_stage s rs)) same b.own) (under ∙ ap (map rule) (sym b.left))
      (ap (map rule) b.its ∙ (again ∙ ap (map rule) (sym b.left))) fixed (ap length b.left ∙ enough) none

  -- a piece is no verdict
  pub is_no_verdict : (v : TwinState P) (shared apart : List Entry) (i : ℕ) (piece : Plan) → i < length plan → piece ≡ slice_index_or plan i piece → AreBeside v shared apart i → is_verdict piece ≡ false
  is_no_verdict v shared apart i piece within item b = plans.is_no_verdict rule setup plan rules h v.run v.own shared apart i v.left v.its piece within item b

  -- and where it submits, either run has a callback for it
  pub are_left : (v : TwinState P) (shared apart : List Entry) (i : ℕ) (piece : Plan) → i < length plan → piece ≡ slice_index_or plan i piece → AreBeside v shared apart i → is_submission piece ≡ true → AreLeft v
  are_left v shared apart i piece within item b submits = (
    some_left v.left (λ more out next. plans.has_callback rule setup plan rules h v.run v.own shared apart i v.left v.its more piece out within item b (subst (λ t. TakesNext t v.left more out) (sym submits) next) submits),
    some_left v.its (λ more out next. plans.has_its rule setup plan rules h v.run v.own shared apart i v.left v.its more piece out within item b (subst (λ t. TakesNext t v.its more out) (sym submits) next) submits),
  )

  -- one piece more
  pub one_more : (v w : TwinState P) (shared apart : List Entry) (i : ℕ) (piece : Plan) (told : Option (TwinPiece P)) → i < length plan → piece ≡ slice_index_or plan i piece → AreBeside v shared apart i → AdvancesBoth rule h piece v w told
      → AreBeside w (shared ++ shared_of told) (apart ++ alone_of told) (i + 1)
  one_more v w shared apart i piece told within item b a =
      plans.one_more rule setup plan rules h v.run w.run v.own w.own shared apart i v.left v.its w.left w.its piece a.callback a.mine told within item b a.takes a.takes_its a.both

  -- what was told of the run alone is a beginning of the handle's entries alone
  pub begins : (v : TwinState P) (shared apart : List Entry) (i : ℕ) → AreBeside v shared apart i → IsBeginning apart (alone setup (own setup (expand setup plan rules) h) h)
  begins v shared apart i b = subst (IsBeginning apart) (sees_alone setup (expand setup plan rules) h) (plans.begins rule setup plan rules h v.run v.own shared apart i v.left v.its b)

  -- the whole plan
  pub all_told : (v : TwinState P) (told : Comparison) (i : ℕ) → length plan ≤ i → AreBeside v told.shared told.alone i → TellsPlan setup plan rules h told
  all_told v told i past b = record {
    shared = shared;
    machine = runs ∙ (runs_alone setup steps h ∙ sees_alone setup steps h);
    runs = runs;
    part = runs ∙ ap (world_run setup) (sym (expands_alone setup plan rules h));
    same = same;
    once = entries_once setup steps h told.shared shared;
    order = entries_in_order setup steps h told.shared shared;
  }
    where
      steps : List Step
      steps = expand setup plan rules

      shared : told.shared ≡ entries setup steps h
      shared = plans.all_told rule setup plan rules h v.run v.own told.shared told.alone i v.left v.its past b

      same : told.shared ≡ told.alone
      same = sym b.told_alone

      runs : told.alone ≡ world_run setup (own setup steps h)
      runs = sym same ∙ (shared ∙ sym (runs_alone setup steps h))

  -- of which are the entries of the handle alone
  pub all_alone : (v : TwinState P) (shared apart : List Entry) (i : ℕ) → length plan ≤ i → AreBeside v shared apart i → apart ≡ alone setup (own setup (expand setup plan rules) h) h
  all_alone v shared apart i past b = (all_told v (record { shared = shared; alone = apart }) i past b).machine

-- and so do two, side by side
pub starts_both : {P : Type 0} (rule : P → Rule) (setup other : Setup) (plan : List Plan) (callbacks others : List P) (v : TwinState P) → Begins rule setup other callbacks others v → other ≡ setup → map rule others ≡ map rule callbacks
    → length callbacks ≡ count_by is_submission plan → AreFixed (map rule callbacks) → AllByRecursion (λ piece. is_verdict piece ≡ false) plan → StartsBoth rule setup plan (map rule callbacks) v
starts_both rule setup other plan callbacks others v b same again enough fixed none = record {
  begins = record { run = b.run; own = subst (λ s. (rs : List Rule) → ShowsStage rule s v.own (first_stage s rs)) same b.own; left = refl; its = refl };
  under = ap (map rule) (sym b.left);
  again = ap (map rule) b.its ∙ (again ∙ ap (map rule) (sym b.left));
  enough = ap length b.left ∙ enough;
  fixed = fixed;
  no_verdict = none;
}
