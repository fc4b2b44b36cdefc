-- How far a run is whose entries are printed step by step, and what of them is written.
use Rattle.std.proofs.Common.{◌≡◌, ℕ, ◌⊎◌, inl, inr, true, false, List, [], ◌∷◌, ◌++◌, length, map, append_assoc, append-nil, Option, None, Iter, refl, sym, ◌∙◌, ap, subst}
use Rattle.std.specs.Prelude.{is_some, IfOk, OnOk, Result, Ok, Err}
use Rattle.std.specs.List.{AllByRecursion, count_by}
use Rattle.std.specs.Io.KnownBytes.{Appends}
use Rattle.std.specs.Iterator.Adapters.{zip_first, zip_second, zip_steps}
use Rattle.std.specs.Slice.Iter.{iter_rest, iter_steps}
use Rattle.std.specs.Vec.Iter.{into_iter_items, into_iter_steps}
use Rattle.std.specs.declared.iter.Zip.{Zip}
use Rattle.std.specs.declared.vec.IntoIter.{IntoIter}
use Rattle.std.proofs.lemmas.List.{nil_from_length}
use Rattle.usb_model.specs.declared.entry.Entry.{Entry}
use Rattle.usb_model.specs.declared.plan.Plan.{Plan}
use Rattle.usb_model.specs.declared.step.Step.{Step}
use Rattle.usb_model.specs.declared.verdict.Rule.{Rule}
use Rattle.usb_model.specs.Setup.{Setup}
use Rattle.usb_model.specs.World.Journal.{run_from}
use Rattle.usb_model.specs.World.Plans.{Stage, first_stage, is_submission, stage_after, steps_of}
use Rattle.usb_plans.specs.Drives.{TakesNext}
use Rattle.usb_plans.specs.PlanRuns.{Performs, PlanState, ShowsStage, StandsFor, is_verdict}
use Rattle.proof_laws.proofs.Plans.{AreFixed, IsFixedStage, fixed_after, fixed_once}
use Rattle.usb_plans.proofs.OnlySteps.{stands_only}
use Rattle.usb_plans.proofs.Reached as reached
use Rattle.usb_plans.proofs.Reached.{piece_rules}
use Rattle.usb_plans.proofs.TakenCallbacks.{Takes, has_one, takes}
use Rattle.trace_io.specs.declared.fault.Fault.{Fault}
use Rattle.trace_io.specs.Output.{AppendsAllBut, AppendsSome}
use Rattle.trace_io.proofs.Beginnings.{gathered_further, kept, some_behind, some_further, some_of_front, whole}
use Rattle.trace_run.specs.Printed.{BeginsPiece, PrintsPiece, PrintsText, StartsPlan}
use Rattle.trace_run.specs.Stepwise.{PrintsSteps, piece_text, stepwise_from, stepwise_text}
use Rattle.trace_run.specs.declared.lines.Reach.{Reach}
use Rattle.trace_run.specs.declared.lines.Reach.TheVariants.{End, NoMemory}

-- nothing is printed where there is no line
none_behind : (setup : Setup) (s : Stage) (plan : List Plan) → stepwise_from setup s plan [] ≡ []
unfolding stepwise_from
none_behind setup s [] = refl
none_behind setup s (piece ∷ plan) = refl

-- nor of no plan
none_left : (setup : Setup) (s : Stage) (lines : List (ℕ × List ℕ)) → stepwise_from setup s [] lines ≡ []
unfolding stepwise_from
none_left setup s lines = refl

-- the text of a piece, and of those behind it
piece_first : (setup : Setup) (s : Stage) (piece : Plan) (plan : List Plan) (line : ℕ × List ℕ) (lines : List (ℕ × List ℕ)) (here : List Step) → here ≡ steps_of setup s piece
    → stepwise_from setup s (piece ∷ plan) (line ∷ lines) ≡ piece_text line (run_from setup s.world here) ++ stepwise_from setup (stage_after setup s piece here) plan lines
unfolding stepwise_from
piece_first setup s piece plan line lines here is = ap (λ steps. piece_text line (run_from setup s.world steps) ++ stepwise_from setup (stage_after setup s piece steps) plan lines) (sym is)

-- total: the text of the whole run; old: what stood on the output before
module _ {P : Type 0} (rule : P → Rule) (setup : Setup) (total : List ℕ) (old : Option (List ℕ)) where
  -- some pieces were performed: their text and that of those to come is the whole; of theirs all but these lines are written
  -- ahead: the pieces to come; left: the callbacks of their submissions; behind: their lines
  pub record IsStepwise (v : PlanState P) (ahead : List Plan) (left : List P) (behind : List (ℕ × List ℕ)) (lines : List ℕ) (new : Option (List ℕ)) : Type 0 where
    pub stage : Stage
    pub shows : ShowsStage rule setup v stage
    pub fixed : IsFixedStage stage
    pub under : stage.rules ≡ map rule left
    pub enough : length left ≡ count_by is_submission ahead
    pub no_verdict : AllByRecursion (λ piece. is_verdict piece ≡ false) ahead
    pub done : List ℕ
    pub is_whole : done ++ stepwise_from setup stage ahead behind ≡ total
    pub appended : AppendsAllBut done lines old new

  -- none was
  pub none_yet : (v : PlanState P) (rules : List Rule) (plan ahead : List Plan) (left : List P) (behind : List (ℕ × List ℕ)) (lines : List ℕ) → ahead ≡ plan → ((rs : List Rule) → ShowsStage rule setup v (first_stage setup rs)) → rules ≡ map rule left → length left ≡ count_by is_submission plan
      → AllByRecursion (λ piece. is_verdict piece ≡ false) plan → AreFixed rules → lines ≡ [] → stepwise_from setup (first_stage setup rules) plan behind ≡ total → IsStepwise v ahead left behind lines old
  none_yet v rules plan ahead left behind lines same shows under enough none fixed empty all = subst (λ l. IsStepwise v l left behind lines old) (sym same) first
    where
      first : IsStepwise v plan left behind lines old
      first = record {
        stage = first_stage setup rules;
        shows = shows rules;
        fixed = record { noted = λ h n. fixed_once; coming = fixed };
        under = under;
        enough = enough;
        no_verdict = none;
        done = [];
        is_whole = all;
        appended = ([], sym empty, kept old);
      }

  -- a piece that submits has its callback
  pub has_callback : (v : PlanState P) (ahead beyond : List Plan) (left more : List P) (behind : List (ℕ × List ℕ)) (lines : List ℕ) (new : Option (List ℕ)) (piece : Plan) (callback : Option P) → ahead ≡ piece ∷ beyond → IsStepwise v ahead left behind lines new
      → TakesNext (is_submission piece) left more callback → is_submission piece ≡ true → is_some callback ≡ true
  has_callback v ahead beyond left more behind lines new piece callback comes p next = has_one rule piece beyond left more callback (p.enough ∙ ap (count_by is_submission) comes) next

  -- and is no verdict
  pub is_no_verdict : (v : PlanState P) (ahead beyond : List Plan) (left : List P) (behind : List (ℕ × List ℕ)) (lines : List ℕ) (new : Option (List ℕ)) (piece : Plan) → ahead ≡ piece ∷ beyond → IsStepwise v ahead left behind lines new → is_verdict piece ≡ false
  is_no_verdict v ahead beyond left behind lines new piece comes p = (subst (AllByRecursion (λ q. is_verdict q ≡ false)) comes p.no_verdict).0

  -- one more was performed, from a stage that was shown: its text is the next, and the stage behind it is shown
  record IsNext (stage : Stage) (w : PlanState P) (ahead beyond : List Plan) (more : List P) (behind after : List (ℕ × List ℕ)) (piece : Plan) (line : ℕ × List ℕ) (entries : List Entry) : Type 0 where
    here : List Step
    shows : ShowsStage rule setup w (stage_after setup stage piece here)
    fixed : IsFixedStage (stage_after setup stage piece here)
    under : (stage_after setup stage piece here).rules ≡ map rule more
    enough : length more ≡ count_by is_submission beyond
    text : stepwise_from setup stage ahead behind ≡ piece_text line entries ++ stepwise_from setup (stage_after setup stage piece here) beyond after

  is_next : (v w : PlanState P) (ahead beyond : List Plan) (left more : List P) (behind after : List (ℕ × List ℕ)) (lines : List ℕ) (mid : Option (List ℕ)) (piece : Plan) (callback : Option P) (line : ℕ × List ℕ) (entries : List Entry) → ahead ≡ piece ∷ beyond
      → (p : IsStepwise v ahead left behind lines mid) → behind ≡ line ∷ after → TakesNext (is_submission piece) left more callback → Performs rule v piece callback entries w → IsNext p.stage w ahead beyond more behind after piece line entries
  is_next v w ahead beyond left more behind after lines mid piece callback line entries comes p first next performs = by_steps (performs setup p.stage p.shows taken.under)
    where
      taken : Takes rule p.stage.rules piece beyond callback more
      taken = takes rule p.stage.rules piece beyond left more callback p.under (p.enough ∙ ap (count_by is_submission) comes) next

      by_steps : (steps : List Step) × StandsFor setup p.stage piece steps × (entries ≡ run_from setup p.stage.world steps) × ShowsStage rule setup w (stage_after setup p.stage piece steps) → IsNext p.stage w ahead beyond more behind after piece line entries
      by_steps (steps, stands, run, shows) = record {
        here = steps;
        shows = shows;
        fixed = fixed_after setup p.stage piece steps p.fixed;
        under = piece_rules setup p.stage piece steps stands ∙ taken.left;
        enough = taken.enough;
        text =
            ap (λ l. stepwise_from setup p.stage l behind) comes
            ∙ (ap (stepwise_from setup p.stage (piece ∷ beyond)) first
            ∙ (piece_first setup p.stage piece beyond line after steps (stands_only setup p.stage piece steps p.fixed stands)
            ∙ ap (λ es. piece_text line es ++ stepwise_from setup (stage_after setup p.stage piece steps) beyond after) (sym run)));
      }

  -- what was written, and one more
  all_with : (done text rest before : List ℕ) → done ++ before ≡ total → before ≡ text ++ rest → (done ++ text) ++ rest ≡ total
  all_with done text rest before all is = append_assoc done text rest ∙ (ap (λ l. done ++ l) (sym is) ∙ all)

  -- its lines are put
  pub piece_put : (v w : PlanState P) (ahead beyond : List Plan) (left more : List P) (behind after : List (ℕ × List ℕ)) (lines gathered : List ℕ) (mid new : Option (List ℕ)) (piece : Plan) (callback : Option P) (line : ℕ × List ℕ) → ahead ≡ piece ∷ beyond
      → IsStepwise v ahead left behind lines mid → behind ≡ line ∷ after → TakesNext (is_submission piece) left more callback → PrintsPiece rule (piece_text line) End v piece callback w lines gathered mid new → IsStepwise w beyond more after gathered new
  piece_put v w ahead beyond left more behind after lines gathered mid new piece callback line comes p first next q =
      let n = is_next v w ahead beyond left more behind after lines mid piece callback line q.made comes p first next q.makes in
      record {
        stage = stage_after setup p.stage piece n.here;
        shows = n.shows;
        fixed = n.fixed;
        under = n.under;
        enough = n.enough;
        no_verdict = (subst (AllByRecursion (λ q. is_verdict q ≡ false)) comes p.no_verdict).1;
        done = p.done ++ piece_text line q.made;
        is_whole = all_with p.done (piece_text line q.made) (stepwise_from setup (stage_after setup p.stage piece n.here) beyond after) (stepwise_from setup p.stage ahead behind) p.is_whole n.text;
        appended = gathered_further p.done lines (piece_text line q.made) gathered old mid new p.appended q.put;
      }

  -- a beginning of them is written
  pub piece_begun : (v w : PlanState P) (ahead beyond : List Plan) (left more : List P) (behind after : List (ℕ × List ℕ)) (lines : List ℕ) (mid new : Option (List ℕ)) (piece : Plan) (callback : Option P) (line : ℕ × List ℕ) → ahead ≡ piece ∷ beyond
      → IsStepwise v ahead left behind lines mid → behind ≡ line ∷ after → TakesNext (is_submission piece) left more callback → BeginsPiece rule (piece_text line) v piece callback w lines mid new → AppendsSome total old new
  piece_begun v w ahead beyond left more behind after lines mid new piece callback line comes p first next q =
      let n = is_next v w ahead beyond left more behind after lines mid piece callback line q.made comes p first next q.makes in
      let rest : List ℕ = stepwise_from setup (stage_after setup p.stage piece n.here) beyond after in
      some_of_front total (p.done ++ piece_text line q.made) rest old new (sym (all_with p.done (piece_text line q.made) rest (stepwise_from setup p.stage ahead behind) p.is_whole n.text))
      (some_further p.done lines (piece_text line q.made) old mid new p.appended q.some)

  -- of those that were gathered a beginning is written
  pub rest_begun : (v : PlanState P) (ahead : List Plan) (left : List P) (behind : List (ℕ × List ℕ)) (lines : List ℕ) (mid new : Option (List ℕ)) → IsStepwise v ahead left behind lines mid → AppendsSome lines mid new → AppendsSome total old new
  rest_begun v ahead left behind lines mid new p some =
      some_of_front total p.done (stepwise_from setup p.stage ahead behind) old new (sym p.is_whole)
      (some_behind p.done p.appended.0 lines old mid new p.appended.1 p.appended.2 some)

  -- what is written at the end of a run that came so far: to the end of the plan, or of its lines, or to a step that found no memory
  pub ended : (reach r : Reach) (v : PlanState P) (ahead : List Plan) (left : List P) (behind : List (ℕ × List ℕ)) (lines : List ℕ) (mid new : Option (List ℕ)) → r ≡ reach → (reach ≡ End → (ahead ≡ []) ⊎ (behind ≡ [])) → IsStepwise v ahead left behind lines mid → Appends mid new lines → PrintsText r total old new
  ended reach r v ahead left behind lines mid new same past p rest = subst (λ x. PrintsText x total old new) (sym same) (by_reach reach past)
    where
      written : Appends old new p.done
      written = whole p.done lines old mid new p.appended rest

      none : (ahead ≡ []) ⊎ (behind ≡ []) → stepwise_from setup p.stage ahead behind ≡ []
      none (inl end) = ap (λ l. stepwise_from setup p.stage l behind) end ∙ none_left setup p.stage behind
      none (inr empty) = ap (stepwise_from setup p.stage ahead) empty ∙ none_behind setup p.stage ahead

      by_reach : (x : Reach) → (x ≡ End → (ahead ≡ []) ⊎ (behind ≡ [])) → PrintsText x total old new
      by_reach End past = subst (Appends old new) (sym (append-nil p.done) ∙ (ap (λ l. p.done ++ l) (sym (none (past refl))) ∙ p.is_whole)) written
      by_reach NoMemory past = (p.done, (stepwise_from setup p.stage ahead behind, sym p.is_whole), written)

  -- if the rest is written
  pub ended_if : (reach : Reach) (result : Result Reach Fault) (v : PlanState P) (ahead : List Plan) (left : List P) (behind : List (ℕ × List ℕ)) (lines : List ℕ) (mid new : Option (List ℕ)) → (reach ≡ End → (ahead ≡ []) ⊎ (behind ≡ [])) → IsStepwise v ahead left behind lines mid
      → IfOk result (λ r. r ≡ reach) → OnOk result (Appends mid new lines) → IfOk result (λ r. PrintsText r total old new)
  ended_if reach (Ok r) v ahead left behind lines mid new past p same rest = ended reach r v ahead left behind lines mid new same past p rest
  ended_if reach (Err fault) v ahead left behind lines mid new past p same rest = tt

  -- so it is where a step found no memory, and nothing of it was put
  pub stopped_if : (result : Result Reach Fault) (v : PlanState P) (ahead : List Plan) (left : List P) (behind : List (ℕ × List ℕ)) (lines lines' : List ℕ) (mid mid' new : Option (List ℕ)) → IsStepwise v ahead left behind lines mid → (lines' ≡ lines) × (mid' ≡ mid)
      → IfOk result (λ r. r ≡ NoMemory) → OnOk result (Appends mid' new lines') → IfOk result (λ r. PrintsText r total old new)
  stopped_if result v ahead left behind lines lines' mid mid' new p same is rest =
      ended_if NoMemory result v ahead left behind lines mid new (λ e. absurd cc) p is (subst (λ m. OnOk result (Appends m new lines)) same.1 (subst (λ l. OnOk result (Appends mid' new l)) same.0 rest))

  -- and a beginning is written however that ends
  pub stopped_begun : (v : PlanState P) (ahead : List Plan) (left : List P) (behind : List (ℕ × List ℕ)) (lines lines' : List ℕ) (mid mid' new : Option (List ℕ)) → IsStepwise v ahead left behind lines mid → (lines' ≡ lines) × (mid' ≡ mid) → AppendsSome lines' mid' new → AppendsSome total old new
  stopped_begun v ahead left behind lines lines' mid mid' new p same some =
      rest_begun v ahead left behind lines mid new p (subst (λ m. AppendsSome lines m new) same.1 (subst (λ l. AppendsSome l mid' new) same.0 some))

-- where the pieces and the lines beside them end, nothing is to come of one of the two
pub none_ahead : {X Y B Z : Type 0} (f : Y → B) (ahead after : Zip (IntoIter X Z) (Iter Y)) → zip_steps into_iter_steps iter_steps ahead None after → (into_iter_items (zip_first ahead) ≡ []) ⊎ (map f (iter_rest (zip_second ahead)) ≡ [])
none_ahead f ahead after (inl none) = inl (reached.none_ahead (zip_first ahead) none.1.0)
none_ahead f ahead after (inr none) = inr (ap (map f) (nil_from_length (iter_rest (zip_second ahead)) none.1.0))

module _ {P : Type 0} {E : Type 0} (rule : P → Rule) (plan : List Plan) (lines : List (ℕ × List ℕ)) (run : PlanState P) (left : List P) (old new : Option (List ℕ)) where
  -- what is printed over each setup and under all rules for which the run stands at the plan's beginning
  pub each_start : (result : Result Reach E) → ((setup : Setup) (rules : List Rule) → StartsPlan rule setup plan rules run left → IfOk result (λ r. PrintsText r (stepwise_text setup plan rules lines) old new)) → IfOk result (λ r. PrintsSteps rule r plan lines run left old new)
  each_start (Ok r) each = each
  each_start (Err e) each = tt

  -- and so for these
  pub of_start : (result : Result Reach E) (setup : Setup) (rules : List Rule) → StartsPlan rule setup plan rules run left → IfOk result (λ r. PrintsSteps rule r plan lines run left old new) → IfOk result (λ r. PrintsText r (stepwise_text setup plan rules lines) old new)
  of_start (Ok r) setup rules starts said = said setup rules starts
  of_start (Err e) setup rules starts said = tt
