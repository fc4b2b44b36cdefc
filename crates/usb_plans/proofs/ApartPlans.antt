-- A run of a plan beside one of a handle's own part of it.
use Rattle.std.proofs.Common.{◌≡◌, ℕ, ◌+◌, ◌<◌, ◌≤◌, true, false, List, [], ◌∷◌, ◌++◌, drop, length, map, slice_index_or, Option, None, Some, refl, ap, sym, ◌∙◌, subst, append-nil, append_assoc}
use Rattle.std.specs.Prelude.{is_some}
use Rattle.std.specs.List.{AllByRecursion, count_by}
use Rattle.std.proofs.lemmas.Bool.{eqb-true}
use Rattle.std.proofs.lemmas.List.{drop_all, drop_more, length-map}
use Rattle.usb_model.specs.declared.entry.Entry.{Entry}
use Rattle.usb_model.specs.declared.plan.Plan.{Plan}
use Rattle.usb_model.specs.declared.plan.Plan.TheVariants.{Do, Return}
use Rattle.usb_model.specs.declared.step.Step.{Step}
use Rattle.usb_model.specs.declared.verdict.Rule.{Rule}
use Rattle.usb_model.specs.Setup.{Setup}
use Rattle.usb_model.specs.World.{turn, world_from}
use Rattle.usb_model.specs.World.Journal.{IsBeginning, entries, is_own, journal, journal_from, run_from}
use Rattle.usb_model.specs.World.Plans.{Stage, expand, expand_from, first_stage, is_own_piece, is_submission, rule_for, rules_after, stage_after, steps_of}
use Rattle.proof_model.proofs.Handles.Alone.{only_new}
use Rattle.proof_model.proofs.Handles.Isolation.{entries_from}
use Rattle.usb_plans.specs.Alone.{PerformsBoth, alone_of, is_own_by, place_of, shared_of}
use Rattle.usb_plans.specs.Drives.{Advances, TakesNext}
use Rattle.usb_plans.specs.PlanRuns.{Performs, PlanState, ShowsStage, StandsFor, entries_of, is_verdict}
use Rattle.usb_plans.specs.declared.plan_run.Performed.{Performed}
use Rattle.usb_plans.specs.declared.twins.TwinPiece.{TwinPiece}
use Rattle.proof_laws.proofs.Expansion.{IsOthersPiece, IsOwnPiece, IsSame, others_piece, own_piece, same_after, same_past}
use Rattle.proof_laws.proofs.Plans.{AreFixed, IsFixedStage, fixed_after, fixed_once}
use Rattle.usb_plans.proofs.OnlySteps.{stands_only}
use Rattle.usb_plans.proofs.Reached.{piece_rules, piece_world}
use Rattle.proof_laws.proofs.OwnEntries.{entries-append, entries_all, entries_none, told_again}
use Rattle.usb_plans.proofs.TakenCallbacks.{Takes, has_one, takes}

-- the same stage but for the rules to come
abbrev ruled : Stage → List Rule → Stage
ruled s rules = record { world = s.world; book = s.book; rules = rules }

-- it is shown as well
shown_ruled : {P : Type 0} (rule : P → Rule) (setup : Setup) (v : PlanState P) (s : Stage) (rules : List Rule) → ShowsStage rule setup v s → ShowsStage rule setup v (ruled s rules)
shown_ruled rule setup v s rules x = record { world = x.world; kept = x.kept; carries = x.carries; under = x.under; running = x.running; its = x.its }

-- a piece's first entry tells whether it is the handle's own
pub own_by_first : (setup : Setup) (h : ℕ) (s : Stage) (piece : Plan) (here : List Step) (first : Entry) (more : List Entry) → here ≡ steps_of setup s piece → first ∷ more ≡ run_from setup s.world here → is_own_piece setup h s piece ≡ is_own_by h piece first
unfolding journal_from
own_by_first setup h s (Do step) here first more is told = ap (λ e. is_own h (place_of step e)) (sym (first_is first more (turn setup s.world step).entry [] (told ∙ ap (run_from setup s.world) is)))
  where
    first_is : (x : Entry) (xs : List Entry) (y : Entry) (ys : List Entry) → x ∷ xs ≡ y ∷ ys → x ≡ y
    first_is x xs y ys e = cc
own_by_first setup h s (Return g n) here first more is told = refl

-- a piece of the handle's own has the same rule at both stages
rule_again : (setup : Setup) (h : ℕ) (s t : Stage) (piece : Plan) → IsSame setup h s t → is_own_piece setup h s piece ≡ true → t.rules ≡ s.rules → rule_for s.book s.rules piece ≡ rule_for t.book t.rules piece
rule_again setup h s t (Do step) same mine rules = ap (λ rs. rule_for s.book rs (Do step)) (sym rules)
rule_again setup h s t (Return g n) same mine rules = subst (λ k. s.book k n ≡ t.book k n) (sym (eqb-true g h mine)) (same.book n)

module _ {P : Type 0} (rule : P → Rule) (setup : Setup) (plan : List Plan) (rules : List Rule) (h : ℕ) where
  -- so many pieces were performed, and of the handle's own the same beside: to the handle both stages are one, and it was told the same.
  -- left, its: the callbacks of the submissions to come, for either run
  pub record Beside (v u : PlanState P) (shared apart : List Entry) (i : ℕ) (left its : List P) : Type 0 where
    pub stage : Stage
    pub alone : Stage
    pub shows : ShowsStage rule setup v stage
    pub shows_alone : ShowsStage rule setup u alone
    pub fixed : IsFixedStage stage
    pub fixed_alone : IsFixedStage alone
    pub same : IsSame setup h stage alone
    pub told : shared ++ entries_from setup h stage.world (expand_from setup stage (drop i plan)) ≡ entries setup (expand setup plan rules) h
    pub told_alone : apart ≡ shared
    pub under : stage.rules ≡ map rule left
    pub under_alone : alone.rules ≡ stage.rules
    pub again : map rule its ≡ map rule left
    pub enough : length left ≡ count_by is_submission (drop i plan)
    pub no_verdict : AllByRecursion (λ piece. is_verdict piece ≡ false) (drop i plan)

  -- none was
  pub none_yet : (v u : PlanState P) (left its : List P) → ((rs : List Rule) → ShowsStage rule setup v (first_stage setup rs)) → ((rs : List Rule) → ShowsStage rule setup u (first_stage setup rs)) → rules ≡ map rule left → map rule its ≡ map rule left
      → AreFixed rules → length left ≡ count_by is_submission plan → AllByRecursion (λ piece. is_verdict piece ≡ false) plan → Beside v u [] [] 0 left its
  unfolding journal
  none_yet v u left its shows shows_alone under again fixed enough none = record {
    stage = first_stage setup rules;
    alone = first_stage setup rules;
    shows = shows rules;
    shows_alone = shows_alone rules;
    fixed = record { noted = λ g n. fixed_once; coming = fixed };
    fixed_alone = record { noted = λ g n. fixed_once; coming = fixed };
    same = record { machine = refl; only = only_new setup h; book = λ n. refl };
    told = refl;
    told_alone = refl;
    under = under;
    under_alone = refl;
    again = again;
    enough = enough;
    no_verdict = none;
  }

  -- what is left at a piece
  rest_is : (i : ℕ) (piece : Plan) → i < length plan → piece ≡ slice_index_or plan i piece → drop i plan ≡ piece ∷ drop (i + 1) plan
  rest_is i piece within item = drop_more plan i piece within ∙ ap (λ y. y ∷ drop (i + 1) plan) (sym item)

  -- it is no verdict
  pub is_no_verdict : (v u : PlanState P) (es apart : List Entry) (i : ℕ) (left its : List P) (piece : Plan) → i < length plan → piece ≡ slice_index_or plan i piece → Beside v u es apart i left its → is_verdict piece ≡ false
  is_no_verdict v u es apart i left its piece within item b = (subst (AllByRecursion (λ p. is_verdict p ≡ false)) (rest_is i piece within item) b.no_verdict).0

  -- there is a callback for each submission to come
  enough_here : (v u : PlanState P) (es apart : List Entry) (i : ℕ) (left its : List P) (piece : Plan) → i < length plan → piece ≡ slice_index_or plan i piece → Beside v u es apart i left its → length left ≡ count_by is_submission (piece ∷ drop (i + 1) plan)
  enough_here v u es apart i left its piece within item b = b.enough ∙ ap (count_by is_submission) (rest_is i piece within item)

  -- in either run
  enough_its : (v u : PlanState P) (es apart : List Entry) (i : ℕ) (left its : List P) (piece : Plan) → i < length plan → piece ≡ slice_index_or plan i piece → Beside v u es apart i left its → length its ≡ count_by is_submission (piece ∷ drop (i + 1) plan)
  enough_its v u es apart i left its piece within item b = sym (length-map its rule) ∙ (ap length b.again ∙ (length-map left rule ∙ enough_here v u es apart i left its piece within item b))

  -- so a piece that submits has its callback
  pub has_callback : (v u : PlanState P) (es apart : List Entry) (i : ℕ) (left its more : List P) (piece : Plan) (callback : Option P) → i < length plan → piece ≡ slice_index_or plan i piece → Beside v u es apart i left its → TakesNext (is_submission piece) left more callback
      → is_submission piece ≡ true → is_some callback ≡ true
  has_callback v u es apart i left its more piece callback within item b next = has_one rule piece (drop (i + 1) plan) left more callback (enough_here v u es apart i left its piece within item b) next

  -- and one for the run alone
  pub has_its : (v u : PlanState P) (es apart : List Entry) (i : ℕ) (left its more : List P) (piece : Plan) (callback : Option P) → i < length plan → piece ≡ slice_index_or plan i piece → Beside v u es apart i left its → TakesNext (is_submission piece) its more callback
      → is_submission piece ≡ true → is_some callback ≡ true
  has_its v u es apart i left its more piece callback within item b next = has_one rule piece (drop (i + 1) plan) its more callback (enough_its v u es apart i left its piece within item b) next

  -- what a piece took of both lists of callbacks
  record TakesBoth (s : Stage) (t : Stage) (piece : Plan) (i : ℕ) (callback mine : Option P) (more its' : List P) : Type 0 where
    here : Takes rule s.rules piece (drop (i + 1) plan) callback more
    there : Takes rule t.rules piece (drop (i + 1) plan) mine its'
    again : map rule its' ≡ map rule more

  takes_both : (v u : PlanState P) (es apart : List Entry) (i : ℕ) (left its more its' : List P) (piece : Plan) (callback mine : Option P) → i < length plan → piece ≡ slice_index_or plan i piece → (b : Beside v u es apart i left its)
      → TakesNext (is_submission piece) left more callback → TakesNext (is_submission piece) its its' mine → TakesBoth b.stage b.alone piece i callback mine more its'
  takes_both v u es apart i left its more its' piece callback mine within item b next next_its = record {
    here = here;
    there = there;
    again = sym there.left ∙ (ap (rules_after piece) b.under_alone ∙ here.left);
  }
    where
      here : Takes rule b.stage.rules piece (drop (i + 1) plan) callback more
      here = takes rule b.stage.rules piece (drop (i + 1) plan) left more callback b.under (enough_here v u es apart i left its piece within item b) next

      there : Takes rule b.alone.rules piece (drop (i + 1) plan) mine its'
      there = takes rule b.alone.rules piece (drop (i + 1) plan) its its' mine (b.under_alone ∙ (b.under ∙ sym b.again)) (enough_its v u es apart i left its piece within item b) next_its

  -- one of another's more
  pub others_more : (v v' u : PlanState P) (es apart : List Entry) (i : ℕ) (left its more its' : List P) (piece : Plan) (callback mine : Option P) (x : Performed P) → i < length plan → piece ≡ slice_index_or plan i piece → Beside v u es apart i left its
      → TakesNext (is_submission piece) left more callback → TakesNext (is_submission piece) its its' mine → Performs rule v piece callback (entries_of x) v' → is_own_by h piece x.entry ≡ false → Beside v' u es apart (i + 1) more its'
  unfolding expand_from
  others_more v v' u es apart i left its more its' piece callback mine x within item b next next_its performs others = by_steps (performs setup s b.shows both.here.under)
    where
      s : Stage
      s = b.stage

      both : TakesBoth s b.alone piece i callback mine more its'
      both = takes_both v u es apart i left its more its' piece callback mine within item b next next_its

      by_steps : (here : List Step) × StandsFor setup s piece here × (entries_of x ≡ run_from setup s.world here) × ShowsStage rule setup v' (stage_after setup s piece here) → Beside v' u es apart (i + 1) more its'
      by_steps (here, stands, run, shows) = by_piece (others_piece setup h s piece (own_by_first setup h s piece here x.entry _ is run ∙ others))
        where
          is : here ≡ steps_of setup s piece
          is = stands_only setup s piece here b.fixed stands

          by_piece : IsOthersPiece setup h s piece → Beside v' u es apart (i + 1) more its'
          by_piece p = record {
            stage = behind;
            alone = ruled b.alone behind.rules;
            shows = subst (λ l. ShowsStage rule setup v' (stage_after setup s piece l)) are shows;
            shows_alone = shown_ruled rule setup u b.alone behind.rules b.shows_alone;
            fixed = fixed;
            fixed_alone = record { noted = b.fixed_alone.noted; coming = fixed.coming };
            same = record { machine = past.machine; only = past.only; book = past.book };
            told = ap (λ l. es ++ l) (sym split) ∙ b.told;
            told_alone = b.told_alone;
            under = rules_are ∙ both.here.left;
            under_alone = refl;
            again = both.again;
            enough = both.here.enough;
            no_verdict = (subst (AllByRecursion (λ q. is_verdict q ≡ false)) (rest_is i piece within item) b.no_verdict).1;
          }
            where
              steps : List Step
              steps = p.first ∷ p.more

              behind : Stage
              behind = stage_after setup s piece steps

              are : here ≡ steps
              are = is ∙ p.here

              fixed : IsFixedStage behind
              fixed = fixed_after setup s piece steps b.fixed

              past : IsSame setup h behind b.alone
              past = same_past setup h s b.alone piece p.first p.more b.same p.none

              rules_are : behind.rules ≡ rules_after piece s.rules
              rules_are = ap (λ l. (stage_after setup s piece l).rules) (sym are) ∙ piece_rules setup s piece here stands

              later : List Step
              later = expand_from setup behind (drop (i + 1) plan)

              expanded : expand_from setup s (drop i plan) ≡ steps ++ later
              expanded = ap (expand_from setup s) (rest_is i piece within item) ∙ ap (λ l. l ++ expand_from setup (stage_after setup s piece l) (drop (i + 1) plan)) p.here

              split : entries_from setup h s.world (expand_from setup s (drop i plan)) ≡ entries_from setup h behind.world later
              split = ap (entries_from setup h s.world) expanded
                  ∙ (entries-append setup h s.world steps later
                  ∙ (ap (λ l. l ++ entries_from setup h (world_from setup s.world steps) later) (entries_none setup h s.world steps p.none)
                  ∙ ap (λ w. entries_from setup h w later) (sym (piece_world setup s piece steps))))

  -- one of its own more, by both
  pub own_more : (v v' u u' : PlanState P) (es fs apart apart' : List Entry) (i : ℕ) (left its more its' : List P) (piece : Plan) (callback mine : Option P) (x : Performed P) → i < length plan → piece ≡ slice_index_or plan i piece → Beside v u es apart i left its
      → TakesNext (is_submission piece) left more callback → TakesNext (is_submission piece) its its' mine → Performs rule v piece callback (entries_of x) v' → is_own_by h piece x.entry ≡ true → fs ≡ es ++ entries_of x → Advances rule u piece mine u' apart apart'
      → Beside v' u' fs apart' (i + 1) more its'
  unfolding expand_from
  own_more v v' u u' es fs apart apart' i left its more its' piece callback mine x within item b next next_its performs own pushed (again, performs_again, pushed_again) =
      by_steps (performs setup s b.shows both.here.under) (performs_again setup t b.shows_alone both.there.under)
    where
      s : Stage
      s = b.stage

      t : Stage
      t = b.alone

      both : TakesBoth s t piece i callback mine more its'
      both = takes_both v u es apart i left its more its' piece callback mine within item b next next_its

      by_steps : (here : List Step) × StandsFor setup s piece here × (entries_of x ≡ run_from setup s.world here) × ShowsStage rule setup v' (stage_after setup s piece here)
          → (there : List Step) × StandsFor setup t piece there × (again ≡ run_from setup t.world there) × ShowsStage rule setup u' (stage_after setup t piece there) → Beside v' u' fs apart' (i + 1) more its'
      by_steps (here, stands, run, shows) (there, stands_there, run_there, shows_there) = by_piece (own_piece setup h s t piece b.same mine_here)
        where
          is : here ≡ steps_of setup s piece
          is = stands_only setup s piece here b.fixed stands

          mine_here : is_own_piece setup h s piece ≡ true
          mine_here = own_by_first setup h s piece here x.entry _ is run ∙ own

          by_piece : IsOwnPiece setup h s t piece → Beside v' u' fs apart' (i + 1) more its'
          by_piece p = record {
            stage = behind;
            alone = behind_alone;
            shows = subst (λ l. ShowsStage rule setup v' (stage_after setup s piece l)) are shows;
            shows_alone = subst (λ l. ShowsStage rule setup u' (stage_after setup t piece l)) are_there shows_there;
            fixed = fixed_after setup s piece steps b.fixed;
            fixed_alone = fixed_after setup t piece steps b.fixed_alone;
            same = same_after setup h s t piece p.first p.more b.same p.all (rule_again setup h s t piece b.same mine_here b.under_alone);
            told = ap (λ l. l ++ entries_from setup h behind.world later) pushed ∙ (append_assoc es (entries_of x) (entries_from setup h behind.world later) ∙ (ap (λ l. es ++ l) (sym split) ∙ b.told));
            told_alone = pushed_again ∙ (ap (λ l. l ++ again) b.told_alone ∙ (ap (λ l. es ++ l) told_same ∙ sym pushed));
            under = rules_are ∙ both.here.left;
            under_alone = rules_there ∙ (ap (rules_after piece) b.under_alone ∙ sym rules_are);
            again = both.again;
            enough = both.here.enough;
            no_verdict = (subst (AllByRecursion (λ q. is_verdict q ≡ false)) (rest_is i piece within item) b.no_verdict).1;
          }
            where
              steps : List Step
              steps = p.first ∷ p.more

              behind : Stage
              behind = stage_after setup s piece steps

              behind_alone : Stage
              behind_alone = stage_after setup t piece steps

              are : here ≡ steps
              are = is ∙ p.here

              are_there : there ≡ steps
              are_there = stands_only setup t piece there b.fixed_alone stands_there ∙ p.there

              rules_are : behind.rules ≡ rules_after piece s.rules
              rules_are = ap (λ l. (stage_after setup s piece l).rules) (sym are) ∙ piece_rules setup s piece here stands

              rules_there : behind_alone.rules ≡ rules_after piece t.rules
              rules_there = ap (λ l. (stage_after setup t piece l).rules) (sym are_there) ∙ piece_rules setup t piece there stands_there

              told_here : entries_of x ≡ run_from setup s.world steps
              told_here = run ∙ ap (run_from setup s.world) are

              told_same : again ≡ entries_of x
              told_same = run_there ∙ (ap (run_from setup t.world) are_there ∙ (told_again setup h s.world t.world steps p.all b.same.machine b.same.only ∙ sym told_here))

              later : List Step
              later = expand_from setup behind (drop (i + 1) plan)

              expanded : expand_from setup s (drop i plan) ≡ steps ++ later
              expanded = ap (expand_from setup s) (rest_is i piece within item) ∙ ap (λ l. l ++ expand_from setup (stage_after setup s piece l) (drop (i + 1) plan)) p.here

              split : entries_from setup h s.world (expand_from setup s (drop i plan)) ≡ entries_of x ++ entries_from setup h behind.world later
              split = ap (entries_from setup h s.world) expanded
                  ∙ (entries-append setup h s.world steps later
                  ∙ (ap (λ l. l ++ entries_from setup h (world_from setup s.world steps) later) (entries_all setup h s.world steps p.all ∙ sym told_here)
                  ∙ ap (λ w. entries_of x ++ entries_from setup h w later) (sym (piece_world setup s piece steps))))

  -- one piece more, whosever it is
  pub one_more : (v v' u u' : PlanState P) (es apart : List Entry) (i : ℕ) (left its more its' : List P) (piece : Plan) (callback mine : Option P) (told : Option (TwinPiece P)) → i < length plan → piece ≡ slice_index_or plan i piece → Beside v u es apart i left its
      → TakesNext (is_submission piece) left more callback → TakesNext (is_submission piece) its its' mine → PerformsBoth rule h piece callback mine v v' u u' told → Beside v' u' (es ++ shared_of told) (apart ++ alone_of told) (i + 1) more its'
  one_more v v' u u' es apart i left its more its' piece callback mine None within item b next next_its (x, performs, others, stays) =
      subst (λ w. Beside v' w (es ++ []) (apart ++ []) (i + 1) more its') (sym stays)
      (rw (append-nil es, append-nil apart) (others_more v v' u es apart i left its more its' piece callback mine x within item b next next_its performs others))
  one_more v v' u u' es apart i left its more its' piece callback mine (Some t) within item b next next_its (performs, own, again) =
      own_more v v' u u' es (es ++ entries_of t.shared) apart (apart ++ entries_of t.alone) i left its more its' piece callback mine t.shared within item b next next_its performs own refl (entries_of t.alone, again, refl)

  -- what it was told is a beginning of the handle's entries
  pub begins : (v u : PlanState P) (es apart : List Entry) (i : ℕ) (left its : List P) → Beside v u es apart i left its → IsBeginning apart (entries setup (expand setup plan rules) h)
  begins v u es apart i left its b = (entries_from setup h b.stage.world (expand_from setup b.stage (drop i plan)), sym b.told ∙ ap (λ l. l ++ entries_from setup h b.stage.world (expand_from setup b.stage (drop i plan))) (sym b.told_alone))

  -- at the end it was told all
  pub all_told : (v u : PlanState P) (es apart : List Entry) (i : ℕ) (left its : List P) → length plan ≤ i → Beside v u es apart i left its → es ≡ entries setup (expand setup plan rules) h
  unfolding expand_from journal_from
  all_told v u es apart i left its past b = sym (append-nil es) ∙ (sym (ap (λ l. es ++ entries_from setup h b.stage.world (expand_from setup b.stage l)) (drop_all i plan past)) ∙ b.told)
