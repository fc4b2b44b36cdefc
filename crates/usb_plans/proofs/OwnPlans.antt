-- A run of a whole plan, and one of a handle's own pieces of it.
use Rattle.std.proofs.Common.{◌≡◌, ℕ, ◌+◌, ◌<◌, ◌≤◌, Bool, true, false, ◌&&◌, inl, inr, List, [], ◌∷◌, ◌++◌, drop, length, map, slice_index_or, Option, Result, Ok, Err, refl, ap, sym, ◌∙◌, subst, append-nil, append_assoc}
use Rattle.std.specs.Prelude.{IfOk, if◌then◌else◌, is_some}
use Rattle.std.specs.List.{AllByRecursion, count_by}
use Rattle.std.proofs.lemmas.Bool.{eqb-true}
use Rattle.std.proofs.lemmas.List.{drop_all, drop_more, length-map}
use Rattle.usb_model.specs.declared.entry.Entry.{Entry}
use Rattle.usb_model.specs.declared.plan.Plan.{Plan}
use Rattle.usb_model.specs.declared.plan.Plan.TheVariants.{Do, Return}
use Rattle.usb_model.specs.declared.step.Step.{Step}
use Rattle.usb_model.specs.declared.step.Step.TheVariants.{Answer}
use Rattle.usb_model.specs.declared.verdict.Rule.{Rule}
use Rattle.usb_model.specs.declared.verdict.Verdict.{Verdict}
use Rattle.usb_model.specs.declared.verdict.Verdict.TheVariants as verdict
use Rattle.usb_model.specs.Setup.{Setup}
use Rattle.usb_model.specs.World.{turn, world_from}
use Rattle.usb_model.specs.World.Journal.{entries, journal, journal_from, own, run_from, world_run}
use Rattle.usb_model.specs.World.Plans.{Stage, expand, expand_from, first_rule, first_stage, is_own_piece, is_submission, needs_stop, own_plan, own_plan_from, own_rules, own_rules_from, returning, rules_after, stage_after, steps_of, verdict_by}
use Rattle.proof_model.proofs.Handles.Alone.{runs_alone}
use Rattle.proof_model.proofs.Handles.Isolation.{IsEither, entries_from, sees_alone, turn_to}
use Rattle.proof_model.proofs.Handles.Runs.{run_append}
use Rattle.usb_plans.specs.declared.comparison.Part.{Part}
use Rattle.usb_plans.specs.declared.plan_run.Performed.{Performed}
use Rattle.usb_plans.specs.Alone.{DrivesPicked, IsNext, IsPlanPart, PerformsOwn, SharesPiece, ShowsSomeStage, Starts, TellsPlan, TellsPlanPart, is_own_by, picked, picked_rules, with_own}
use Rattle.usb_plans.specs.Drives.{TakesNext}
use Rattle.usb_plans.specs.PlanRuns.{IsUnder, PlanState, Performs, ShowsStage, StandsFor, entries_of, is_verdict}
use Rattle.usb_plans.proofs.Apart.{entries_in_order, entries_once, picked_first, picked_next, picked_none, picked_unmarked, with_first}
use Rattle.usb_plans.proofs.ApartPlans.{own_by_first}
use Rattle.proof_laws.proofs.Expansion.{expands_alone, others_piece, rules_left}
use Rattle.proof_laws.proofs.Plans.{AreFixed, IsFixedStage, fixed_after, fixed_first, fixed_left, fixed_once}
use Rattle.usb_plans.proofs.OnlySteps.{stands_only}
use Rattle.usb_plans.proofs.Reached.{piece_rules, piece_world}
use Rattle.proof_laws.proofs.OwnEntries.{AllOwn, NoneOwn, entries-append, entries_all, entries_none}
use Rattle.usb_plans.proofs.TakenCallbacks.{Takes, has_one, takes}
use Rattle.proof_laws.proofs.Verdicts.{answer_own}

-- a return that names the handle stands for steps of its own
return_own : (setup : Setup) (h : ℕ) (s : Stage) (n : ℕ) → AllOwn setup h s.world (steps_of setup s (Return h n))
return_own setup h s n = by_test (needs_stop v (turn setup s.world (Answer h n v)).entry.reply)
  where
    v : Verdict
    v = verdict_by (returning s h n) (s.book h n)

    by_test : (b : Bool) → AllOwn setup h s.world (if b then Answer h n v ∷ Answer h n verdict.Stop ∷ [] else Answer h n v ∷ [])
    by_test true = (answer_own setup h s.world n v, (answer_own setup h (turn setup s.world (Answer h n v)).world n verdict.Stop, tt))
    by_test false = (answer_own setup h s.world n v, tt)

-- so does each piece of its own
all_own : (setup : Setup) (h : ℕ) (s : Stage) (piece : Plan) → is_own_piece setup h s piece ≡ true → AllOwn setup h s.world (steps_of setup s piece)
all_own setup h s (Do step) mine = by_turn (turn_to setup h s.world step)
  where
    by_turn : IsEither setup h s.world step (turn setup s.world step) → AllOwn setup h s.world (step ∷ [])
    by_turn (inl o) = (o, tt)
    by_turn (inr x) = let not_mine : is_own_piece setup h s (Do step) ≡ false = x.0 in absurd cc
all_own setup h s (Return g n) mine = subst (λ k. AllOwn setup h s.world (steps_of setup s (Return k n))) (sym (eqb-true g h mine)) (return_own setup h s n)

-- and no other
none_own : (setup : Setup) (h : ℕ) (s : Stage) (piece : Plan) → is_own_piece setup h s piece ≡ false → NoneOwn setup h s.world (steps_of setup s piece)
none_own setup h s piece others = let p = others_piece setup h s piece others in subst (NoneOwn setup h s.world) (sym p.here) p.none

-- the rules to come with the first in front, where this piece submits and is marked
abbrev with_rule_of : Bool → Plan → List Rule → List Rule → List Rule
with_rule_of mine piece rules rest = if mine && is_submission piece then first_rule rules ∷ rest else rest

-- of the rules of the first piece and of the rest
picked_rules_first : (mine : Bool) (marks : List Bool) (piece : Plan) (plan : List Plan) (rules : List Rule) → picked_rules (mine ∷ marks) (piece ∷ plan) rules ≡ with_rule_of mine piece rules (picked_rules marks plan (rules_after piece rules))
unfolding picked_rules
picked_rules_first mine marks piece plan rules = refl

-- by the next mark
picked_rules_next : (left more : List Bool) (mine : Bool) (piece : Plan) (plan : List Plan) (rules : List Rule) → IsNext left more mine → picked_rules left (piece ∷ plan) rules ≡ with_rule_of mine piece rules (picked_rules more plan (rules_after piece rules))
unfolding picked_rules
picked_rules_next [] more mine piece plan rules (none, rest) = rw (none, rest) refl
picked_rules_next (mark ∷ marks) more mine piece plan rules (is, rest) = rw (is, rest) refl

-- with no marks none is picked
rules_unmarked : (plan : List Plan) (rules : List Rule) → picked_rules [] plan rules ≡ []
unfolding picked_rules
rules_unmarked plan rules = refl

-- where none is Free, none is Free of those that are picked
fixed_picked : (marks : List Bool) (plan : List Plan) (rules : List Rule) → AreFixed rules → AreFixed (picked_rules marks plan rules)
unfolding picked_rules
fixed_picked [] plan rules fixed = tt
fixed_picked (mine ∷ marks) [] rules fixed = tt
fixed_picked (mine ∷ marks) (piece ∷ plan) rules fixed = by_test (mine && is_submission piece) (fixed_picked marks plan (rules_after piece rules) (fixed_left piece rules fixed))
  where
    by_test : (b : Bool) → AreFixed (picked_rules marks plan (rules_after piece rules)) → AreFixed (if b then first_rule rules ∷ picked_rules marks plan (rules_after piece rules) else picked_rules marks plan (rules_after piece rules))
    by_test true rest = (fixed_first rules fixed, rest)
    by_test false rest = rest

-- the handle's part of a plan, by its first piece
own_plan_first : (setup : Setup) (h : ℕ) (s : Stage) (piece : Plan) (plan : List Plan) → own_plan_from setup h s (piece ∷ plan) ≡ with_first (is_own_piece setup h s piece) piece (own_plan_from setup h (stage_after setup s piece (steps_of setup s piece)) plan)
unfolding own_plan_from
own_plan_first setup h s piece plan = refl

-- and the rules of its submissions
own_rules_first : (setup : Setup) (h : ℕ) (s : Stage) (piece : Plan) (plan : List Plan) → own_rules_from setup h s (piece ∷ plan) ≡ with_rule_of (is_own_piece setup h s piece) piece s.rules (own_rules_from setup h (stage_after setup s piece (steps_of setup s piece)) plan)
unfolding own_rules_from
own_rules_first setup h s piece plan = refl

-- what is left at a piece
rest_is : (plan : List Plan) (i : ℕ) (piece : Plan) → i < length plan → piece ≡ slice_index_or plan i piece → drop i plan ≡ piece ∷ drop (i + 1) plan
rest_is plan i piece within item = drop_more plan i piece within ∙ ap (λ y. y ∷ drop (i + 1) plan) (sym item)

-- of what is left of a plan each submission has a callback, and no piece is a verdict
pub record IsAhead {P : Type 0} (plan : List Plan) (i : ℕ) (left : List P) : Type 0 where
  pub enough : length left ≡ count_by is_submission (drop i plan)
  pub no_verdict : AllByRecursion (λ piece. is_verdict piece ≡ false) (drop i plan)

module _ {P : Type 0} (rule : P → Rule) (plan : List Plan) (i : ℕ) (left more : List P) (piece : Plan) (callback : Option P) where
  -- so a piece that submits has its callback
  pub has_callback : i < length plan → piece ≡ slice_index_or plan i piece → IsAhead plan i left → TakesNext (is_submission piece) left more callback → is_submission piece ≡ true → is_some callback ≡ true
  has_callback within item ahead next = has_one rule piece (drop (i + 1) plan) left more callback (ahead.enough ∙ ap (count_by is_submission) (rest_is plan i piece within item)) next

  -- a piece is no verdict
  pub is_no_verdict : i < length plan → piece ≡ slice_index_or plan i piece → IsAhead plan i left → is_verdict piece ≡ false
  is_no_verdict within item ahead = (subst (AllByRecursion (λ p. is_verdict p ≡ false)) (rest_is plan i piece within item) ahead.no_verdict).0

  -- and so it is behind the piece
  pub ahead_more : i < length plan → piece ≡ slice_index_or plan i piece → IsAhead plan i left → TakesNext (is_submission piece) left more callback → IsAhead plan (i + 1) more
  ahead_more within item ahead next = record {
    enough = (takes rule (map rule left) piece (drop (i + 1) plan) left more callback refl (ahead.enough ∙ ap (count_by is_submission) (rest_is plan i piece within item)) next).enough;
    no_verdict = (subst (AllByRecursion (λ p. is_verdict p ≡ false)) (rest_is plan i piece within item) ahead.no_verdict).1;
  }

module _ {P : Type 0} (rule : P → Rule) (h : ℕ) (piece : Plan) (callback : Option P) (run run' : PlanState P) (x : Performed P) (part : Part) (marks : List Bool) (mine : Bool) where
  -- a piece of another was performed
  pub shares_others : Performs rule run piece callback (entries_of x) run' → mine ≡ is_own_by h piece x.entry → mine ≡ false → marks ≡ part.own ++ mine ∷ [] → SharesPiece rule h piece callback run run' part (record { entries = part.entries; own = marks })
  shares_others performs tested others marked = (
    x,
    performs,
    marked ∙ ap (λ b. part.own ++ b ∷ []) tested,
    sym (ap (λ b. with_own b (entries_of x) part.entries) (sym tested ∙ others)),
  )

  -- one of the handle's own was
  pub shares_own : (es : List Entry) → Performs rule run piece callback (entries_of x) run' → mine ≡ is_own_by h piece x.entry → mine ≡ true → marks ≡ part.own ++ mine ∷ [] → es ≡ part.entries ++ entries_of x
      → SharesPiece rule h piece callback run run' part (record { entries = es; own = marks })
  shares_own es performs tested owned marked pushed = (
    x,
    performs,
    marked ∙ ap (λ b. part.own ++ b ∷ []) tested,
    pushed ∙ sym (ap (λ b. with_own b (entries_of x) part.entries) (sym tested ∙ owned)),
  )

module _ {P : Type 0} (rule : P → Rule) (setup : Setup) (plan : List Plan) (rules : List Rule) (h : ℕ) where
  -- so many pieces were performed, and this is the handle's part of them. left: the callbacks of the submissions to come
  pub record Amid (v : PlanState P) (part : Part) (i : ℕ) (left : List P) : Type 0 where
    pub stage : Stage
    pub shows : ShowsStage rule setup v stage
    pub fixed : IsFixedStage stage
    pub under : stage.rules ≡ map rule left
    pub told : part.entries ++ entries_from setup h stage.world (expand_from setup stage (drop i plan)) ≡ entries setup (expand setup plan rules) h
    pub joins : (marks : List Bool) → picked marks (drop i plan) ≡ own_plan_from setup h stage (drop i plan) → picked (part.own ++ marks) plan ≡ own_plan setup plan rules h
    pub joins_rules : (marks : List Bool) → picked_rules marks (drop i plan) stage.rules ≡ own_rules_from setup h stage (drop i plan) → picked_rules (part.own ++ marks) plan rules ≡ own_rules setup plan rules h

  -- none was
  pub none_yet : (v : PlanState P) (left : List P) → Starts rule setup rules left v → Amid v (record { entries = []; own = [] }) 0 left
  unfolding journal
  none_yet v left start = record {
    stage = first_stage setup rules;
    shows = start.shows rules;
    fixed = record { noted = λ g n. fixed_once; coming = start.fixed };
    under = start.under;
    told = refl;
    joins = λ marks is. is;
    joins_rules = λ marks is. is;
  }

  -- one more
  pub one_more : (v v' : PlanState P) (part part' : Part) (i : ℕ) (left more : List P) (piece : Plan) (callback : Option P) → i < length plan → piece ≡ slice_index_or plan i piece → Amid v part i left → IsAhead plan i left
      → TakesNext (is_submission piece) left more callback → SharesPiece rule h piece callback v v' part part' → Amid v' part' (i + 1) more
  unfolding expand_from
  one_more v v' part part' i left more piece callback within item a ahead next (x, performs, marked, pushed) = by_steps (performs setup s a.shows taken.under)
    where
      s : Stage
      s = a.stage

      rest : List Plan
      rest = drop (i + 1) plan

      left_is : drop i plan ≡ piece ∷ rest
      left_is = rest_is plan i piece within item

      taken : Takes rule s.rules piece rest callback more
      taken = takes rule s.rules piece rest left more callback a.under (ahead.enough ∙ ap (count_by is_submission) left_is) next

      mine : Bool
      mine = is_own_by h piece x.entry

      steps : List Step
      steps = steps_of setup s piece

      behind : Stage
      behind = stage_after setup s piece steps

      by_steps : (here : List Step) × StandsFor setup s piece here × (entries_of x ≡ run_from setup s.world here) × ShowsStage rule setup v' (stage_after setup s piece here) → Amid v' part' (i + 1) more
      by_steps (here, stands, run, shows) = record {
        stage = behind;
        shows = subst (λ l. ShowsStage rule setup v' (stage_after setup s piece l)) is shows;
        fixed = fixed_after setup s piece steps a.fixed;
        under = rules_are ∙ taken.left;
        told = told_by mine mine_is pushed;
        joins = λ marks are. ap (λ l. picked (l ++ marks) plan) marked ∙ (ap (λ l. picked l plan) (append_assoc part.own (mine ∷ []) marks) ∙ a.joins (mine ∷ marks) (picks marks are));
        joins_rules = λ marks are. ap (λ l. picked_rules (l ++ marks) plan rules) marked ∙ (ap (λ l. picked_rules l plan rules) (append_assoc part.own (mine ∷ []) marks) ∙ a.joins_rules (mine ∷ marks) (picks_rules marks are));
      }
        where
          is : here ≡ steps
          is = stands_only setup s piece here a.fixed stands

          mine_is : is_own_piece setup h s piece ≡ mine
          mine_is = own_by_first setup h s piece here x.entry _ is run

          rules_are : behind.rules ≡ rules_after piece s.rules
          rules_are = ap (λ l. (stage_after setup s piece l).rules) (sym is) ∙ piece_rules setup s piece here stands

          later : List Step
          later = expand_from setup behind rest

          back : List Entry
          back = entries_from setup h behind.world later

          split : entries_from setup h s.world (expand_from setup s (drop i plan)) ≡ entries_from setup h s.world steps ++ back
          split = ap (λ l. entries_from setup h s.world (expand_from setup s l)) left_is
              ∙ (entries-append setup h s.world steps later
              ∙ ap (λ w. entries_from setup h s.world steps ++ entries_from setup h w later) (sym (piece_world setup s piece steps)))

          told_by : (b : Bool) → is_own_piece setup h s piece ≡ b → part'.entries ≡ with_own b (entries_of x) part.entries → part'.entries ++ back ≡ entries setup (expand setup plan rules) h
          told_by true e are =
              ap (λ l. l ++ back) are
              ∙ (append_assoc part.entries (entries_of x) back
              ∙ (sym (ap (λ l. part.entries ++ l) (split ∙ ap (λ l. l ++ back) (entries_all setup h s.world steps (all_own setup h s piece e) ∙ sym (run ∙ ap (run_from setup s.world) is)))) ∙ a.told))
          told_by false e are = ap (λ l. l ++ back) are ∙ (sym (ap (λ l. part.entries ++ l) (split ∙ ap (λ l. l ++ back) (entries_none setup h s.world steps (none_own setup h s piece e)))) ∙ a.told)

          picks : (marks : List Bool) → picked marks rest ≡ own_plan_from setup h behind rest → picked (mine ∷ marks) (drop i plan) ≡ own_plan_from setup h s (drop i plan)
          picks marks are =
              ap (λ l. picked (mine ∷ marks) l) left_is
              ∙ (picked_first mine marks piece rest
              ∙ (ap (λ l. with_first mine piece l) are
              ∙ (sym (ap (λ b. with_first b piece (own_plan_from setup h behind rest)) mine_is)
              ∙ (sym (own_plan_first setup h s piece rest)
              ∙ sym (ap (own_plan_from setup h s) left_is)))))

          picks_rules : (marks : List Bool) → picked_rules marks rest behind.rules ≡ own_rules_from setup h behind rest → picked_rules (mine ∷ marks) (drop i plan) s.rules ≡ own_rules_from setup h s (drop i plan)
          picks_rules marks are =
              ap (λ l. picked_rules (mine ∷ marks) l s.rules) left_is
              ∙ (picked_rules_first mine marks piece rest s.rules
              ∙ (ap (λ l. with_rule_of mine piece s.rules l) (sym (ap (picked_rules marks rest) rules_are) ∙ are)
              ∙ (sym (ap (λ b. with_rule_of b piece s.rules (own_rules_from setup h behind rest)) mine_is)
              ∙ (sym (own_rules_first setup h s piece rest)
              ∙ sym (ap (own_rules_from setup h s) left_is)))))

  -- at the end it is the handle's part of the whole plan
  pub all_told : (v : PlanState P) (part : Part) (i : ℕ) (left : List P) → length plan ≤ i → Amid v part i left → IsPlanPart setup plan rules h part × ShowsSomeStage rule setup v
  unfolding expand_from journal_from own_plan_from own_rules_from
  all_told v part i left past a = (
    record {
      told = sym (append-nil part.entries) ∙ (sym (ap (λ l. part.entries ++ entries_from setup h a.stage.world (expand_from setup a.stage l)) none) ∙ a.told);
      pieces_are = sym (ap (λ l. picked l plan) (append-nil part.own)) ∙ a.joins [] (picked_unmarked (drop i plan) ∙ sym (ap (own_plan_from setup h a.stage) none));
      rules_are = sym (ap (λ l. picked_rules l plan rules) (append-nil part.own)) ∙ a.joins_rules [] (rules_unmarked (drop i plan) a.stage.rules ∙ sym (ap (own_rules_from setup h a.stage) none));
    },
    (a.stage, a.shows),
  )
    where
      none : drop i plan ≡ []
      none = drop_all i plan past

module _ {P : Type 0} (rule : P → Rule) (plan : List Plan) (h : ℕ) (callbacks : List P) (first : PlanState P) where
  -- so it is over whichever devices and under whichever rules the run stood at the plan's beginning
  pub record IsAmid (v : PlanState P) (part : Part) (i : ℕ) (left : List P) : Type 0 where
    pub ahead : IsAhead plan i left
    pub amid : (setup : Setup) (rules : List Rule) → Starts rule setup rules callbacks first → Amid rule setup plan rules h v part i left

  -- none was performed
  pub first_amid : length callbacks ≡ count_by is_submission plan → AllByRecursion (λ piece. is_verdict piece ≡ false) plan → IsAmid first (record { entries = []; own = [] }) 0 callbacks
  first_amid enough none = record { ahead = record { enough = enough; no_verdict = none }; amid = λ setup rules start. none_yet rule setup plan rules h first callbacks start }

  -- one more was
  pub more_amid : (v v' : PlanState P) (part part' : Part) (i : ℕ) (left more : List P) (piece : Plan) (callback : Option P) → i < length plan → piece ≡ slice_index_or plan i piece → IsAmid v part i left
      → TakesNext (is_submission piece) left more callback → SharesPiece rule h piece callback v v' part part' → IsAmid v' part' (i + 1) more
  more_amid v v' part part' i left more piece callback within item a next shares = record {
    ahead = ahead_more rule plan i left more piece callback within item a.ahead next;
    amid = λ setup rules start. one_more rule setup plan rules h v v' part part' i left more piece callback within item (a.amid setup rules start) a.ahead next shares;
  }

  -- all were
  pub all_amid : (v : PlanState P) (part : Part) (i : ℕ) (left : List P) → length plan ≤ i → IsAmid v part i left → TellsPlanPart rule plan h callbacks first v part
  all_amid v part i left past a = λ setup rules start. all_told rule setup plan rules h v part i left past (a.amid setup rules start)

module _ {P : Type 0} (rule : P → Rule) (setup : Setup) (plan : List Plan) (rules : List Rule) (marks : List Bool) where
  -- so many pieces were gone through, and those that are marked were performed, with these entries. left: the marks of the pieces to come; its: the callbacks of their submissions
  pub record Again (v : PlanState P) (told : List Entry) (i : ℕ) (left : List Bool) (its : List P) : Type 0 where
    pub stage : Stage
    pub shows : ShowsStage rule setup v stage
    pub fixed : IsFixedStage stage
    pub under : stage.rules ≡ picked_rules left (drop i plan) (map rule its)
    pub run : told ++ run_from setup stage.world (expand_from setup stage (picked left (drop i plan))) ≡ world_run setup (expand setup (picked marks plan) (picked_rules marks plan rules))

  -- none was
  pub none_again : (v : PlanState P) (its : List P) → Starts rule setup rules its v → Again v [] 0 marks its
  unfolding journal
  none_again v its start = record {
    stage = first_stage setup (picked_rules marks plan rules);
    shows = start.shows (picked_rules marks plan rules);
    fixed = record { noted = λ g n. fixed_once; coming = fixed_picked marks plan rules start.fixed };
    under = ap (picked_rules marks plan) start.under;
    run = refl;
  }

  -- one more
  pub one_again : (v v' : PlanState P) (es fs : List Entry) (i : ℕ) (left more : List Bool) (mine : Bool) (its its' : List P) (piece : Plan) (callback : Option P) → i < length plan → piece ≡ slice_index_or plan i piece → Again v es i left its → IsAhead plan i its
      → IsNext left more mine → TakesNext (is_submission piece) its its' callback → PerformsOwn rule mine piece callback v v' es fs → Again v' fs (i + 1) more its'
  unfolding expand_from
  one_again v v' es fs i left more mine its its' piece callback within item a ahead mark next performs = by_mine mine picks ruled performs
    where
      s : Stage
      s = a.stage

      rest : List Plan
      rest = drop (i + 1) plan

      left_is : drop i plan ≡ piece ∷ rest
      left_is = rest_is plan i piece within item

      taken : Takes rule (map rule its) piece rest callback its'
      taken = takes rule (map rule its) piece rest its its' callback refl (ahead.enough ∙ ap (count_by is_submission) left_is) next

      later_rules : List Rule
      later_rules = picked_rules more rest (rules_after piece (map rule its))

      picks : picked left (drop i plan) ≡ with_first mine piece (picked more rest)
      picks = ap (λ l. picked left l) left_is ∙ picked_next left more mine piece rest mark

      ruled : s.rules ≡ with_rule_of mine piece (map rule its) later_rules
      ruled = a.under ∙ (ap (λ l. picked_rules left l (map rule its)) left_is ∙ picked_rules_next left more mine piece rest (map rule its) mark)

      left_rules : later_rules ≡ picked_rules more rest (map rule its')
      left_rules = ap (picked_rules more rest) taken.left

      steps : List Step
      steps = steps_of setup s piece

      behind : Stage
      behind = stage_after setup s piece steps

      later : List Step
      later = expand_from setup behind (picked more rest)

      back : List Entry
      back = run_from setup behind.world later

      by_steps : (x : Performed P) → picked left (drop i plan) ≡ piece ∷ picked more rest → s.rules ≡ with_rule_of true piece (map rule its) later_rules → fs ≡ es ++ entries_of x
          → (here : List Step) × StandsFor setup s piece here × (entries_of x ≡ run_from setup s.world here) × ShowsStage rule setup v' (stage_after setup s piece here) → Again v' fs (i + 1) more its'
      by_steps x first ruled_here pushed (here, stands, run, shows) = record {
        stage = behind;
        shows = subst (λ l. ShowsStage rule setup v' (stage_after setup s piece l)) is shows;
        fixed = fixed_after setup s piece steps a.fixed;
        under = rules_are ∙ (ap (rules_after piece) ruled_here ∙ (rules_left piece (map rule its) later_rules ∙ left_rules));
        run = ap (λ l. l ++ back) pushed ∙ (append_assoc es (entries_of x) back ∙ (sym (ap (λ l. es ++ l) split) ∙ a.run));
      }
        where
          is : here ≡ steps
          is = stands_only setup s piece here a.fixed stands

          rules_are : behind.rules ≡ rules_after piece s.rules
          rules_are = ap (λ l. (stage_after setup s piece l).rules) (sym is) ∙ piece_rules setup s piece here stands

          split : run_from setup s.world (expand_from setup s (picked left (drop i plan))) ≡ entries_of x ++ back
          split = ap (λ l. run_from setup s.world (expand_from setup s l)) first
              ∙ (run_append setup s.world steps later
              ∙ (ap (λ l. l ++ run_from setup (world_from setup s.world steps) later) (sym (run ∙ ap (run_from setup s.world) is))
              ∙ ap (λ w. entries_of x ++ run_from setup w later) (sym (piece_world setup s piece steps))))

      by_mine : (b : Bool) → picked left (drop i plan) ≡ with_first b piece (picked more rest) → s.rules ≡ with_rule_of b piece (map rule its) later_rules → PerformsOwn rule b piece callback v v' es fs → Again v' fs (i + 1) more its'
      by_mine true first ruled_here (x, performed, pushed) = by_steps x first ruled_here pushed (performed setup s a.shows under)
        where
          under : is_submission piece ≡ true → IsUnder rule (first_rule s.rules) callback
          under submits = subst (λ r. IsUnder rule r callback) (sym (ap first_rule (ruled_here ∙ ap (λ (b : Bool). if b then first_rule (map rule its) ∷ later_rules else later_rules) submits))) (taken.under submits)
      by_mine false first ruled_here (stays, same) = record {
        stage = s;
        shows = subst (λ u. ShowsStage rule setup u s) (sym stays) a.shows;
        fixed = a.fixed;
        under = ruled_here ∙ left_rules;
        run = ap (λ l. l ++ run_from setup s.world (expand_from setup s (picked more rest))) same ∙ (sym (ap (λ l. es ++ run_from setup s.world (expand_from setup s l)) first) ∙ a.run);
      }

  -- at the end these are all
  pub all_again : (v : PlanState P) (es : List Entry) (i : ℕ) (left : List Bool) (its : List P) → length plan ≤ i → Again v es i left its → es ≡ world_run setup (expand setup (picked marks plan) (picked_rules marks plan rules))
  unfolding expand_from journal_from
  all_again v es i left its past a = sym (append-nil es) ∙ (sym (ap (λ l. es ++ run_from setup a.stage.world (expand_from setup a.stage l)) none) ∙ a.run)
    where
      none : picked left (drop i plan) ≡ []
      none = ap (λ l. picked left l) (drop_all i plan past) ∙ picked_none left

module _ {P : Type 0} (rule : P → Rule) (plan : List Plan) (marks : List Bool) (callbacks : List P) (first : PlanState P) where
  -- so it is over whichever devices and under whichever rules the run stood at their beginning
  pub record IsAgain (v : PlanState P) (told : List Entry) (i : ℕ) (left : List Bool) (its : List P) : Type 0 where
    pub ahead : IsAhead plan i its
    pub again : (setup : Setup) (rules : List Rule) → Starts rule setup rules callbacks first → Again rule setup plan rules marks v told i left its

  -- none was performed
  pub first_again : (left : List Bool) → left ≡ marks → length callbacks ≡ count_by is_submission plan → AllByRecursion (λ piece. is_verdict piece ≡ false) plan → IsAgain first [] 0 left callbacks
  first_again left are enough none = record {
    ahead = record { enough = enough; no_verdict = none };
    again = λ setup rules start. subst (λ l. Again rule setup plan rules marks first [] 0 l callbacks) (sym are) (none_again rule setup plan rules marks first callbacks start);
  }

  -- one more was
  pub more_again : (v v' : PlanState P) (es fs : List Entry) (i : ℕ) (left more : List Bool) (mine : Bool) (its its' : List P) (piece : Plan) (callback : Option P) → i < length plan → piece ≡ slice_index_or plan i piece → IsAgain v es i left its
      → IsNext left more mine → TakesNext (is_submission piece) its its' callback → PerformsOwn rule mine piece callback v v' es fs → IsAgain v' fs (i + 1) more its'
  more_again v v' es fs i left more mine its its' piece callback within item a mark next performs = record {
    ahead = ahead_more rule plan i its its' piece callback within item a.ahead next;
    again = λ setup rules start. one_again rule setup plan rules marks v v' es fs i left more mine its its' piece callback within item (a.again setup rules start) a.ahead mark next performs;
  }

  -- all were
  pub all_picked : (v : PlanState P) (es : List Entry) (i : ℕ) (left : List Bool) (its : List P) → length plan ≤ i → IsAgain v es i left its → DrivesPicked rule plan marks callbacks first es
  all_picked v es i left its past a = λ setup rules start. all_again rule setup plan rules marks v es i left its past (a.again setup rules start)

module _ {P : Type 0} (rule : P → Rule) (setup : Setup) (callbacks left : List P) (run : PlanState P) where
  -- a run that is made stands at the beginning of each plan, with all of its callbacks left
  pub starts : ((rs : List Rule) → ShowsStage rule setup run (first_stage setup rs)) → left ≡ callbacks → AreFixed (map rule callbacks) → Starts rule setup (map rule callbacks) left run
  starts shows are fixed = record { shows = shows; under = ap (map rule) (sym are); fixed = fixed }

  -- so what is driven by it are the entries over its devices
  pub driven : {E : Type 0} (r : Result (List Entry) E) (plan : List Plan) (marks : List Bool) → Starts rule setup (map rule callbacks) left run → IfOk r (λ told. DrivesPicked rule plan marks left run told)
      → IfOk r (λ told. told ≡ world_run setup (expand setup (picked marks plan) (picked_rules marks plan (map rule callbacks))))
  driven (Ok told) plan marks start drives = drives setup (map rule callbacks) start
  driven (Err e) plan marks start drives = tt

-- callbacks of the same rules are as many, and none is Free
pub as_many : {P : Type 0} (rule : P → Rule) (others callbacks : List P) (n : ℕ) → map rule others ≡ map rule callbacks → length callbacks ≡ n → length others ≡ n
as_many rule others callbacks n same enough = sym (length-map others rule) ∙ (ap length same ∙ (length-map callbacks rule ∙ enough))

-- what is told of a plan: the handle's part of its run, and the entries of just these pieces over devices that were handed back, with callbacks of the same rules
pub compared : (setup back : Setup) (plan : List Plan) (rules others : List Rule) (h : ℕ) (part : Part) (es : List Entry) → IsPlanPart setup plan rules h part → back ≡ setup → others ≡ rules
    → es ≡ world_run back (expand back (picked part.own plan) (picked_rules part.own plan others)) → TellsPlan setup plan rules h (record { shared = part.entries; alone = es })
compared setup back plan rules others h part es its same_devices same_rules run = record {
  shared = its.told;
  machine = runs ∙ (runs_alone setup steps h ∙ sees_alone setup steps h);
  runs = runs;
  part = own_part;
  same = its.told ∙ (sym (runs_alone setup steps h) ∙ sym runs);
  once = entries_once setup steps h part.entries its.told;
  order = entries_in_order setup steps h part.entries its.told;
}
  where
    steps : List Step
    steps = expand setup plan rules

    own_part : es ≡ world_run setup (expand setup (own_plan setup plan rules h) (own_rules setup plan rules h))
    own_part =
        run
        ∙ (ap (λ d. world_run d (expand d (picked part.own plan) (picked_rules part.own plan others))) same_devices
        ∙ (ap (λ r. world_run setup (expand setup (picked part.own plan) (picked_rules part.own plan r))) same_rules
        ∙ (ap (λ l. world_run setup (expand setup l (picked_rules part.own plan rules))) its.pieces_are
        ∙ ap (λ r. world_run setup (expand setup (own_plan setup plan rules h) r)) its.rules_are)))

    runs : es ≡ world_run setup (own setup steps h)
    runs = own_part ∙ ap (world_run setup) (expands_alone setup plan rules h)
