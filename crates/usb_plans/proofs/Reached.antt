-- How far a plan is.
use Rattle.std.proofs.Common.{◌≡◌, ℕ, ◌+◌, ◌<◌, Bool, true, false, List, [], ◌∷◌, ◌++◌, drop, length, map, slice_index_or, Option, Some, None, refl, ap, sym, ◌∙◌, subst, append-nil, append_assoc}
use Rattle.std.specs.Prelude.{if◌then◌else◌, is_some}
use Rattle.std.specs.List.{AllByRecursion, count_by}
use Rattle.std.specs.Vec.Iter.{into_iter_items, into_iter_len}
use Rattle.std.specs.declared.vec.IntoIter.{IntoIter}
use Rattle.std.proofs.lemmas.List.{drop_more, nil_from_length}
use Rattle.usb_model.specs.declared.entry.Entry.{Entry}
use Rattle.usb_model.specs.declared.plan.Plan.{Plan}
use Rattle.usb_model.specs.declared.plan.Plan.TheVariants.{Do, Return}
use Rattle.usb_model.specs.declared.step.Step.{Step}
use Rattle.usb_model.specs.declared.step.Step.TheVariants.{Answer}
use Rattle.usb_model.specs.declared.verdict.Rule.{Rule}
use Rattle.usb_model.specs.declared.verdict.Verdict.{Verdict}
use Rattle.usb_model.specs.declared.verdict.Verdict.TheVariants as verdict
use Rattle.usb_model.specs.Setup.{Setup}
use Rattle.usb_model.specs.World.{World, new_world, turn, world_from}
use Rattle.usb_model.specs.World.Journal.{IsBeginning, journal, journal_from, run_from, world_run}
use Rattle.usb_model.specs.World.Plans.{Expands, ExpandsFrom, Stage, expand, expand_from, first_stage, is_submission, needs_stop, return_steps, rules_after, stage_after}
use Rattle.proof_model.proofs.Handles.Isolation.{sees_alone}
use Rattle.proof_model.proofs.Handles.Runs.{run_append, world_append}
use Rattle.proof_model.proofs.Bound.AskedEnds.{asked_ends}
use Rattle.proof_model.proofs.Cut.Runs.{cuts_at}
use Rattle.proof_model.proofs.Places.Runs.{keeps_places}
use Rattle.usb_plans.specs.declared.plan_run.Performed.{Performed}
use Rattle.usb_plans.specs.Drives.{Advances, IsDriven, IsDrivenTo, Leads, ObeysAll, StaysAt, TakesNext}
use Rattle.usb_plans.specs.PlanRuns.{PlanState, entries_of, of_option, ShowsStage, StandsFor, is_verdict}
use Rattle.proof_model.proofs.Callbacks.{calls_once}
use Rattle.proof_laws.proofs.Given.{calls_after_number}
use Rattle.proof_model.proofs.Callbacks.{calls_in_order}
use Rattle.proof_laws.proofs.Plans.{AreFixed, expands_only, may_expand_from}
use Rattle.usb_plans.proofs.TakenCallbacks.{Takes, has_one, takes}

-- what holds of every run
obeys_all : (setup : Setup) (steps : List Step) → ObeysAll setup steps
obeys_all setup steps = record { core = record { cut = cuts_at setup steps; places = keeps_places setup steps; ends = asked_ends setup steps }; alone = sees_alone setup steps; once = calls_once setup steps; after = calls_after_number setup steps; order = calls_in_order setup steps }

-- the stage behind a piece's steps: their world, and the rules that are left
pub piece_world : (setup : Setup) (s : Stage) (piece : Plan) (steps : List Step) → (stage_after setup s piece steps).world ≡ world_from setup s.world steps
unfolding stage_after world_from
piece_world setup s piece [] = refl
piece_world setup s piece (x ∷ xs) = refl

-- a return is at least one step
return_first : (setup : Setup) (w : World) (h n : ℕ) (v : Verdict) → (rest : List Step) × (return_steps setup w h n v ≡ Answer h n v ∷ rest)
return_first setup w h n v = by_test (needs_stop v (turn setup w (Answer h n v)).entry.reply)
  where
    by_test : (b : Bool) → (rest : List Step) × ((if b then Answer h n v ∷ Answer h n verdict.Stop ∷ [] else Answer h n v ∷ []) ≡ Answer h n v ∷ rest)
    by_test true = (Answer h n verdict.Stop ∷ [], refl)
    by_test false = ([], refl)

-- so are those that a piece stands for
stands_first : (setup : Setup) (s : Stage) (piece : Plan) (steps : List Step) → StandsFor setup s piece steps → (first : Step) × (rest : List Step) × (steps ≡ first ∷ rest)
stands_first setup s (Do step) steps is = (step, [], is)
stands_first setup s (Return h n) steps (v, fits, is) = let f = return_first setup s.world h n v in (Answer h n v, f.0, is ∙ f.1)

-- one piece more behind some
leads_more : (setup : Setup) (s : Stage) (before : List Plan) (steps : List Step) (t : Stage) (piece : Plan) (here : List Step) → Leads setup s before steps t → StandsFor setup t piece here → Leads setup s (before ++ piece ∷ []) (steps ++ here) (stage_after setup t piece here)
leads_more setup s [] steps t piece here (none, same) stands = (here, [], subst (λ x. StandsFor setup x piece here) same stands, ap (λ l. l ++ here) none ∙ sym (append-nil here), (refl, ap (λ x. stage_after setup x piece here) same))
leads_more setup s (p ∷ ps) steps t piece here (first, more, stand, is, rest) stands = (first, more ++ here, stand, ap (λ l. l ++ here) is ∙ append_assoc first more here, leads_more setup (stage_after setup s p first) ps more t piece here rest stands)

pub piece_rules : (setup : Setup) (s : Stage) (piece : Plan) (steps : List Step) → StandsFor setup s piece steps → (stage_after setup s piece steps).rules ≡ rules_after piece s.rules
unfolding stage_after
piece_rules setup s piece steps stands = let f = stands_first setup s piece steps stands in rw f.2 refl

-- with the steps of its first piece a plan stands for those and the rest
stands_joins : (setup : Setup) (s : Stage) (piece : Plan) (plan : List Plan) (here more : List Step) → StandsFor setup s piece here → ExpandsFrom setup (stage_after setup s piece here) plan more → ExpandsFrom setup s (piece ∷ plan) (here ++ more)
stands_joins setup s (Do step) plan here more is rest = (more, ap (λ l. l ++ more) is, subst (λ l. ExpandsFrom setup (stage_after setup s (Do step) l) plan more) is rest)
stands_joins setup s (Return h n) plan here more (v, fits, is) rest = (v, more, fits, ap (λ l. l ++ more) is, subst (λ l. ExpandsFrom setup (stage_after setup s (Return h n) l) plan more) is rest)

-- what is to come of a plan, at a piece of it
pub rest_is : (plan : List Plan) (i : ℕ) (piece : Plan) → i < length plan → piece ≡ slice_index_or plan i piece → drop i plan ≡ piece ∷ drop (i + 1) plan
rest_is plan i piece within item = drop_more plan i piece within ∙ ap (λ y. y ∷ drop (i + 1) plan) (sym item)

-- nothing is to come of a list that has given all of its items
pub none_ahead : {X Z : Type 0} (ahead : IntoIter X Z) → into_iter_len ahead ≡ 0 → into_iter_items ahead ≡ []
none_ahead ahead none = nil_from_length (into_iter_items ahead) (sym ahead.rest.ok.0 ∙ none)

module _ {P : Type 0} (rule : P → Rule) (setup : Setup) (plan : List Plan) (rules : List Rule) where
  -- some pieces were performed, with these entries. ahead: the pieces to come; left: the callbacks of their submissions
  pub record Reached (v : PlanState P) (entries : List Entry) (ahead : List Plan) (left : List P) : Type 0 where
    pub stage : Stage
    pub steps : List Step
    pub shows : ShowsStage rule setup v stage
    pub run : entries ≡ world_run setup steps
    pub world : stage.world ≡ world_from setup (new_world setup) steps
    pub joins : (more : List Step) → ExpandsFrom setup stage ahead more → Expands setup plan rules (steps ++ more)
    pub under : stage.rules ≡ map rule left
    pub enough : length left ≡ count_by is_submission ahead
    pub no_verdict : AllByRecursion (λ piece. is_verdict piece ≡ false) ahead
    pub before : List Plan
    pub parts : plan ≡ before ++ ahead
    pub leads : Leads setup (first_stage setup rules) before steps stage

  -- none was
  pub none_yet : (v : PlanState P) (ahead : List Plan) (left : List P) → ahead ≡ plan → ((rs : List Rule) → ShowsStage rule setup v (first_stage setup rs)) → rules ≡ map rule left → length left ≡ count_by is_submission plan
      → AllByRecursion (λ piece. is_verdict piece ≡ false) plan → Reached v [] ahead left
  unfolding journal journal_from world_from
  none_yet v ahead left same shows under enough none = subst (λ l. Reached v [] l left) (sym same) first
    where
      first : Reached v [] plan left
      first = record {
        stage = first_stage setup rules;
        steps = [];
        shows = shows rules;
        run = refl;
        world = refl;
        joins = λ more is. is;
        under = under;
        enough = enough;
        no_verdict = none;
        before = [];
        parts = refl;
        leads = (refl, refl);
      }

  -- a piece that submits has its callback
  pub has_callback : (v : PlanState P) (es : List Entry) (ahead beyond : List Plan) (left new : List P) (piece : Plan) (callback : Option P) → ahead ≡ piece ∷ beyond → Reached v es ahead left → TakesNext (is_submission piece) left new callback
      → is_submission piece ≡ true → is_some callback ≡ true
  has_callback v es ahead beyond left new piece callback comes r next = has_one rule piece beyond left new callback (r.enough ∙ ap (count_by is_submission) comes) next

  -- and is no verdict
  pub is_no_verdict : (v : PlanState P) (es : List Entry) (ahead beyond : List Plan) (left : List P) (piece : Plan) → ahead ≡ piece ∷ beyond → Reached v es ahead left → is_verdict piece ≡ false
  is_no_verdict v es ahead beyond left piece comes r = (subst (AllByRecursion (λ p. is_verdict p ≡ false)) comes r.no_verdict).0

  -- one piece more
  pub one_more : (v new : PlanState P) (es fs : List Entry) (ahead beyond : List Plan) (left more : List P) (piece : Plan) (callback : Option P) → ahead ≡ piece ∷ beyond → Reached v es ahead left → TakesNext (is_submission piece) left more callback
      → Advances rule v piece callback new es fs → Reached new fs beyond more
  unfolding journal
  one_more v new es fs ahead beyond left more piece callback comes r next (entries, performs, pushed) = by_steps (performs setup r.stage r.shows taken.under)
    where
      taken : Takes rule r.stage.rules piece beyond callback more
      taken = takes rule r.stage.rules piece beyond left more callback r.under (r.enough ∙ ap (count_by is_submission) comes) next

      by_steps : (here : List Step) × StandsFor setup r.stage piece here × (entries ≡ run_from setup r.stage.world here) × ShowsStage rule setup new (stage_after setup r.stage piece here) → Reached new fs beyond more
      by_steps (here, stands, run, shows) = record {
        stage = stage_after setup r.stage piece here;
        steps = r.steps ++ here;
        shows = shows;
        run = pushed ∙ (ap (λ l. l ++ entries) r.run ∙ (ap (λ l. world_run setup r.steps ++ l) (run ∙ ap (λ w. run_from setup w here) r.world) ∙ sym (run_append setup (new_world setup) r.steps here)));
        world = piece_world setup r.stage piece here ∙ (ap (λ w. world_from setup w here) r.world ∙ sym (world_append setup (new_world setup) r.steps here));
        joins = λ later is. subst (Expands setup plan rules) (sym (append_assoc r.steps here later)) (r.joins (here ++ later) (subst (λ l. ExpandsFrom setup r.stage l (here ++ later)) (sym comes) (stands_joins setup r.stage piece beyond here later stands is)));
        under = piece_rules setup r.stage piece here stands ∙ taken.left;
        enough = taken.enough;
        no_verdict = (subst (AllByRecursion (λ p. is_verdict p ≡ false)) comes r.no_verdict).1;
        before = r.before ++ piece ∷ [];
        parts = r.parts ∙ (ap (λ l. r.before ++ l) comes ∙ sym (append_assoc r.before (piece ∷ []) beyond));
        leads = leads_more setup (first_stage setup rules) r.before r.steps r.stage piece here r.leads stands;
      }

  -- the whole plan
  pub all : (v : PlanState P) (es : List Entry) (ahead : List Plan) (left : List P) → ahead ≡ [] → Reached v es ahead left → IsDriven setup plan rules es
  all v es ahead left none r = record {
    steps = r.steps;
    may = may;
    only = λ fixed. expands_only setup plan rules fixed r.steps may;
    run = r.run;
    laws = obeys_all setup r.steps;
  }
    where
      may : Expands setup plan rules r.steps
      may = subst (Expands setup plan rules) (append-nil r.steps) (r.joins [] (subst (λ l. ExpandsFrom setup r.stage l []) (sym none) refl))

  -- where no rule is Free, its entries are those of the steps that it stands for
  pub all_fixed : (v : PlanState P) (es : List Entry) (ahead : List Plan) (left : List P) → ahead ≡ [] → Reached v es ahead left → AreFixed rules → es ≡ world_run setup (expand setup plan rules)
  all_fixed v es ahead left none r fixed = let driven = all v es ahead left none r in driven.run ∙ ap (world_run setup) (driven.only fixed)

  -- and the world that is shown is the one where these steps end
  pub ends_fixed : (v : PlanState P) (es : List Entry) (ahead : List Plan) (left : List P) → ahead ≡ [] → (r : Reached v es ahead left) → AreFixed rules → r.stage.world ≡ world_from setup (new_world setup) (expand setup plan rules)
  unfolding all
  ends_fixed v es ahead left none r fixed = r.world ∙ ap (world_from setup (new_world setup)) ((all v es ahead left none r).only fixed)

  -- and before its end they are a beginning of these
  pub begins_fixed : (v : PlanState P) (es : List Entry) (ahead : List Plan) (left : List P) → Reached v es ahead left → AreFixed rules → IsBeginning es (world_run setup (expand setup plan rules))
  unfolding journal
  begins_fixed v es ahead left r fixed = subst (λ l. IsBeginning es (world_run setup l)) (expands_only setup plan rules fixed (r.steps ++ more) may) begun
    where
      more : List Step
      more = expand_from setup r.stage ahead

      may : Expands setup plan rules (r.steps ++ more)
      may = r.joins more (may_expand_from setup r.stage ahead)

      begun : IsBeginning es (world_run setup (r.steps ++ more))
      begun = (run_from setup (world_from setup (new_world setup) r.steps) more, run_append setup (new_world setup) r.steps more ∙ sym (ap (λ l. l ++ run_from setup (world_from setup (new_world setup) r.steps) more) r.run))

  -- no memory was found at a piece
  pub stopped : (v new : PlanState P) (es : List Entry) (ahead beyond : List Plan) (left : List P) (piece : Plan) → ahead ≡ piece ∷ beyond → Reached v es ahead left → StaysAt rule v piece new → IsDrivenTo rule setup plan rules es new
  stopped v new es ahead beyond left piece comes r stays = record {
    before = r.before;
    piece = piece;
    behind = beyond;
    parts = r.parts ∙ ap (λ l. r.before ++ l) comes;
    steps = r.steps;
    stage = r.stage;
    leads = r.leads;
    told = r.run;
    shows = stays setup r.stage r.shows;
    rest = expand_from setup r.stage ahead;
    may = may;
    only = λ fixed. expands_only setup plan rules fixed (r.steps ++ expand_from setup r.stage ahead) may;
  }
    where
      may : Expands setup plan rules (r.steps ++ expand_from setup r.stage ahead)
      may = r.joins (expand_from setup r.stage ahead) (may_expand_from setup r.stage ahead)

-- one entry of a piece was put beyond the others
pub one_told : {P : Type 0} (x : Performed P) (before after : List Entry) → x.stop ≡ None → after ≡ before ++ x.entry ∷ [] → after ≡ before ++ entries_of x
one_told x before after none pushed = pushed ∙ ap (λ o. before ++ x.entry ∷ of_option o) (sym none)

-- two were
pub two_told : {P : Type 0} (x : Performed P) (stop : Entry) (before between after : List Entry) → x.stop ≡ Some stop → between ≡ before ++ x.entry ∷ [] → after ≡ between ++ stop ∷ [] → after ≡ before ++ entries_of x
two_told x stop before between after some pushed again =
    again ∙ (ap (λ l. l ++ stop ∷ []) pushed ∙ (append_assoc before (x.entry ∷ []) (stop ∷ []) ∙ ap (λ o. before ++ x.entry ∷ of_option o) (sym some)))
