-- A handle's part of a plan stands for the handle's own steps.
use Rattle.std.proofs.Common.{◌≡◌, ℕ, ◌==◌, Bool, true, false, not, ◌&&◌, inl, inr, List, [], ◌∷◌, ◌++◌, Option, Some, None, refl, ap, ap₂, sym, ◌∙◌, subst}
use Rattle.std.specs.Prelude.{if◌then◌else◌}
use Rattle.std.proofs.lemmas.Bool.{eqb-true, or_parts}
use Rattle.usb_model.specs.declared.reply.Reply.{Reply}
use Rattle.usb_model.specs.declared.reply.Reply.TheVariants.{Number}
use Rattle.usb_model.specs.declared.entry.Entry.{Entry}
use Rattle.usb_model.specs.declared.step.Step.{Step}
use Rattle.usb_model.specs.declared.step.Step.TheVariants.{Answer}
use Rattle.usb_model.specs.declared.verdict.Verdict.{Verdict}
use Rattle.usb_model.specs.declared.verdict.Verdict.TheVariants as verdict
use Rattle.usb_model.specs.declared.verdict.Rule.{Rule}
use Rattle.usb_model.specs.declared.plan.Plan.{Plan}
use Rattle.usb_model.specs.declared.plan.Plan.TheVariants.{Do, Return}
use Rattle.usb_model.specs.Setup.{Setup}
use Rattle.usb_model.specs.Machine.Calls.{callback_of}
use Rattle.usb_model.specs.World.{machine_of, is_its, turn}
use Rattle.usb_model.specs.World.Journal.{journal_from, journal, is_held_elsewhere, is_unplug}
use Rattle.usb_model.specs.World.Plans.{Book, noted_by, noted, verdict_by, needs_stop, return_steps, is_submit, rules_past, rules_after, first_rule, rule_for, once_only, Stage, first_stage, returning, steps_of, stage_after, expand_from, is_own_piece, is_submission, own_plan_from, own_rules_from}
use Rattle.proof_model.proofs.Handles.Isolation.{is_own_step, IsEither, turn_to, own_from}
use Rattle.proof_laws.specs.Isolation.{ExpandsAlone}
use Rattle.proof_model.proofs.Handles.Alone.{OnlyOf, turn_again, only_new}
use Rattle.proof_laws.proofs.OwnEntries.{own-append, AllOwn, NoneOwn, own_all, own_none, run_again, run_stays}
use Rattle.proof_laws.proofs.Verdicts.{answer_own, answer_others}

-- books that have the same rules for a name
abbrev pub SameBook : ℕ → Book → Book → Type 0
SameBook h book other = (n : ℕ) → book h n ≡ other h n

-- the same entry under the same rule keeps them so
noted_same : (h : ℕ) (book other : Book) (entry : Entry) (rule : Rule) → SameBook h book other → SameBook h (noted book entry rule) (noted other entry rule)
noted_same h book other entry rule same n = by_owner entry.owner entry.reply
  where
    by_test : (b : Bool) → (if b then rule else book h n) ≡ (if b then rule else other h n)
    by_test true = refl
    by_test false = same n

    by_owner : (o : Option ℕ) (reply : Reply) → noted_by book o reply rule h n ≡ noted_by other o reply rule h n
    by_owner None reply = same n
    by_owner (Some g) (Number k) = by_test ((g == h) && (k == n))
    by_owner (Some g) _ = same n

-- an entry that is not the name's own leaves its rules
noted_nothing : (h : ℕ) (book : Book) (step : Step) (entry : Entry) (rule : Rule) → is_own_step h step entry ≡ false → SameBook h (noted book entry rule) book
noted_nothing h book step entry rule e n = by_owner entry.owner entry.reply (or_parts (is_unplug step) (is_its h entry.owner && not (is_held_elsewhere entry.reply)) e).1
  where
    by_test : (b c : Bool) → (b && true) ≡ false → (if b && c then rule else book h n) ≡ book h n
    by_test true c e = absurd cc
    by_test false c e = refl

    by_owner : (o : Option ℕ) (reply : Reply) → (is_its h o && not (is_held_elsewhere reply)) ≡ false → noted_by book o reply rule h n ≡ book h n
    by_owner None reply e = refl
    by_owner (Some g) (Number k) e = by_test (g == h) (k == n) e
    by_owner (Some g) _ e = refl

-- to the handle, one stage is another in which it is alone, but for the rules to come
pub record IsSame (setup : Setup) (h : ℕ) (s t : Stage) : Type 0 where
  pub machine : machine_of setup h s.world ≡ machine_of setup h t.world
  pub only : OnlyOf h t.world
  pub book : SameBook h s.book t.book

-- after a piece that stands for own steps, under the same rule
pub same_after : (setup : Setup) (h : ℕ) (s t : Stage) (piece : Plan) (step : Step) (more : List Step) → IsSame setup h s t → AllOwn setup h s.world (step ∷ more)
    → rule_for s.book s.rules piece ≡ rule_for t.book t.rules piece → IsSame setup h (stage_after setup s piece (step ∷ more)) (stage_after setup t piece (step ∷ more))
unfolding stage_after
same_after setup h s t piece step more same all rule =
    let run = run_again setup h s.world t.world (step ∷ more) all same.machine same.only in
    let first = turn_again setup h s.world t.world step same.machine same.only all.0 in
    record {
      machine = run.0;
      only = run.1;
      book = subst (λ e. SameBook h (noted s.book (turn setup s.world step).entry (rule_for s.book s.rules piece)) (noted t.book e (rule_for t.book t.rules piece))) (sym first.0)
          (subst (λ r. SameBook h (noted s.book (turn setup s.world step).entry (rule_for s.book s.rules piece)) (noted t.book (turn setup s.world step).entry r)) rule
          (noted_same h s.book t.book (turn setup s.world step).entry (rule_for s.book s.rules piece) same.book));
    }

-- after one that stands for steps of others
pub same_past : (setup : Setup) (h : ℕ) (s t : Stage) (piece : Plan) (step : Step) (more : List Step) → IsSame setup h s t → NoneOwn setup h s.world (step ∷ more)
    → IsSame setup h (stage_after setup s piece (step ∷ more)) t
unfolding stage_after
same_past setup h s t piece step more same none = record {
  machine = run_stays setup h s.world (step ∷ more) none ∙ same.machine;
  only = same.only;
  book = λ n. noted_nothing h s.book step (turn setup s.world step).entry (rule_for s.book s.rules piece) none.0.0 n ∙ same.book n;
}

-- a piece of the handle's own stands for the same steps at both stages
pub record IsOwnPiece (setup : Setup) (h : ℕ) (s t : Stage) (piece : Plan) : Type 0 where
  pub first : Step
  pub more : List Step
  pub here : steps_of setup s piece ≡ first ∷ more
  pub there : steps_of setup t piece ≡ first ∷ more
  pub all : AllOwn setup h s.world (first ∷ more)

-- another's stands for steps that are none of its own
pub record IsOthersPiece (setup : Setup) (h : ℕ) (s : Stage) (piece : Plan) : Type 0 where
  pub first : Step
  pub more : List Step
  pub here : steps_of setup s piece ≡ first ∷ more
  pub none : NoneOwn setup h s.world (first ∷ more)

-- a return of the handle's own
own_return : (setup : Setup) (h : ℕ) (s t : Stage) (n : ℕ) → IsSame setup h s t → IsOwnPiece setup h s t (Return h n)
unfolding machine_of
own_return setup h s t n same = by_test (needs_stop v (turn setup s.world (Answer h n v)).entry.reply) refl
  where
    v : Verdict
    v = verdict_by (returning s h n) (s.book h n)

    verdict_same : v ≡ verdict_by (returning t h n) (t.book h n)
    verdict_same = ap₂ (λ o r. verdict_by (callback_of n o) r) (ap (λ m. m.handle.in_callbacks) same.machine) (same.book n)

    stop_same : needs_stop v (turn setup t.world (Answer h n v)).entry.reply ≡ needs_stop v (turn setup s.world (Answer h n v)).entry.reply
    stop_same = ap (λ e. needs_stop v e.reply) (turn_again setup h s.world t.world (Answer h n v) same.machine same.only (answer_own setup h s.world n v)).0

    by_test : (b : Bool) → needs_stop v (turn setup s.world (Answer h n v)).entry.reply ≡ b → IsOwnPiece setup h s t (Return h n)
    by_test true e = record {
      first = Answer h n v;
      more = Answer h n verdict.Stop ∷ [];
      here = rw e;
      there = ap (return_steps setup t.world h n) (sym verdict_same) ∙ rw (stop_same, e);
      all = (answer_own setup h s.world n v, (answer_own setup h (turn setup s.world (Answer h n v)).world n verdict.Stop, tt));
    }
    by_test false e = record {
      first = Answer h n v;
      more = [];
      here = rw e;
      there = ap (return_steps setup t.world h n) (sym verdict_same) ∙ rw (stop_same, e);
      all = (answer_own setup h s.world n v, tt);
    }

-- another's return
others_return : (setup : Setup) (h : ℕ) (s : Stage) (g n : ℕ) → (g == h) ≡ false → IsOthersPiece setup h s (Return g n)
others_return setup h s g n differ = by_test (needs_stop v (turn setup s.world (Answer g n v)).entry.reply) refl
  where
    v : Verdict
    v = verdict_by (returning s g n) (s.book g n)

    by_test : (b : Bool) → needs_stop v (turn setup s.world (Answer g n v)).entry.reply ≡ b → IsOthersPiece setup h s (Return g n)
    by_test true e = record {
      first = Answer g n v;
      more = Answer g n verdict.Stop ∷ [];
      here = rw e;
      none = (answer_others setup g h s.world n v differ, (answer_others setup g h (turn setup s.world (Answer g n v)).world n verdict.Stop differ, tt));
    }
    by_test false e = record { first = Answer g n v; more = []; here = rw e; none = (answer_others setup g h s.world n v differ, tt) }

-- any piece of its own
pub own_piece : (setup : Setup) (h : ℕ) (s t : Stage) (piece : Plan) → IsSame setup h s t → is_own_piece setup h s piece ≡ true → IsOwnPiece setup h s t piece
own_piece setup h s t (Do step) same mine = by_turn (turn_to setup h s.world step)
  where
    by_turn : IsEither setup h s.world step (turn setup s.world step) → IsOwnPiece setup h s t (Do step)
    by_turn (inl o) = record { first = step; more = []; here = refl; there = refl; all = (o, tt) }
    by_turn (inr x) = let not_mine : is_own_piece setup h s (Do step) ≡ false = x.0 in absurd cc
own_piece setup h s t (Return g n) same mine = subst (λ k. IsOwnPiece setup h s t (Return k n)) (sym (eqb-true g h mine)) (own_return setup h s t n same)

-- any other
pub others_piece : (setup : Setup) (h : ℕ) (s : Stage) (piece : Plan) → is_own_piece setup h s piece ≡ false → IsOthersPiece setup h s piece
others_piece setup h s (Do step) others = by_turn (turn_to setup h s.world step)
  where
    by_turn : IsEither setup h s.world step (turn setup s.world step) → IsOthersPiece setup h s (Do step)
    by_turn (inl o) = let mine : is_own_piece setup h s (Do step) ≡ true = o.2 in absurd cc
    by_turn (inr x) = record { first = step; more = []; here = refl; none = (x, tt) }
others_piece setup h s (Return g n) others = others_return setup h s g n others

-- a piece of the handle's own has the same rule where the handle is alone, and leaves the rules of what is to come
abbrev pub with_first_rule : Bool → List Rule → List Rule → List Rule
with_first_rule b rules rest = if b then first_rule rules ∷ rest else rest

-- it has the same rule
pub rule_same : (setup : Setup) (h : ℕ) (s t : Stage) (piece : Plan) (rest : List Rule) → IsSame setup h s t → is_own_piece setup h s piece ≡ true → t.rules ≡ with_first_rule (is_submission piece) s.rules rest
    → rule_for s.book s.rules piece ≡ rule_for t.book t.rules piece
rule_same setup h s t (Do step) rest same mine rules = rw rules (by_test (is_submit step))
  where
    by_test : (b : Bool) → (if b then first_rule s.rules else once_only) ≡ (if b then first_rule (with_first_rule b s.rules rest) else once_only)
    by_test true = refl
    by_test false = refl
rule_same setup h s t (Return g n) rest same mine rules = subst (λ k. s.book k n ≡ t.book k n) (sym (eqb-true g h mine)) (same.book n)

-- and leaves the rest
pub rules_left : (piece : Plan) (rules rest : List Rule) → rules_after piece (with_first_rule (is_submission piece) rules rest) ≡ rest
rules_left (Do step) rules rest = by_test (is_submit step)
  where
    by_test : (b : Bool) → rules_past b (with_first_rule b rules rest) ≡ rest
    by_test true = refl
    by_test false = refl
rules_left (Return g n) rules rest = refl

-- the claim for what is left of a plan, from any two stages that are the same to the handle
abbrev ExpandsFrom : Setup → ℕ → List Plan → Type 0
ExpandsFrom setup h plan = (s t : Stage) → IsSame setup h s t → t.rules ≡ own_rules_from setup h s plan
    → expand_from setup t (own_plan_from setup h s plan) ≡ own_from setup h s.world (expand_from setup s plan)

-- what is left of the handle's part, and of its rules, behind a piece
abbrev plan_behind : Setup → ℕ → Stage → Plan → List Plan → List Step → List Plan
plan_behind setup h s piece plan steps = own_plan_from setup h (stage_after setup s piece steps) plan

-- and of its rules
abbrev rules_behind : Setup → ℕ → Stage → Plan → List Plan → List Step → List Rule
rules_behind setup h s piece plan steps = own_rules_from setup h (stage_after setup s piece steps) plan

-- a piece of its own, before the rest
own_in_front : (setup : Setup) (h : ℕ) (piece : Plan) (plan : List Plan) (s t : Stage) → IsSame setup h s t → is_own_piece setup h s piece ≡ true
    → t.rules ≡ with_first_rule (is_submission piece) s.rules (rules_behind setup h s piece plan (steps_of setup s piece)) → ExpandsFrom setup h plan
    → expand_from setup t (piece ∷ plan_behind setup h s piece plan (steps_of setup s piece)) ≡ own_from setup h s.world (expand_from setup s (piece ∷ plan))
unfolding expand_from stage_after
own_in_front setup h piece plan s t same mine rules rest =
    ap (λ l. l ++ expand_from setup (stage_after setup t piece l) (plan_behind setup h s piece plan (steps_of setup s piece))) p.there
    ∙ (ap (λ l. steps ++ expand_from setup later_t (plan_behind setup h s piece plan l)) p.here
    ∙ (ap (λ l. steps ++ l) (rest later_s later_t (same_after setup h s t piece p.first p.more same p.all (rule_same setup h s t piece _ same mine rules)) left)
    ∙ (ap (λ l. l ++ own_from setup h later_s.world (expand_from setup later_s plan)) (sym (own_all setup h s.world steps p.all))
    ∙ (sym (own-append setup h s.world steps (expand_from setup later_s plan))
    ∙ sym (ap (λ l. own_from setup h s.world (l ++ expand_from setup (stage_after setup s piece l) plan)) p.here)))))
  where
    p : IsOwnPiece setup h s t piece
    p = own_piece setup h s t piece same mine

    steps : List Step
    steps = p.first ∷ p.more

    later_s : Stage
    later_s = stage_after setup s piece steps

    later_t : Stage
    later_t = stage_after setup t piece steps

    left : later_t.rules ≡ own_rules_from setup h later_s plan
    left = ap (rules_after piece) rules ∙ (rules_left piece s.rules (rules_behind setup h s piece plan (steps_of setup s piece)) ∙ ap (rules_behind setup h s piece plan) p.here)

-- another, before the rest
others_in_front : (setup : Setup) (h : ℕ) (piece : Plan) (plan : List Plan) (s t : Stage) → IsSame setup h s t → is_own_piece setup h s piece ≡ false
    → t.rules ≡ rules_behind setup h s piece plan (steps_of setup s piece) → ExpandsFrom setup h plan
    → expand_from setup t (plan_behind setup h s piece plan (steps_of setup s piece)) ≡ own_from setup h s.world (expand_from setup s (piece ∷ plan))
unfolding expand_from stage_after
others_in_front setup h piece plan s t same others rules rest =
    ap (λ l. expand_from setup t (plan_behind setup h s piece plan l)) p.here
    ∙ (rest later t (same_past setup h s t piece p.first p.more same p.none) (rules ∙ ap (rules_behind setup h s piece plan) p.here)
    ∙ (ap (λ l. l ++ own_from setup h later.world (expand_from setup later plan)) (sym (own_none setup h s.world steps p.none))
    ∙ (sym (own-append setup h s.world steps (expand_from setup later plan))
    ∙ sym (ap (λ l. own_from setup h s.world (l ++ expand_from setup (stage_after setup s piece l) plan)) p.here))))
  where
    p : IsOthersPiece setup h s piece
    p = others_piece setup h s piece others

    steps : List Step
    steps = p.first ∷ p.more

    later : Stage
    later = stage_after setup s piece steps

-- so it is of any plan
expands_from : (setup : Setup) (h : ℕ) (plan : List Plan) → ExpandsFrom setup h plan
unfolding expand_from own_plan_from own_rules_from journal_from
expands_from setup h [] s t same rules = refl
expands_from setup h (piece ∷ plan) s t same rules = by_test (is_own_piece setup h s piece) refl rules (expands_from setup h plan)
  where
    by_test : (b : Bool) → is_own_piece setup h s piece ≡ b
        → t.rules ≡ (if b && is_submission piece then first_rule s.rules ∷ rules_behind setup h s piece plan (steps_of setup s piece) else rules_behind setup h s piece plan (steps_of setup s piece))
        → ExpandsFrom setup h plan
        → expand_from setup t (if b then piece ∷ plan_behind setup h s piece plan (steps_of setup s piece) else plan_behind setup h s piece plan (steps_of setup s piece))
        ≡ own_from setup h s.world (expand_from setup s (piece ∷ plan))
    by_test true e rules rest = own_in_front setup h piece plan s t same e rules rest
    by_test false e rules rest = others_in_front setup h piece plan s t same e rules rest

-- at the beginning the handle is alone with all of its plan before it
pub expands_alone : (setup : Setup) (plan : List Plan) (rules : List Rule) (h : ℕ) → ExpandsAlone setup plan rules h
unfolding journal
expands_alone setup plan rules h =
    expands_from setup h plan (first_stage setup rules) (first_stage setup (own_rules_from setup h (first_stage setup rules) plan))
    (record { machine = refl; only = only_new setup h; book = λ n. refl }) refl
