-- Pieces of a plan, and the entries of their steps.
use Rattle.std.proofs.Common.{◌≡◌, ℕ, ◌+◌, ◌<◌, ◌≤◌, true, false, List, [], ◌∷◌, ◌++◌, length, drop, slice_index_or, refl, sym, ap, ◌∙◌, append-nil, append_assoc, Option, Some, None}
use Rattle.std.proofs.lemmas.List.{drop_more, drop_all}
use Rattle.usb_model.specs.declared.entry.Entry.{Entry}
use Rattle.usb_model.specs.declared.plan.Plan.{Plan}
use Rattle.usb_model.specs.declared.plan.Plan.TheVariants.{Return}
use Rattle.usb_model.specs.declared.step.Step.{Step}
use Rattle.usb_model.specs.declared.step.Step.TheVariants.{Answer}
use Rattle.usb_model.specs.declared.verdict.Verdict.{Verdict}
use Rattle.usb_model.specs.declared.verdict.Verdict.TheVariants as verdict
use Rattle.usb_model.specs.Setup.{Setup}
use Rattle.usb_model.specs.World.{World, Turn, turn, world_from}
use Rattle.usb_model.specs.World.Journal.{journal_from}
use Rattle.usb_model.specs.World.Plans.{Stage, stage_after, needs_stop, return_steps, steps_of, noted, rule_for, rules_after, expand_from}
use Rattle.usb_model.specs.World.Journal.{IsBeginning, run_from}
use Rattle.proof_model.proofs.Handles.Runs.{run_append}
use Rattle.reference.specs.PlanRuns.{Made, kept_with}

-- one step's entry
pub one_entry : (setup : Setup) (w : World) (step : Step) → run_from setup w (step ∷ []) ≡ (turn setup w step).entry ∷ []
unfolding journal_from
one_entry setup w step = refl

-- two steps' entries
pub two_entries : (setup : Setup) (w : World) (x y : Step) → run_from setup w (x ∷ y ∷ []) ≡ (turn setup w x).entry ∷ (turn setup (turn setup w x).world y).entry ∷ []
unfolding journal_from
two_entries setup w x y = refl

-- the stage after one step
pub stage_by_one : (setup : Setup) (s t : Stage) (piece : Plan) (step : Step) → t.world ≡ (turn setup s.world step).world
    → ((h n : ℕ) → t.book h n ≡ noted s.book (turn setup s.world step).entry (rule_for s.book s.rules piece) h n) → t.rules ≡ rules_after piece s.rules → t ≡ stage_after setup s piece (step ∷ [])
unfolding stage_after world_from
stage_by_one setup s t piece step world book rules = λ i. record { world = world i; book = λ h n. book h n i; rules = rules i }

-- the stage after two
pub stage_by_two : (setup : Setup) (s t : Stage) (piece : Plan) (x y : Step) → t.world ≡ (turn setup (turn setup s.world x).world y).world
    → ((h n : ℕ) → t.book h n ≡ noted s.book (turn setup s.world x).entry (rule_for s.book s.rules piece) h n) → t.rules ≡ rules_after piece s.rules → t ≡ stage_after setup s piece (x ∷ y ∷ [])
unfolding stage_after world_from
stage_by_two setup s t piece x y world book rules = λ i. record { world = world i; book = λ h n. book h n i; rules = rules i }

-- the world after a piece is where its steps lead
pub world_after_piece : (setup : Setup) (s : Stage) (piece : Plan) (steps : List Step) → (stage_after setup s piece steps).world ≡ world_from setup s.world steps
unfolding stage_after world_from
world_after_piece setup s piece [] = refl
world_after_piece setup s piece (x ∷ xs) = refl

-- the step of an answer, and its turn
abbrev AnswerTurn : Setup → Stage → ℕ → ℕ → Verdict → Turn
AnswerTurn setup s h n v = turn setup s.world (Answer h n v)

-- an answer that needs no second one
pub made_once : (setup : Setup) (s t : Stage) (h n : ℕ) (v : Verdict) (before after : List Entry) → needs_stop v (AnswerTurn setup s h n v).entry.reply ≡ false
    → after ≡ before ++ (AnswerTurn setup s h n v).entry ∷ [] → t.world ≡ (AnswerTurn setup s h n v).world
    → ((g k : ℕ) → t.book g k ≡ noted s.book (AnswerTurn setup s h n v).entry (s.book h n) g k) → t.rules ≡ s.rules
    → Made setup s (Return h n) (return_steps setup s.world h n v) before after t
made_once setup s t h n v before after once out world book rules =
    rw once (out ∙ ap (λ l. before ++ l) (sym (one_entry setup s.world (Answer h n v))), stage_by_one setup s t (Return h n) (Answer h n v) world book rules)

-- and one that does
pub made_twice : (setup : Setup) (s t : Stage) (h n : ℕ) (v : Verdict) (before after : List Entry) → needs_stop v (AnswerTurn setup s h n v).entry.reply ≡ true
    → after ≡ (before ++ (AnswerTurn setup s h n v).entry ∷ []) ++ (turn setup (AnswerTurn setup s h n v).world (Answer h n verdict.Stop)).entry ∷ []
    → t.world ≡ (turn setup (AnswerTurn setup s h n v).world (Answer h n verdict.Stop)).world
    → ((g k : ℕ) → t.book g k ≡ noted s.book (AnswerTurn setup s h n v).entry (s.book h n) g k) → t.rules ≡ s.rules
    → Made setup s (Return h n) (return_steps setup s.world h n v) before after t
made_twice setup s t h n v before after twice out world book rules =
    rw twice (out ∙ (append_assoc before _ _ ∙ ap (λ l. before ++ l) (sym (two_entries setup s.world (Answer h n v) (Answer h n verdict.Stop)))), stage_by_two setup s t (Return h n) (Answer h n v) (Answer h n verdict.Stop) world book rules)

-- the first of two is a beginning
pub begun : (setup : Setup) (s : Stage) (h n : ℕ) (v : Verdict) (before after : List Entry) → needs_stop v (AnswerTurn setup s h n v).entry.reply ≡ true
    → after ≡ before ++ (AnswerTurn setup s h n v).entry ∷ [] → IsBeginning after (before ++ run_from setup s.world (return_steps setup s.world h n v))
begun setup s h n v before after twice out = (
  (turn setup (AnswerTurn setup s h n v).world (Answer h n verdict.Stop)).entry ∷ [],
  rw (twice, out, two_entries setup s.world (Answer h n v) (Answer h n verdict.Stop)) (sym (append_assoc before _ _)),
)

-- one piece further
pub piece_further : (setup : Setup) (s t : Stage) (piece : Plan) (plan : List Plan) (i : ℕ) (es fs all : List Entry) → i < length plan → piece ≡ slice_index_or plan i piece
    → es ++ run_from setup s.world (expand_from setup s (drop i plan)) ≡ all → Made setup s piece (steps_of setup s piece) es fs t
    → fs ++ run_from setup t.world (expand_from setup t (drop (i + 1) plan)) ≡ all
unfolding expand_from
piece_further setup s t piece plan i es fs all within item so_far made =
    let rest : drop i plan ≡ piece ∷ drop (i + 1) plan = drop_more plan i piece within ∙ ap (λ y. y ∷ drop (i + 1) plan) (sym item) in
    let steps : List Step = steps_of setup s piece in
    let u : Stage = stage_after setup s piece steps in
    let split : run_from setup s.world (expand_from setup s (drop i plan)) ≡ run_from setup s.world steps ++ run_from setup u.world (expand_from setup u (drop (i + 1) plan)) =
    ap (λ l. run_from setup s.world (expand_from setup s l)) rest
    ∙ (run_append setup s.world steps (expand_from setup u (drop (i + 1) plan))
    ∙ ap (λ (w : World). run_from setup s.world steps ++ run_from setup w (expand_from setup u (drop (i + 1) plan))) (sym (world_after_piece setup s piece steps))) in
    rw (made.0, made.1, append_assoc) (sym (ap (λ l. es ++ l) split) ∙ so_far)

-- at the end of the plan there is nothing left
pub plan_ends : (setup : Setup) (s : Stage) (plan : List Plan) (i : ℕ) (es all : List Entry) → length plan ≤ i → es ++ run_from setup s.world (expand_from setup s (drop i plan)) ≡ all → es ≡ all
unfolding expand_from journal_from
plan_ends setup s plan i es all past so_far =
    sym (append-nil es) ∙ (sym (ap (λ l. es ++ run_from setup s.world (expand_from setup s l)) (drop_all i plan past)) ∙ so_far)

-- what stopped within a piece is a beginning of all
pub begun_all : (setup : Setup) (s : Stage) (piece : Plan) (plan : List Plan) (i : ℕ) (es fs all : List Entry) → i < length plan → piece ≡ slice_index_or plan i piece
    → es ++ run_from setup s.world (expand_from setup s (drop i plan)) ≡ all → IsBeginning fs (es ++ run_from setup s.world (steps_of setup s piece)) → IsBeginning fs all
unfolding expand_from
begun_all setup s piece plan i es fs all within item so_far begins =
    let rest : drop i plan ≡ piece ∷ drop (i + 1) plan = drop_more plan i piece within ∙ ap (λ y. y ∷ drop (i + 1) plan) (sym item) in
    let steps : List Step = steps_of setup s piece in
    let more : List Step = expand_from setup (stage_after setup s piece steps) (drop (i + 1) plan) in
    let behind : List Entry = run_from setup (world_from setup s.world steps) more in (
      begins.0 ++ behind,
      sym so_far
          ∙ (ap (λ l. es ++ run_from setup s.world (expand_from setup s l)) rest
          ∙ (ap (λ l. es ++ l) (run_append setup s.world steps more)
          ∙ (sym (append_assoc es (run_from setup s.world steps) behind)
          ∙ (ap (λ l. l ++ behind) begins.1 ∙ append_assoc fs begins.0 behind)))),
    )

-- steps that are kept one by one are kept together
pub kept_twice : (made : Option (List Step)) (x y : Step) → kept_with (kept_with made (x ∷ [])) (y ∷ []) ≡ kept_with made (x ∷ y ∷ [])
kept_twice None x y = refl
kept_twice (Some made) x y = ap Some (append_assoc made (x ∷ []) (y ∷ []))

-- a list so far, with those from here on
list_further : (setup : Setup) (s t : Stage) (piece : Plan) (plan : List Plan) (i : ℕ) (made : List Step) → i < length plan → piece ≡ slice_index_or plan i piece
    → t ≡ stage_after setup s piece (steps_of setup s piece) → (made ++ steps_of setup s piece) ++ expand_from setup t (drop (i + 1) plan) ≡ made ++ expand_from setup s (drop i plan)
unfolding expand_from
list_further setup s t piece plan i made within item at =
    let rest : drop i plan ≡ piece ∷ drop (i + 1) plan = drop_more plan i piece within ∙ ap (λ y. y ∷ drop (i + 1) plan) (sym item) in
    rw (at, append_assoc) (sym (ap (λ l. made ++ expand_from setup s l) rest))

-- the steps so far, with those from here on
pub steps_further : (setup : Setup) (s t : Stage) (piece : Plan) (plan : List Plan) (i : ℕ) (made more all : Option (List Step)) → i < length plan → piece ≡ slice_index_or plan i piece
    → kept_with made (expand_from setup s (drop i plan)) ≡ all → more ≡ kept_with made (steps_of setup s piece) → t ≡ stage_after setup s piece (steps_of setup s piece)
    → kept_with more (expand_from setup t (drop (i + 1) plan)) ≡ all
steps_further setup s t piece plan i None more all within item so_far noted_so at = rw noted_so so_far
steps_further setup s t piece plan i (Some made) more all within item so_far noted_so at = rw noted_so (ap Some (list_further setup s t piece plan i made within item at) ∙ so_far)

-- at the end of the plan none is left
pub steps_end : (setup : Setup) (s : Stage) (plan : List Plan) (i : ℕ) (made all : Option (List Step)) → length plan ≤ i → kept_with made (expand_from setup s (drop i plan)) ≡ all → made ≡ all
unfolding expand_from
steps_end setup s plan i None all past so_far = so_far
steps_end setup s plan i (Some made) all past so_far =
    sym (ap Some (ap (λ l. made ++ expand_from setup s l) (drop_all i plan past) ∙ append-nil made)) ∙ so_far
