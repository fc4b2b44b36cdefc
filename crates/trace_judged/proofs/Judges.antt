-- A run, piece by piece: the packets that differ, and where it ends.
use Rattle.std.proofs.Common.{◌≡◌, ℕ, ◌+◌, ◌<◌, ◌≤◌, List, [], ◌∷◌, ◌++◌, Option, length, drop, get_or, map, slice_index_or, refl, sym, ap, ◌∙◌, append-nil, append_assoc, Result, Ok, Err}
use Rattle.std.specs.Prelude.{IfOk}
use Rattle.std.specs.Option.{option_to_list}
use Rattle.std.proofs.lemmas.List.{drop-map, drop_more, drop_all}
use Rattle.usb_model.specs.declared.plan.Plan.{Plan}
use Rattle.usb_model.specs.declared.step.Step.{Step}
use Rattle.usb_model.specs.Setup.{Setup}
use Rattle.usb_model.specs.World.{World, turn, world_from}
use Rattle.usb_model.specs.World.Plans.{Stage, expand_from, stage_after, steps_of}
use Rattle.trace_scenario.specs.declared.expectations.ExpectedPackets.{ExpectedPackets}
use Rattle.trace_judged.specs.declared.difference.Difference.{Difference}
use Rattle.trace_judged.specs.Differences.{differences_from, piece_difference}

-- the packet of a piece that differs, if it does, stands behind the others, and the rest comes from the stage behind it
pub judged-further : (expected : List ExpectedPackets) (setup : Setup) (s t : Stage) (piece : Plan) (plan : List Plan) (i : ℕ) (line : ℕ × List ℕ) (lines : List (ℕ × List ℕ)) (before after all : List Difference)
    → i < length plan → piece ≡ slice_index_or plan i piece
    → before ++ differences_from expected setup s (drop i plan) (line ∷ lines) ≡ all
    → after ≡ before ++ option_to_list (piece_difference expected setup s.world line.0 piece)
    → t ≡ stage_after setup s piece (steps_of setup s piece)
    → after ++ differences_from expected setup t (drop (i + 1) plan) lines ≡ all
unfolding differences_from
judged-further expected setup s t piece plan i line lines before after all within item so_far put behind =
    let rest : drop i plan ≡ piece ∷ drop (i + 1) plan = drop_more plan i piece within ∙ ap (λ y. y ∷ drop (i + 1) plan) (sym item) in
    let found : List Difference = option_to_list (piece_difference expected setup s.world line.0 piece) in
    let more : List Difference = differences_from expected setup (stage_after setup s piece (steps_of setup s piece)) (drop (i + 1) plan) lines in
    rw (put, behind) (append_assoc before found more ∙ sym (ap (λ l. before ++ differences_from expected setup s l (line ∷ lines)) rest) ∙ so_far)

-- at the end of the plan none is left
pub judged-end : (expected : List ExpectedPackets) (setup : Setup) (s : Stage) (plan : List Plan) (i : ℕ) (lines : List (ℕ × List ℕ)) (found all : List Difference) → length plan ≤ i
    → found ++ differences_from expected setup s (drop i plan) lines ≡ all → found ≡ all
unfolding differences_from
judged-end expected setup s plan i lines found all past so_far =
    sym (append-nil found) ∙ (sym (ap (λ l. found ++ differences_from expected setup s l lines) (drop_all i plan past)) ∙ so_far)

-- where some steps and others behind them end
world_behind : (setup : Setup) (w : World) (xs ys : List Step) → world_from setup w (xs ++ ys) ≡ world_from setup (world_from setup w xs) ys
unfolding world_from
world_behind setup w [] ys = refl
world_behind setup w (x ∷ xs) ys = world_behind setup (turn setup w x).world xs ys

-- the world behind a piece
world_after : (setup : Setup) (s : Stage) (piece : Plan) (steps : List Step) → (stage_after setup s piece steps).world ≡ world_from setup s.world steps
unfolding stage_after world_from
world_after setup s piece [] = refl
world_after setup s piece (step ∷ steps) = refl

-- where a run ends, from the stage behind a piece
pub ends-further : (setup : Setup) (s t : Stage) (piece : Plan) (plan : List Plan) (i : ℕ) (end : World)
    → i < length plan → piece ≡ slice_index_or plan i piece
    → world_from setup s.world (expand_from setup s (drop i plan)) ≡ end
    → t ≡ stage_after setup s piece (steps_of setup s piece)
    → world_from setup t.world (expand_from setup t (drop (i + 1) plan)) ≡ end
unfolding expand_from
ends-further setup s t piece plan i end within item so_far behind =
    let rest : drop i plan ≡ piece ∷ drop (i + 1) plan = drop_more plan i piece within ∙ ap (λ y. y ∷ drop (i + 1) plan) (sym item) in
    let more : List Step = expand_from setup (stage_after setup s piece (steps_of setup s piece)) (drop (i + 1) plan) in
    rw behind (ap (λ w. world_from setup w more) (world_after setup s piece (steps_of setup s piece))
    ∙ (sym (world_behind setup s.world (steps_of setup s piece) more) ∙ (sym (ap (λ l. world_from setup s.world (expand_from setup s l)) rest) ∙ so_far)))

-- at the end of the plan it is there
pub ends-end : (setup : Setup) (s : Stage) (plan : List Plan) (i : ℕ) (end : World) → length plan ≤ i
    → world_from setup s.world (expand_from setup s (drop i plan)) ≡ end → s.world ≡ end
unfolding expand_from world_from
ends-end setup s plan i end past so_far = sym (ap (λ l. world_from setup s.world (expand_from setup s l)) (drop_all i plan past)) ∙ so_far

-- the line of a piece, and those behind it
pub line_at : {A B : Type 0} (f : A → B) (xs : List A) (i : ℕ) (d : A) → i < length xs → drop i (map f xs) ≡ f (get_or xs i d) ∷ drop (i + 1) (map f xs)
line_at f xs i d within = drop-map f i xs ∙ ap (map f) (drop_more xs i d within) ∙ ap (λ l. f (get_or xs i d) ∷ l) (sym (drop-map f (i + 1) xs))

-- what holds in any case holds where it went well
pub always : {T E P : Type 0} (r : Result T E) → P → IfOk r (λ _. P)
always (Ok x) p = p
always (Err e) p = tt
