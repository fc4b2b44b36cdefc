-- The entries of the first so many steps of a run.
use Rattle.std.proofs.Common.{◌≡◌, ◌∙◌, ℕ, ◌+◌, ◌-◌, ◌<◌, zero, suc, List, [], ◌∷◌, ◌++◌, length, take, drop, slice_index_or, refl, sym, ap, arith, length-append, length-drop}
use Rattle.std.proofs.lemmas.List.{drop_more}
use Rattle.std.proofs.Math.Seq.{take-append_seam}
use Rattle.usb_model.specs.declared.entry.Entry.{Entry}
use Rattle.usb_model.specs.declared.step.Step.{Step}
use Rattle.usb_model.specs.declared.plan.Plan.{Plan}
use Rattle.usb_model.specs.Setup.{Setup}
use Rattle.usb_model.specs.World.Plans.{Stage, expand_from, stage_after, steps_of}
use Rattle.usb_model.specs.World.{World, new_world, turn}
use Rattle.usb_model.specs.World.Journal.{journal, journal_from, run_from, world_run, IsBeginning}

-- each step has one entry: the first so many steps have the first so many entries
entries_of_first : (setup : Setup) (w : World) (n : ℕ) (steps : List Step) → run_from setup w (take n steps) ≡ take n (run_from setup w steps)
unfolding journal_from
entries_of_first setup w zero steps = refl
entries_of_first setup w (suc n) [] = refl
entries_of_first setup w (suc n) (step ∷ steps) = ap (λ l. (turn setup w step).entry ∷ l) (entries_of_first setup (turn setup w step).world n steps)

-- a beginning of a run's entries has those of the first so many steps, as many as it is long
pub first_steps : (setup : Setup) (es : List Entry) (steps : List Step) → IsBeginning es (world_run setup steps) → es ≡ world_run setup (take (length es) steps)
unfolding journal
first_steps setup es steps begins =
    sym (entries_of_first setup (new_world setup) (length es) steps ∙ ap (take (length es)) begins.1 ∙ take-append_seam es begins.0)

-- a run has an entry for each step
entry_each : (setup : Setup) (w : World) (steps : List Step) → length (run_from setup w steps) ≡ length steps
unfolding journal_from
entry_each setup w [] = refl
entry_each setup w (step ∷ steps) = ap suc (entry_each setup (turn setup w step).world steps)

-- a run of all steps has an entry for each
entry_each_step : (setup : Setup) (steps : List Step) → length (world_run setup steps) ≡ length steps
unfolding journal
entry_each_step setup steps = entry_each setup (new_world setup) steps

-- before the last step, entries are fewer than the steps
pub step_left : (setup : Setup) (w : World) (steps : List Step) (i : ℕ) (es : List Entry) → i < length steps
    → es ++ run_from setup w (drop i steps) ≡ world_run setup steps → length es < length steps
step_left setup w steps i es within so_far =
    let total : length (es ++ run_from setup w (drop i steps)) ≡ length steps = ap length so_far ∙ entry_each_step setup steps in
    let parts : length (es ++ run_from setup w (drop i steps)) ≡ length es + length (run_from setup w (drop i steps)) = length-append es (run_from setup w (drop i steps)) in
    let rest : length (run_from setup w (drop i steps)) ≡ length (drop i steps) = entry_each setup w (drop i steps) in
    let behind : length (drop i steps) ≡ length steps - i = length-drop i steps in
    omega (arith, total, parts, rest, behind)

-- within a piece of a plan entries are fewer than the plan's steps
pub piece_left : (setup : Setup) (s : Stage) (piece : Plan) (plan : List Plan) (i : ℕ) (es fs : List Entry) (steps : List Step) → i < length plan → piece ≡ slice_index_or plan i piece
    → es ++ run_from setup s.world (expand_from setup s (drop i plan)) ≡ world_run setup steps
    → length fs < length es + length (steps_of setup s piece) → length fs < length steps
unfolding expand_from
piece_left setup s piece plan i es fs steps within item so_far fewer =
    let rest : drop i plan ≡ piece ∷ drop (i + 1) plan = drop_more plan i piece within ∙ ap (λ y. y ∷ drop (i + 1) plan) (sym item) in
    let more : List Step = expand_from setup (stage_after setup s piece (steps_of setup s piece)) (drop (i + 1) plan) in
    let left : List Step = expand_from setup s (drop i plan) in
    let split : left ≡ steps_of setup s piece ++ more = ap (λ l. expand_from setup s l) rest in
    let total : length (es ++ run_from setup s.world left) ≡ length steps = ap length so_far ∙ entry_each_step setup steps in
    let parts : length (es ++ run_from setup s.world left) ≡ length es + length (run_from setup s.world left) = length-append es (run_from setup s.world left) in
    let each : length (run_from setup s.world left) ≡ length left = entry_each setup s.world left in
    let cut : length left ≡ length (steps_of setup s piece) + length more = ap length split ∙ length-append (steps_of setup s piece) more in
    omega (arith, total, parts, each, cut, fewer)
