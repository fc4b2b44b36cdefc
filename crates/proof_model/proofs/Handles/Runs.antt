-- Runs: where one ends each handle's part of the world is its machine after its own steps; the entries as far as it came, and from there on; one run behind another.
use Rattle.std.proofs.Common.{◌≡◌, ℕ, inl, inr, List, [], ◌∷◌, refl, ap, sym, ◌∙◌, ◌+◌, ◌<◌, ◌≤◌, ◌++◌, length, drop, slice_index_or, append-nil, append_assoc}
use Rattle.usb_model.specs.declared.step.Step.{Step}
use Rattle.usb_model.specs.Setup.{Setup}
use Rattle.usb_model.specs.Machine.{new_machine}
use Rattle.usb_model.specs.Machine.Turns.{machine_from}
use Rattle.usb_model.specs.World.{World, new_world, machine_of, turn, world_from}
use Rattle.usb_model.specs.World.Journal.{journal_from, journal, own, run_from}
use Rattle.proof_model.proofs.Handles.Isolation.{IsEither, turn_to, own_from, own_more, own_less, new_machine_of}
use Rattle.std.proofs.lemmas.List.{drop_more, drop_all}
use Rattle.usb_model.specs.declared.entry.Entry.{Entry}

-- from any world on
pub states_alone_from : (setup : Setup) (h : ℕ) (w : World) (steps : List Step)
    → machine_of setup h (world_from setup w steps) ≡ machine_from setup h (machine_of setup h w) (own_from setup h w steps)
unfolding world_from machine_from journal_from
states_alone_from setup h w [] = refl
states_alone_from setup h w (step ∷ steps) = by_turn (turn_to setup h w step) (states_alone_from setup h (turn setup w step).world steps)
  where
    later : World
    later = (turn setup w step).world

    by_turn : IsEither setup h w step (turn setup w step)
        → machine_of setup h (world_from setup later steps) ≡ machine_from setup h (machine_of setup h later) (own_from setup h later steps)
        → machine_of setup h (world_from setup later steps) ≡ machine_from setup h (machine_of setup h w) (own_from setup h w (step ∷ steps))
    by_turn (inl o) rest =
        rest ∙ (ap (λ m. machine_from setup h m (own_from setup h later steps)) o.3
        ∙ sym (ap (machine_from setup h (machine_of setup h w)) (own_more setup h w step steps o.2)))
    by_turn (inr n) rest =
        rest ∙ (ap (λ m. machine_from setup h m (own_from setup h later steps)) n.1
        ∙ sym (ap (machine_from setup h (machine_of setup h w)) (own_less setup h w step steps n.0)))

-- from the world with no name open
pub states_alone : (setup : Setup) (steps : List Step) (h : ℕ)
    → machine_of setup h (world_from setup (new_world setup) steps) ≡ machine_from setup h new_machine (own setup steps h)
unfolding journal
states_alone setup steps h =
    states_alone_from setup h (new_world setup) steps
    ∙ ap (λ m. machine_from setup h m (own_from setup h (new_world setup) steps)) (new_machine_of setup h)

-- one step further
pub one_step : (setup : Setup) (w : World) (step : Step) (steps : List Step) → run_from setup w (step ∷ steps) ≡ (turn setup w step).entry ∷ run_from setup (turn setup w step).world steps
unfolding journal_from
one_step setup w step steps = refl

-- the same, with the entries so far
pub step_further : (setup : Setup) (w v : World) (steps : List Step) (i : ℕ) (x : Step) (es fs all : List Entry) → i < length steps → x ≡ slice_index_or steps i x
    → es ++ run_from setup w (drop i steps) ≡ all → fs ≡ es ++ (turn setup w x).entry ∷ [] → v ≡ (turn setup w x).world
    → fs ++ run_from setup v (drop (i + 1) steps) ≡ all
step_further setup w v steps i x es fs all within item so_far entry world =
    let rest : drop i steps ≡ x ∷ drop (i + 1) steps = drop_more steps i x within ∙ ap (λ y. y ∷ drop (i + 1) steps) (sym item) in
    let split : run_from setup w (drop i steps) ≡ (turn setup w x).entry ∷ run_from setup (turn setup w x).world (drop (i + 1) steps) = ap (run_from setup w) rest ∙ one_step setup w x (drop (i + 1) steps) in
    rw (entry, world, append_assoc) (sym (ap (λ l. es ++ l) split) ∙ so_far)

-- at the end there is nothing left
pub run_ends : (setup : Setup) (w : World) (steps : List Step) (i : ℕ) (es all : List Entry) → length steps ≤ i → es ++ run_from setup w (drop i steps) ≡ all → es ≡ all
unfolding journal_from
run_ends setup w steps i es all past so_far =
    let none : drop i steps ≡ [] = drop_all i steps past in
    sym (append-nil es) ∙ (sym (ap (λ l. es ++ run_from setup w l) none) ∙ so_far)

-- the entries of two lists of steps, one behind the other
pub run_append : (setup : Setup) (w : World) (xs ys : List Step) → run_from setup w (xs ++ ys) ≡ run_from setup w xs ++ run_from setup (world_from setup w xs) ys
unfolding journal_from world_from
run_append setup w [] ys = refl
run_append setup w (x ∷ xs) ys = ap (λ l. (turn setup w x).entry ∷ l) (run_append setup (turn setup w x).world xs ys)

-- and where they lead
pub world_append : (setup : Setup) (w : World) (xs ys : List Step) → world_from setup w (xs ++ ys) ≡ world_from setup (world_from setup w xs) ys
unfolding world_from
world_append setup w [] ys = refl
world_append setup w (x ∷ xs) ys = world_append setup (turn setup w x).world xs ys
