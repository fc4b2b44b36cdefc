-- Over every run: each handle's machine is well, and each of its numbers is in one place.
use Rattle.std.proofs.Common.{List, [], ap, append-nil, append_assoc, arith, inl, inr, refl, subst, sym, ℕ, ◌++◌, ◌∙◌, ◌∷◌, ◌≡◌}
use Rattle.std.proofs.lemmas.List.{map-append}
use Rattle.usb_model.specs.declared.entry.Entry.{Entry}
use Rattle.usb_model.specs.declared.step.Step.{Step}
use Rattle.usb_model.specs.World.Journal.{entries, journal, journal_from, own}
use Rattle.usb_model.specs.Machine.{Machine, new_machine}
use Rattle.usb_model.specs.Laws.Places.{KeepsPlaces, call_of, calls, numbers_called}
use Rattle.usb_model.specs.Setup.{Setup}
use Rattle.usb_model.specs.Machine.Turns.{effect, machine_after}
use Rattle.usb_model.specs.World.{World, machine_of, new_world, turn, world_from}
use Rattle.usb_model.specs.Fitness.{IsWell}
use Rattle.proof_model.proofs.Machines.Done.{is_done}
use Rattle.proof_model.proofs.Places.Placed.{IsPlaced, called_by, placed_after}
use Rattle.proof_model.proofs.Machines.Well.{well_kept, well_new}
use Rattle.proof_model.proofs.Handles.Isolation.{IsEither, effect_to, entries_from, entries_less, entries_more, new_machine_of, turn_to}

-- what holds of a handle's machine after these calls
pub record IsKept (setup : Setup) (m : Machine) (called : List ℕ) : Type 0 where
  pub well : IsWell setup m
  pub placed : IsPlaced m called

-- a step keeps a machine well and its numbers placed
pub kept_step : (setup : Setup) (h : ℕ) (m : Machine) (step : Step) (called : List ℕ) → IsKept setup m called
    → IsKept setup (machine_after setup m step (effect setup h m step)) (called ++ called_by (effect setup h m step).reply)
kept_step setup h m step called k = record {
  well = well_kept setup h m step k.well;
  placed = placed_after setup h m step (effect setup h m step) called k.well (is_done setup h m step k.well) k.placed;
}

-- no number was given to a machine that was never opened
pub kept_new : (setup : Setup) → IsKept setup new_machine []
unfolding new_machine
kept_new setup = record {
  well = well_new setup;
  placed = record {
    given = λ n lt. absurd (omega arith);
    not_given = λ n le. record { uncalled = refl; no_result = refl; not_in_progress = λ ep. refl; in_no_callback = refl };
  };
}

-- what the first entry calls back comes first
numbers_called-cons : (x : Entry) (xs : List Entry) → numbers_called (x ∷ xs) ≡ called_by x.reply ++ numbers_called xs
unfolding calls
numbers_called-cons x xs = map-append (λ r. r.n) (call_of x.reply) (calls xs)

-- from a world on
pub kept_from : (setup : Setup) (h : ℕ) (w : World) (steps : List Step) (called : List ℕ) → IsKept setup (machine_of setup h w) called
    → IsKept setup (machine_of setup h (world_from setup w steps)) (called ++ numbers_called (entries_from setup h w steps))
unfolding world_from journal_from calls
kept_from setup h w [] called k = rw (append-nil called) k
kept_from setup h w (step ∷ steps) called k = by_turn (turn_to setup h w step) (kept_from setup h (turn setup w step).world steps)
  where
    later : World
    later = (turn setup w step).world

    Later : Type 0
    Later = (before : List ℕ) → IsKept setup (machine_of setup h later) before → IsKept setup (machine_of setup h (world_from setup later steps)) (before ++ numbers_called (entries_from setup h later steps))

    by_turn : IsEither setup h w step (turn setup w step) → Later → IsKept setup (machine_of setup h (world_from setup later steps)) (called ++ numbers_called (entries_from setup h w (step ∷ steps)))
    by_turn (inl own) rest =
        let now : List ℕ = called_by (effect_to setup h w step).reply in
        let more : numbers_called (entries_from setup h w (step ∷ steps)) ≡ now ++ numbers_called (entries_from setup h later steps) =
        ap numbers_called (entries_more setup h w step steps own.2) ∙ (numbers_called-cons (turn setup w step).entry (entries_from setup h later steps) ∙ ap (λ e. called_by e.reply ++ numbers_called (entries_from setup h later steps)) own.1) in
        subst (IsKept setup (machine_of setup h (world_from setup later steps))) (append_assoc called now (numbers_called (entries_from setup h later steps)) ∙ ap (λ l. called ++ l) (sym more))
        (rest (called ++ now) (subst (λ m. IsKept setup m (called ++ now)) (sym own.3) (kept_step setup h (machine_of setup h w) step called k)))
    by_turn (inr nothing) rest =
        subst (λ l. IsKept setup (machine_of setup h (world_from setup later steps)) (called ++ l)) (ap numbers_called (sym (entries_less setup h w step steps nothing.0)))
        (rest called (subst (λ m. IsKept setup m called) (sym nothing.1) k))

-- where a run ends
pub kept_at : (setup : Setup) (h : ℕ) (steps : List Step) → IsKept setup (machine_of setup h (world_from setup (new_world setup) steps)) (numbers_called (entries setup steps h))
unfolding journal
kept_at setup h steps = kept_from setup h (new_world setup) steps [] (subst (λ m. IsKept setup m []) (sym (new_machine_of setup h)) (kept_new setup))

-- each transfer of a handle is in one place
pub keeps_places : (setup : Setup) (steps : List Step) (h : ℕ) → KeepsPlaces setup steps h
keeps_places setup steps h = let k = (kept_at setup h steps).placed in record { given = k.given; not_given = k.not_given }
