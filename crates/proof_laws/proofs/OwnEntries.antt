-- Runs of which every step is a handle's own, or none is.
use Rattle.std.proofs.Common.{◌≡◌, ℕ, List, [], ◌∷◌, ◌++◌, map, refl, ap, ap₂, ◌∙◌}
use Rattle.std.specs.List.{filter}
use Rattle.std.proofs.lemmas.List.{map-append}
use Rattle.std.proofs.lemmas.List.Elements.{filter-append}
use Rattle.usb_model.specs.declared.step.Step.{Step}
use Rattle.usb_model.specs.Setup.{Setup}
use Rattle.usb_model.specs.World.{World, machine_of, turn, world_from}
use Rattle.usb_model.specs.World.Journal.{Place, journal_from, is_own, own_places, run_from}
use Rattle.proof_model.proofs.Handles.Isolation.{IsOwnTurn, IsNothing, entries_from, entries_less, entries_more, own_from, own_more, own_less}
use Rattle.proof_model.proofs.Handles.Alone.{OnlyOf, turn_again}

-- the journal of two runs, one behind the other
journal-append : (setup : Setup) (w : World) (xs ys : List Step) → journal_from setup w (xs ++ ys) ≡ journal_from setup w xs ++ journal_from setup (world_from setup w xs) ys
unfolding journal_from world_from
journal-append setup w [] ys = refl
journal-append setup w (x ∷ xs) ys = ap (λ l. record { step = x; entry = (turn setup w x).entry } ∷ l) (journal-append setup (turn setup w x).world xs ys)

-- what is read of a handle's own places of them
append_of_own : {A : Type 0} (f : Place → A) (setup : Setup) (h : ℕ) (w : World) (xs ys : List Step)
    → map f (own_places h (journal_from setup w (xs ++ ys))) ≡ map f (own_places h (journal_from setup w xs)) ++ map f (own_places h (journal_from setup (world_from setup w xs) ys))
append_of_own f setup h w xs ys =
    let front : List Place = journal_from setup w xs in
    let back : List Place = journal_from setup (world_from setup w xs) ys in
    ap (λ l. map f (own_places h l)) (journal-append setup w xs ys)
    ∙ (ap (map f) (filter-append (is_own h) front back)
    ∙ map-append f (filter (is_own h) front) (filter (is_own h) back))

-- its own steps
pub own-append : (setup : Setup) (h : ℕ) (w : World) (xs ys : List Step) → own_from setup h w (xs ++ ys) ≡ own_from setup h w xs ++ own_from setup h (world_from setup w xs) ys
own-append setup h w xs ys = append_of_own (λ x. x.step) setup h w xs ys

-- and its entries
pub entries-append : (setup : Setup) (h : ℕ) (w : World) (xs ys : List Step) → entries_from setup h w (xs ++ ys) ≡ entries_from setup h w xs ++ entries_from setup h (world_from setup w xs) ys
entries-append setup h w xs ys = append_of_own (λ x. x.entry) setup h w xs ys

-- every step is the handle's own
abbrev pub AllOwn : Setup → ℕ → World → List Step → Type 0
AllOwn setup h w [] = Unit {0}
AllOwn setup h w (step ∷ steps) = IsOwnTurn setup h w step (turn setup w step) × AllOwn setup h (turn setup w step).world steps

-- none is
abbrev pub NoneOwn : Setup → ℕ → World → List Step → Type 0
NoneOwn setup h w [] = Unit {0}
NoneOwn setup h w (step ∷ steps) = IsNothing setup h w step (turn setup w step) × NoneOwn setup h (turn setup w step).world steps

-- then all are its own steps
pub own_all : (setup : Setup) (h : ℕ) (w : World) (steps : List Step) → AllOwn setup h w steps → own_from setup h w steps ≡ steps
unfolding journal_from
own_all setup h w [] all = refl
own_all setup h w (step ∷ steps) all = own_more setup h w step steps all.0.2 ∙ ap (λ l. step ∷ l) (own_all setup h (turn setup w step).world steps all.1)

-- then none is
pub own_none : (setup : Setup) (h : ℕ) (w : World) (steps : List Step) → NoneOwn setup h w steps → own_from setup h w steps ≡ []
unfolding journal_from
own_none setup h w [] none = refl
own_none setup h w (step ∷ steps) none = own_less setup h w step steps none.0.0 ∙ own_none setup h (turn setup w step).world steps none.1

-- all entries are its own
pub entries_all : (setup : Setup) (h : ℕ) (w : World) (steps : List Step) → AllOwn setup h w steps → entries_from setup h w steps ≡ run_from setup w steps
unfolding journal_from
entries_all setup h w [] all = refl
entries_all setup h w (step ∷ steps) all = entries_more setup h w step steps all.0.2 ∙ ap (λ l. (turn setup w step).entry ∷ l) (entries_all setup h (turn setup w step).world steps all.1)

-- none is
pub entries_none : (setup : Setup) (h : ℕ) (w : World) (steps : List Step) → NoneOwn setup h w steps → entries_from setup h w steps ≡ []
unfolding journal_from
entries_none setup h w [] none = refl
entries_none setup h w (step ∷ steps) none = entries_less setup h w step steps none.0.0 ∙ entries_none setup h (turn setup w step).world steps none.1

-- own steps are told the same where the handle is alone
pub told_again : (setup : Setup) (h : ℕ) (w v : World) (steps : List Step) → AllOwn setup h w steps → machine_of setup h w ≡ machine_of setup h v → OnlyOf h v → run_from setup v steps ≡ run_from setup w steps
unfolding journal_from
told_again setup h w v [] all same only = refl
told_again setup h w v (step ∷ steps) all same only =
    let t = turn_again setup h w v step same only all.0 in
    ap₂ (λ x xs. x ∷ xs) t.0 (told_again setup h (turn setup w step).world (turn setup v step).world steps all.1 t.1 t.2)

-- own steps lead to the same where the handle is alone
pub run_again : (setup : Setup) (h : ℕ) (w v : World) (steps : List Step) → AllOwn setup h w steps → machine_of setup h w ≡ machine_of setup h v → OnlyOf h v
    → (machine_of setup h (world_from setup w steps) ≡ machine_of setup h (world_from setup v steps)) × OnlyOf h (world_from setup v steps)
unfolding world_from
run_again setup h w v [] all same only = (same, only)
run_again setup h w v (step ∷ steps) all same only =
    let t = turn_again setup h w v step same only all.0 in
    run_again setup h (turn setup w step).world (turn setup v step).world steps all.1 t.1 t.2

-- others lead nowhere
pub run_stays : (setup : Setup) (h : ℕ) (w : World) (steps : List Step) → NoneOwn setup h w steps → machine_of setup h (world_from setup w steps) ≡ machine_of setup h w
unfolding world_from
run_stays setup h w [] none = refl
run_stays setup h w (step ∷ steps) none = run_stays setup h (turn setup w step).world steps none.1 ∙ none.0.1
