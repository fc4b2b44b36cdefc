-- A handle's part of a run, taken step by step.
use Rattle.std.proofs.Common.{◌≡◌, ℕ, Bool, true, false, List, [], ◌∷◌, ◌++◌, length, map, cond, refl, ap, ap₂, sym, ◌∙◌, append_assoc, append-nil, arith}
use Rattle.usb_model.specs.declared.entry.Entry.{Entry}
use Rattle.usb_model.specs.declared.step.Step.{Step}
use Rattle.usb_model.specs.Setup.{Setup}
use Rattle.usb_model.specs.World.{World, new_world, turn}
use Rattle.usb_model.specs.Machine.Turns.{alone}
use Rattle.usb_model.specs.World.Journal.{Place, journal_from, journal, entries_in, steps_in, world_run, is_own, own_places, own, entries}
use Rattle.reference.specs.Part.{places_of, own_steps, own_entries}
use Rattle.proof_model.proofs.Handles.Isolation.{sees_alone}
use Rattle.proof_model.proofs.Handles.Alone.{runs_alone}

-- a run's steps with its entries are its places, from a world on
places_from_world : (setup : Setup) (w : World) (steps : List Step) → places_of steps (entries_in (journal_from setup w steps)) ≡ journal_from setup w steps
unfolding places_of journal_from
places_from_world setup w [] = refl
places_from_world setup w (step ∷ steps) = ap (λ xs. record { step = step; entry = (turn setup w step).entry } ∷ xs) (places_from_world setup (turn setup w step).world steps)

-- over a whole run
pub places_of_run : (setup : Setup) (steps : List Step) → places_of steps (world_run setup steps) ≡ journal setup steps
unfolding journal
places_of_run setup steps = places_from_world setup (new_world setup) steps

-- the own entries of a run are the handle's entries
pub entries_are : (setup : Setup) (steps : List Step) (h : ℕ) → own_entries h steps (world_run setup steps) ≡ entries setup steps h
entries_are setup steps h = ap (λ xs. entries_in (own_places h xs)) (places_of_run setup steps)

-- a system of its own over its own steps gives what it says alone
pub runs_as_alone : (setup : Setup) (steps : List Step) (h : ℕ) → world_run setup (own setup steps h) ≡ alone setup (own setup steps h) h
runs_as_alone setup steps h = runs_alone setup steps h ∙ sees_alone setup steps h

-- and so does a run of the steps that were kept
pub run_is_alone : (setup : Setup) (steps : List Step) (h : ℕ) → world_run setup (own_steps h steps (world_run setup steps)) ≡ alone setup (own setup steps h) h
run_is_alone setup steps h =
    ap (λ xs. world_run setup (steps_in (own_places h xs))) (places_of_run setup steps)
    ∙ runs_as_alone setup steps h

-- what is read of the own places of these steps and entries
abbrev pub of_own : {A : Type 0} → (Place → A) → ℕ → List Step → List Entry → List A
of_own f h steps es = map f (own_places h (places_of steps es))

-- the first place's comes first
first_place : {A : Type 0} (f : Place → A) (h : ℕ) (step : Step) (steps : List Step) (entry : Entry) (es : List Entry)
    → of_own f h (step ∷ steps) (entry ∷ es) ≡ of_own f h (step ∷ []) (entry ∷ []) ++ of_own f h steps es
unfolding places_of
first_place {A = A} f h step steps entry es = by_test (is_own h place)
  where
    place : Place
    place = record { step = step; entry = entry }

    by_test : (b : Bool) → map f (cond b (place ∷ own_places h (places_of steps es)) (own_places h (places_of steps es))) ≡ map f (cond b (place ∷ []) []) ++ of_own f h steps es
    by_test true = refl
    by_test false = refl

-- a place that is the handle's own is kept
pub place_kept : {A : Type 0} (f : Place → A) (h : ℕ) (step : Step) (entry : Entry) (xs ys : List A) → is_own h (record { step = step; entry = entry }) ≡ true
    → ys ≡ xs ++ f (record { step = step; entry = entry }) ∷ [] → ys ≡ xs ++ of_own f h (step ∷ []) (entry ∷ [])
unfolding places_of
place_kept f h step entry xs ys own more = rw own more

-- another is left out
pub place_left : {A : Type 0} (f : Place → A) (h : ℕ) (step : Step) (entry : Entry) (xs : List A) → is_own h (record { step = step; entry = entry }) ≡ false
    → xs ≡ xs ++ of_own f h (step ∷ []) (entry ∷ [])
unfolding places_of
place_left f h step entry xs other = rw other (sym (append-nil xs))

-- where these steps and entries are left: what was read so far, with what is read of them, is all
abbrev pub IsSoFar : {A : Type 0} → (Place → A) → ℕ → List Step → List Entry → List A → List A → Type 0
IsSoFar f h steps entries xs all = xs ++ of_own f h steps entries ≡ all

-- one place further
pub place_more : {A : Type 0} (f : Place → A) (h : ℕ) (step : Step) (left rest : List Step) (entry : Entry) (es fs : List Entry) (xs ys all : List A)
    → left ≡ step ∷ rest → es ≡ entry ∷ fs → ys ≡ xs ++ of_own f h (step ∷ []) (entry ∷ []) → IsSoFar f h left es xs all → IsSoFar f h rest fs ys all
place_more f h step left rest entry es fs xs ys all steps entries more before =
    ap (λ l. l ++ of_own f h rest fs) more
    ∙ append_assoc xs (of_own f h (step ∷ []) (entry ∷ [])) (of_own f h rest fs)
    ∙ ap (λ l. xs ++ l) (sym (first_place f h step rest entry fs))
    ∙ ap₂ (λ l k. xs ++ of_own f h l k) (sym steps) (sym entries)
    ∙ before

-- no step is left for an entry
pub none_more : {A : Type 0} (f : Place → A) (h : ℕ) (left : List Step) (es fs : List Entry) (xs all : List A) → left ≡ [] → IsSoFar f h left es xs all → IsSoFar f h left fs xs all
unfolding places_of
none_more f h left es fs xs all none before = ap (λ l. xs ++ of_own f h l fs) none ∙ ap (λ l. xs ++ of_own f h l es) (sym none) ∙ before

-- with no entry there is no place
no_places : (steps : List Step) → places_of steps [] ≡ []
unfolding places_of
no_places [] = refl
no_places (step ∷ steps) = refl

-- no entry is left
pub all_read : {A : Type 0} (f : Place → A) (h : ℕ) (left : List Step) (es : List Entry) (xs all : List A) → es ≡ [] → IsSoFar f h left es xs all → xs ≡ all
all_read f h left es xs all none before =
    sym (append-nil xs)
    ∙ ap (λ l. xs ++ map f (own_places h l)) (sym (ap (places_of left) none ∙ no_places left))
    ∙ before

-- a list of length 0 is empty
pub none_left : {A : Type 0} (xs : List A) → length xs ≡ 0 → xs ≡ []
none_left [] e = refl
none_left (x ∷ xs) e = absurd (omega arith)
