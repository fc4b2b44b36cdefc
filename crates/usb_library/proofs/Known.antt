-- What the positions that came back say of their callers.
use Rattle.std.proofs.Common.{◌≡◌, ◌==◌, ℕ, zero, suc, ◌<◌, List, [], ◌∷◌, length, get_or, map, count_by, refl, sym, ◌∙◌, arith}
use Rattle.std.proofs.lemmas.Grind.{common_steps}
use Rattle.usb_receipts.specs.Rule.{Stood, claimed}
use Rattle.usb_recorder.specs.declared.place.Place.{Place}
use Rattle.usb_journal.specs.Seen.{caller_of, places_of}
use Rattle.usb_library.specs.Calls.{Calling, Knows, position_of}

pub all_know : (journal : List Place) (next : ℕ) (cs : List Calling) → Stood caller_of journal next (map position_of cs)
    → ((k : ℕ) (d : Calling) → k < length cs → (get_or cs k d).own ≡ places_of (get_or cs k d).number (get_or cs k d).seen)
    → (k : ℕ) (d : Calling) → k < length cs → Knows journal (get_or cs k d)
all_know journal next [] s own k d lt = absurd (omega arith)
all_know journal next (c ∷ cs) s own zero d lt = record { own = own 0 d lt ∙ sym s.0.own; began = s.0.begins }
all_know journal next (c ∷ cs) s own (suc k) d lt = all_know journal next cs s.1 (λ i e l. own (suc i) e (omega arith)) k d (omega arith)

pub number_count : (n : ℕ) (cs : List Calling) → claimed n (map position_of cs) ≡ count_by (λ c. c.number == n) cs
number_count n [] = refl
number_count n (c ∷ cs) = grind (arith, common_steps, number_count n cs)
