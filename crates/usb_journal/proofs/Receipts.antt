-- What the claims of receipts say of the receipts.
use Rattle.std.proofs.Common.{◌≡◌, ◌==◌, ℕ, zero, suc, ◌<◌, List, [], ◌∷◌, length, get_or, Some, refl, arith, count_by, ◌+◌, ◌≤◌, ◌++◌, drop, ap, ◌∙◌, length-drop, subst}
use Rattle.std.proofs.lemmas.Grind.{common_steps}
use Rattle.std.specs.Prelude.{slice_get}
use Rattle.usb_recorder.specs.declared.place.Place.{Place}
use Rattle.usb_receipts.specs.Rule.{Stand, claimed}
use Rattle.usb_journal.specs.Seen.{Receipted, claims_of, receipts_from}

pub all_stand : (log : List Place) (rs : List Receipted) → Stand log (claims_of rs) → (k : ℕ) (d : Receipted) → k < length rs → slice_get log (get_or rs k d).place ≡ Some (get_or rs k d).entry
all_stand log [] s k d lt = absurd (omega arith)
all_stand log (r ∷ rs) s zero d lt = s.0
all_stand log (r ∷ rs) s (suc k) d lt = all_stand log rs s.1 k d (omega arith)

pub claimed_count : (p : ℕ) (rs : List Receipted) → claimed p (claims_of rs) ≡ count_by (λ r. r.place == p) rs
claimed_count p [] = refl
claimed_count p (r ∷ rs) = grind (arith, common_steps, claimed_count p rs)

-- one more place

pub drop_push : (n : ℕ) (xs : List Place) (x : Place) → n ≤ length xs → drop n (xs ++ x ∷ []) ≡ drop n xs ++ x ∷ []
drop_push zero xs x le = refl
drop_push (suc n) [] x le = absurd (omega arith)
drop_push (suc n) (y ∷ ys) x le = drop_push n ys x (omega arith)

receipts_push : (n : ℕ) (xs : List Place) (x : Place) (k : ℕ) → k ≡ n + length xs → receipts_from n (xs ++ x ∷ []) ≡ receipts_from n xs ++ record { place = k; entry = x } ∷ []
receipts_push n [] x k e = let same : n ≡ k = omega arith in ap (λ (m : ℕ). record { place = m; entry = x } ∷ []) same
receipts_push n (y ∷ ys) x k e = ap (λ l. record { place = n; entry = y } ∷ l) (receipts_push (suc n) ys x k (omega arith))

pub receipts_one : (n : ℕ) (xs : List Place) (x : Place) → n ≤ length xs → receipts_from n (drop n (xs ++ x ∷ [])) ≡ receipts_from n (drop n xs) ++ record { place = length xs; entry = x } ∷ []
receipts_one n xs x le =
    let rest = length-drop n xs in
    ap (receipts_from n) (drop_push n xs x le) ∙ receipts_push n (drop n xs) x (length xs) (omega arith)
