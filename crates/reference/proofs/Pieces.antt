-- Pieces behind the first so many.
use Rattle.std.proofs.Common.{◌≡◌, ℕ, ◌+◌, ◌-◌, ◌*◌, ◌<◌, ◌≤◌, ◌⊎◌, inl, inr, zero, suc, min, List, [], ◌∷◌, length, take, drop, refl, sym, ap, ◌∙◌, length-take, arith}
use Rattle.std.proofs.lemmas.Bool.{cases_lt}
use Rattle.std.proofs.lemmas.List.{drop-drop, drop-take}
use Rattle.std.proofs.Math.Nat.{suc-mul}
use Rattle.usb_model.specs.Endpoint.Packets.{cut}

-- behind the first of them the rest is cut
drop_cut : (size from k : ℕ) (bytes : List ℕ) → from ≤ k → drop from (cut size k bytes) ≡ cut size (k - from) (drop (from * size) bytes)
drop_cut size zero k bytes few =
    let all : k - 0 ≡ k = omega arith in
    let none : 0 * size ≡ 0 = omega arith in
    rw (all, none) refl
drop_cut size (suc from) zero bytes few = absurd (omega (arith, few))
drop_cut size (suc from) (suc k) bytes few =
    let fewer : suc k - suc from ≡ k - from = omega arith in
    let product : size + from * size ≡ suc from * size = omega (arith, suc-mul from size) in
    drop_cut size from k (drop size bytes) (omega (arith, few))
    ∙ ap (λ l. cut size (k - from) l) (drop-drop (from * size) size bytes ∙ ap (λ n. drop n bytes) product)
    ∙ ap (λ n. cut size n (drop (suc from * size) bytes)) (sym fewer)

-- behind all of them there is none
none_behind : {A : Type 0} (from : ℕ) (l : List A) → length l ≤ from → drop from l ≡ []
none_behind zero [] few = refl
none_behind (suc from) [] few = refl
none_behind zero (x ∷ l) few = absurd (omega (arith, few))
none_behind (suc from) (x ∷ l) few = none_behind from l (omega (arith, few))

-- those of the rest are those between
pub between : (size from to k : ℕ) (bytes : List ℕ) (v : List (List ℕ)) → to ≤ suc k
    → ((j : ℕ) → to - from ≤ suc j → v ≡ take (to - from) (cut size j (drop (from * size) bytes))) → v ≡ drop from (take to (cut size k bytes))
between size from to k bytes v few same = by_order (cases_lt from to)
  where
    by_order : (from < to) ⊎ (to ≤ from) → v ≡ drop from (take to (cut size k bytes))
    by_order (inl less) =
        let whole : from + (to - from) ≡ to = omega (arith, less) in
        same (k - from) (omega (arith, few, less))
        ∙ ap (take (to - from)) (sym (drop_cut size from k bytes (omega (arith, few, less))))
        ∙ sym (drop-take from (to - from) (cut size k bytes))
        ∙ ap (λ n. drop from (take n (cut size k bytes))) whole
    by_order (inr over) =
        let none : to - from ≡ 0 = omega (arith, over) in
        same k (omega (arith, none))
        ∙ ap (λ n. take n (cut size k (drop (from * size) bytes))) none
        ∙ sym (none_behind from (take to (cut size k bytes)) (omega (arith, length-take to (cut size k bytes), over)))
