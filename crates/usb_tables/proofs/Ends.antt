-- How many bytes of a transfer come up to the end of a TRB.
use Rattle.std.proofs.Common.{◌≡◌, ℕ, zero, suc, ◌+◌, ◌-◌, ◌*◌, ◌<◌, ◌≤◌, ◌⊎◌, inl, inr, Bool, true, false, List, [], ◌∷◌, ◌++◌, length, take, length-append, refl, ap, min, arith}
use Rattle.std.specs.Prelude.{replicate, if◌then◌else◌}
use Rattle.std.proofs.lemmas.Bool.{cases_lt}
use Rattle.std.proofs.Math.Nat.{min-eq_left, min-eq_right}
use Rattle.usb_model.specs.Stands.{total, length_at, full_trbs, lengths_of}

-- before a whole piece stand whole pieces
whole : (f i : ℕ) (ls : List ℕ) → i < f → (total (take i (replicate f 65536 ++ ls)) ≡ i * 65536) × (length_at (replicate f 65536 ++ ls) i ≡ 65536)
whole zero i ls lt = absurd (omega arith)
whole (suc f) zero ls lt = (refl, refl)
whole (suc f) (suc i) ls lt = let rec = whole f i ls (omega arith) in (omega (arith, rec.0), rec.1)

-- before a TRB behind the whole pieces stand all of these, and those between
behind : (f i : ℕ) (ls : List ℕ) → f ≤ i
    → (total (take i (replicate f 65536 ++ ls)) ≡ f * 65536 + total (take (i - f) ls)) × (length_at (replicate f 65536 ++ ls) i ≡ length_at ls (i - f))
behind zero i ls le = let e : i - 0 ≡ i = omega arith in rw e (omega arith, refl)
behind (suc f) zero ls le = absurd (omega arith)
behind (suc f) (suc i) ls le =
    let rec = behind f i ls (omega arith) in
    let e : suc i - suc f ≡ i - f = omega arith in
    rw e (omega (arith, rec.0), rec.1)

-- the rest of the bytes, and behind it an empty TRB or none
last : (extra : Bool) (l k : ℕ) → k < length (l ∷ (if extra then 0 ∷ [] else []))
    → total (take k (l ∷ (if extra then 0 ∷ [] else []))) + length_at (l ∷ (if extra then 0 ∷ [] else [])) k ≡ l
last extra l zero lt = omega arith
last true l (suc zero) lt = omega arith
last true l (suc (suc k)) lt = absurd (omega arith)
last false l (suc k) lt = absurd (omega arith)

length-pieces : (f : ℕ) → length {A = ℕ} (replicate f 65536) ≡ f
length-pieces zero = refl
length-pieces (suc f) = ap suc (length-pieces f)

-- what stands behind the whole pieces
abbrev rest_of : Bool → ℕ → List ℕ
rest_of extra n = (n - full_trbs n * 65536) ∷ (if extra then 0 ∷ [] else [])

-- up to the end of a TRB come as many whole pieces, or all bytes where these are fewer
end-of : (extra : Bool) (n i : ℕ) → i < length (lengths_of extra n)
    → ((i + 1) * 65536 ≤ n → total (take i (lengths_of extra n)) + length_at (lengths_of extra n) i ≡ (i + 1) * 65536)
    × (n ≤ (i + 1) * 65536 → total (take i (lengths_of extra n)) + length_at (lengths_of extra n) i ≡ n)
end-of extra n i lt = by_place (cases_lt i (full_trbs n))
  where
    by_place : (i < full_trbs n) ⊎ (full_trbs n ≤ i)
        → ((i + 1) * 65536 ≤ n → total (take i (lengths_of extra n)) + length_at (lengths_of extra n) i ≡ (i + 1) * 65536)
        × (n ≤ (i + 1) * 65536 → total (take i (lengths_of extra n)) + length_at (lengths_of extra n) i ≡ n)
    by_place (inl here) =
        let w = whole (full_trbs n) i (rest_of extra n) here in
        ((λ h. omega (arith, w.0, w.1)), (λ h. omega (arith, w.0, w.1)))
    by_place (inr past) =
        let b = behind (full_trbs n) i (rest_of extra n) past in
        let long : length {A = ℕ} (lengths_of extra n) ≡ length {A = ℕ} (replicate (full_trbs n) 65536) + length (rest_of extra n)
        = length-append (replicate (full_trbs n) 65536) (rest_of extra n) in
        let few : i - full_trbs n < length (rest_of extra n) = omega (arith, long, length-pieces (full_trbs n)) in
        let l = last extra (n - full_trbs n * 65536) (i - full_trbs n) few in
        ((λ h. omega (arith, b.0, b.1, l)), (λ h. omega (arith, b.0, b.1, l)))

-- of the rest and what comes behind it, the bytes before are none or the rest
first : (extra : Bool) (l k : ℕ) → k < length (l ∷ (if extra then 0 ∷ [] else []))
    → (k ≡ 0 → total (take k (l ∷ (if extra then 0 ∷ [] else []))) ≡ 0) × (0 < k → total (take k (l ∷ (if extra then 0 ∷ [] else []))) ≡ l)
first extra l zero lt = ((λ e. refl), (λ h. absurd (omega (arith, h))))
first true l (suc zero) lt = ((λ e. absurd (omega (arith, e))), (λ h. omega arith))
first true l (suc (suc k)) lt = absurd (omega arith)
first false l (suc k) lt = absurd (omega arith)

-- before a TRB come as many whole pieces, or all bytes where these are fewer
start-of : (extra : Bool) (n i : ℕ) → i < length (lengths_of extra n)
    → (i * 65536 ≤ n → total (take i (lengths_of extra n)) ≡ i * 65536) × (n ≤ i * 65536 → total (take i (lengths_of extra n)) ≡ n)
start-of extra n i lt = by_place (cases_lt i (full_trbs n))
  where
    by_place : (i < full_trbs n) ⊎ (full_trbs n ≤ i)
        → (i * 65536 ≤ n → total (take i (lengths_of extra n)) ≡ i * 65536) × (n ≤ i * 65536 → total (take i (lengths_of extra n)) ≡ n)
    by_place (inl here) =
        let w = whole (full_trbs n) i (rest_of extra n) here in
        ((λ h. omega (arith, w.0)), (λ h. omega (arith, w.0)))
    by_place (inr past) =
        let b = behind (full_trbs n) i (rest_of extra n) past in
        let long : length {A = ℕ} (lengths_of extra n) ≡ length {A = ℕ} (replicate (full_trbs n) 65536) + length (rest_of extra n)
        = length-append (replicate (full_trbs n) 65536) (rest_of extra n) in
        let few : i - full_trbs n < length (rest_of extra n) = omega (arith, long, length-pieces (full_trbs n)) in
        let f = first extra (n - full_trbs n * 65536) (i - full_trbs n) few in
        by_rest b.0 f (cases_lt 0 (i - full_trbs n))
      where
        by_rest : total (take i (lengths_of extra n)) ≡ full_trbs n * 65536 + total (take (i - full_trbs n) (rest_of extra n))
            → (i - full_trbs n ≡ 0 → total (take (i - full_trbs n) (rest_of extra n)) ≡ 0) × (0 < i - full_trbs n → total (take (i - full_trbs n) (rest_of extra n)) ≡ n - full_trbs n * 65536)
            → (0 < i - full_trbs n) ⊎ (i - full_trbs n ≤ 0)
            → (i * 65536 ≤ n → total (take i (lengths_of extra n)) ≡ i * 65536) × (n ≤ i * 65536 → total (take i (lengths_of extra n)) ≡ n)
        by_rest b f (inl more) = let all = f.1 more in ((λ h. omega (arith, b, all, more)), (λ h. omega (arith, b, all, more)))
        by_rest b f (inr none) = let no_more = f.0 (omega (arith, none)) in ((λ h. omega (arith, b, no_more, none, past)), (λ h. omega (arith, b, no_more, none, past)))

-- so the bytes before a TRB are the smaller of both
pub before-is : (extra : Bool) (n i : ℕ) → i < length (lengths_of extra n) → min n (i * 65536) ≡ total (take i (lengths_of extra n))
before-is extra n i lt = by_place (start-of extra n i lt) (cases_lt n (i * 65536))
  where
    by_place : (i * 65536 ≤ n → total (take i (lengths_of extra n)) ≡ i * 65536) × (n ≤ i * 65536 → total (take i (lengths_of extra n)) ≡ n)
        → (n < i * 65536) ⊎ (i * 65536 ≤ n) → min n (i * 65536) ≡ total (take i (lengths_of extra n))
    by_place s (inl all) = let e = s.1 (omega (arith, all)) in let least : min n (i * 65536) ≡ n = min-eq_left (omega (arith, all)) in omega (arith, e, least)
    by_place s (inr whole) = let e = s.0 whole in let least : min n (i * 65536) ≡ i * 65536 = min-eq_right whole in omega (arith, e, least)

-- and up to its end come so many more as it moves
pub length-is : (extra : Bool) (n i : ℕ) → i < length (lengths_of extra n) → min n ((i + 1) * 65536) - min n (i * 65536) ≡ length_at (lengths_of extra n) i
length-is extra n i lt = by_place (end-of extra n i lt) (before-is extra n i lt) (cases_lt n ((i + 1) * 65536))
  where
    by_place : ((i + 1) * 65536 ≤ n → total (take i (lengths_of extra n)) + length_at (lengths_of extra n) i ≡ (i + 1) * 65536)
        × (n ≤ (i + 1) * 65536 → total (take i (lengths_of extra n)) + length_at (lengths_of extra n) i ≡ n)
        → min n (i * 65536) ≡ total (take i (lengths_of extra n))
        → (n < (i + 1) * 65536) ⊎ ((i + 1) * 65536 ≤ n) → min n ((i + 1) * 65536) - min n (i * 65536) ≡ length_at (lengths_of extra n) i
    by_place e before (inl all) =
        let end = e.1 (omega (arith, all)) in
        let least : min n ((i + 1) * 65536) ≡ n = min-eq_left (omega (arith, all)) in
        omega (arith, end, before, least)
    by_place e before (inr whole) =
        let end = e.0 whole in
        let least : min n ((i + 1) * 65536) ≡ (i + 1) * 65536 = min-eq_right whole in
        omega (arith, end, before, least)

-- what a TRB moves ends within all bytes
pub within : (n a b : ℕ) → a ≤ b → min n a + (min n b - min n a) ≤ n
within n a b le = by_place (cases_lt n a) (cases_lt n b)
  where
    by_place : (n < a) ⊎ (a ≤ n) → (n < b) ⊎ (b ≤ n) → min n a + (min n b - min n a) ≤ n
    by_place (inl x) (inl y) = let e : min n a ≡ n = min-eq_left (omega (arith, x)) in let f : min n b ≡ n = min-eq_left (omega (arith, y)) in omega (arith, e, f)
    by_place (inl x) (inr y) = absurd (omega (arith, x, y, le))
    by_place (inr x) (inl y) = let e : min n a ≡ a = min-eq_right x in let f : min n b ≡ n = min-eq_left (omega (arith, y)) in omega (arith, e, f, x)
    by_place (inr x) (inr y) = let e : min n a ≡ a = min-eq_right x in let f : min n b ≡ b = min-eq_right y in omega (arith, e, f, x, y, le)
