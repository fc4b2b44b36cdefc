-- Numbers that rise, with some left out or a larger one behind them.
use Rattle.std.proofs.Common.{ℕ, zero, suc, ◌+◌, ◌<◌, List, [], ◌∷◌, ◌++◌, subst, arith}
use Rattle.std.specs.Prelude.{slice_index}
use Rattle.std.specs.List.{AllByRecursion}
use Rattle.std.specs.List.Sorted.{IsStrictlyIncreasing}
use Rattle.proof_model.proofs.Lists.Parts.{each_append, each_front, each_part, each_weaker, IsPart, nothing, skips, keeps}

-- each is above all before it
abbrev pub Rises : List ℕ → Type 0
Rises [] = Unit {0}
Rises (x ∷ xs) = AllByRecursion (λ y. x < y) xs × Rises xs

-- so each is below the next
pub increasing : (xs : List ℕ) → Rises xs → IsStrictlyIncreasing xs
increasing [] r k within = absurd (omega (arith, within))
increasing (x ∷ []) r k within = absurd (omega (arith, within))
increasing (x ∷ y ∷ xs) r zero within = r.0.0
increasing (x ∷ y ∷ xs) r (suc k) within =
    subst (λ n. slice_index (y ∷ xs) k < slice_index (x ∷ y ∷ xs) n) {x = suc (k + 1)} {y = suc k + 1} (omega arith) (increasing (y ∷ xs) r.1 k (omega (arith, within)))

-- each is below this one
abbrev pub AllBelow : ℕ → List ℕ → Type 0
AllBelow k xs = AllByRecursion (λ x. x < k) xs

-- with some left out, the others rise
pub part_rises : {xs ys : List ℕ} → IsPart xs ys → Rises ys → Rises xs
part_rises nothing r = r
part_rises (skips p) r = part_rises p r.1
part_rises (keeps {y = y} p) r = (each_part (λ x. y < x) p r.0, part_rises p r.1)

-- what is below one is below the next
pub below_up : (k : ℕ) (xs : List ℕ) → AllBelow k xs → AllBelow (k + 1) xs
below_up k xs a = each_weaker (λ x. x < k) (λ x. x < k + 1) xs (λ x lt. omega (arith, lt)) a

-- with that one behind them too
pub below_more : (k : ℕ) (xs : List ℕ) → AllBelow k xs → AllBelow (k + 1) (xs ++ k ∷ [])
below_more k xs a = each_append (λ x. x < k + 1) xs (k ∷ []) (below_up k xs a) (omega arith, tt)

-- a larger one behind those that rise
pub rises_more : (k : ℕ) (xs : List ℕ) → Rises xs → AllBelow k xs → Rises (xs ++ k ∷ [])
rises_more k [] r b = (tt, tt)
rises_more k (x ∷ xs) r b = (each_append (λ y. x < y) xs (k ∷ []) r.0 (b.0, tt), rises_more k xs r.1 b.1)

-- the first of those that rise
pub rises_front : (xs ys : List ℕ) → Rises (xs ++ ys) → Rises xs
rises_front [] ys r = tt
rises_front (x ∷ xs) ys r = (each_front (λ y. x < y) xs ys r.0, rises_front xs ys r.1)
