-- Where the first element that passes a test stands.
use Rattle.std.proofs.Common.{Bool, List, None, Some, ap, arith, cond, false, refl, suc, true, ℕ, ◌+◌, ◌∙◌, ◌∷◌, ◌≡◌}
use Rattle.std.specs.Prelude.{if◌then◌else◌, length, nat_lt, not, position}
use Rattle.std.specs.List.{prefix_len}
use Rattle.std.specs.Option.{option_map}
use Rattle.std.proofs.Math.Numerals.{one-add}
use Rattle.std.proofs.lemmas.Bool.{lt-ltb, ltb-true, ltb_from_iff}

-- it is the first of all, or stands one behind its place among the others
pub position_step : {X : Type 0} (p : X → Bool) (x : X) (xs : List X) → position p (x ∷ xs) ≡ (if p x then Some 0 else option_map (λ i. suc i) (position p xs))
position_step p x xs = by_test (p x)
  where
    k : ℕ
    k = prefix_len (λ y. not (p y)) xs

    same : nat_lt (1 + k) (length (x ∷ xs)) ≡ nat_lt k (length xs)
    same = ltb_from_iff ((λ e. let l = ltb-true (1 + k) (length (x ∷ xs)) e in omega (arith, l)), (λ l. lt-ltb (1 + k) (length (x ∷ xs)) (omega (arith, l))))

    rest : (u : Bool) → cond u (Some (1 + k)) None ≡ option_map (λ i. suc i) (cond u (Some k) None)
    rest true = ap (λ n. Some n) (one-add k)
    rest false = refl

    by_test : (t : Bool) → cond (nat_lt (cond (not t) (1 + k) 0) (length (x ∷ xs))) (Some (cond (not t) (1 + k) 0)) None ≡ (if t then Some 0 else option_map (λ i. suc i) (position p xs))
    by_test true = ap (λ u. cond u (Some 0) None) (lt-ltb 0 (length (x ∷ xs)) (omega arith))
    by_test false = ap (λ u. cond u (Some (1 + k)) None) same ∙ rest (nat_lt k (length xs))
