-- The first that passes a test, among what some refer to.
use Rattle.std.proofs.Common.{◌≡◌, ℕ, ◌+◌, Bool, not, List, [], ◌∷◌, length, map, Some, None, cond, nat_lt, refl, sym, ap, ◌∙◌}
use Rattle.std.specs.Prelude.{position}
use Rattle.std.specs.List.{position_or_len, prefix_len}
use Rattle.std.proofs.lemmas.List.{length-map}

-- how many pass a test from the front on
prefix_map : {X Y : Type 0} (p : Y → Bool) (f : X → Y) (xs : List X) → prefix_len (λ x. p (f x)) xs ≡ prefix_len p (map f xs)
prefix_map p f [] = refl
prefix_map p f (x ∷ xs) = ap (λ (n : ℕ). cond (p (f x)) (1 + n) 0) (prefix_map p f xs)

-- the first that passes it
pub position_map : {X Y : Type 0} (p : Y → Bool) (f : X → Y) (xs : List X) → position (λ x. p (f x)) xs ≡ position p (map f xs)
position_map p f xs =
    ap (λ (n : ℕ). cond (nat_lt n (length xs)) (Some n) None) (prefix_map (λ y. not (p y)) f xs)
    ∙ ap (λ (m : ℕ). cond (nat_lt (position_or_len p (map f xs)) m) (Some (position_or_len p (map f xs))) None) (sym (length-map xs f))
