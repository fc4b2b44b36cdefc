-- What a list leads to, by what each of its values does to a state.
use Rattle.std.specs.Prelude.{List, [], ◌∷◌}

-- the state after these values, one after the other
unfoldable pub after : {S A : Type 0} → (A → S → S) → S → List A → S
after step state [] = state
after step state (x ∷ xs) = after step (step x state) xs
