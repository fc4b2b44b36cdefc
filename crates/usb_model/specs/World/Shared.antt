-- Lists that all handles share, each piece behind the name of its handle.
use Rattle.std.specs.Prelude.{ℕ, ◌==◌, Bool, true, false, List, [], ◌∷◌, map, Option, Some, None, if◌then◌else◌}
use Rattle.usb_model.specs.declared.shared.Tagged.{Tagged}

-- the pieces of one name, in order
abbrev pub pieces_of : {A : Type 0} → ℕ → List (Tagged A) → List A
pieces_of h [] = []
pieces_of h (x ∷ xs) = if x.name == h then x.piece ∷ pieces_of h xs else pieces_of h xs

-- these pieces, as the name's
abbrev pub tagged : {A : Type 0} → ℕ → List A → List (Tagged A)
tagged h xs = map (λ x. record { name = h; piece = x }) xs

-- whose the first piece is
abbrev pub first_name : {A : Type 0} → List (Tagged A) → Option ℕ
first_name [] = None
first_name (x ∷ xs) = Some x.name

-- the list without its first piece, where the test holds
abbrev pub past_first : {A : Type 0} → Bool → List A → List A
past_first true [] = []
past_first true (x ∷ xs) = xs
past_first false xs = xs
