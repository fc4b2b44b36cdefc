-- The packets of an OUT transfer (USB 2.0, 5.8.3).
use Rattle.std.specs.Prelude.{◌≡◌, ℕ, ◌<◌, ◌≤◌, ◌%◌, ◌==◌, Bool, false, ◌&&◌, ◌||◌, List, [], ◌∷◌, length}
use Rattle.std.specs.List.{concat}
use Rattle.usb_model.specs.Endpoint.Packets.{pieces}

-- each piece but the last has this size, and the last at most
abbrev pub AreFull : ℕ → List (List ℕ) → Type 0
AreFull size [] = ⊥
AreFull size (x ∷ []) = length x ≤ size
AreFull size (x ∷ y ∷ xs) = (length x ≡ size) × AreFull size (y ∷ xs)

-- whether the last piece is empty
abbrev pub ends_empty : List (List ℕ) → Bool
ends_empty [] = false
ends_empty (x ∷ []) = length x == 0
ends_empty (x ∷ y ∷ xs) = ends_empty (y ∷ xs)

-- the packets of an OUT transfer: joined they are its bytes, each but the last is full, and the last is empty
-- just where there are no bytes, or where that is asked and the others hold all
pub record ArePackets (adds_zero : Bool) (size : ℕ) (bytes : List ℕ) (ps : List (List ℕ)) : Type 0 where
  pub joined : concat ps ≡ bytes
  pub full : AreFull size ps
  pub last : ends_empty ps ≡ ((length bytes == 0) || (adds_zero && (length bytes % size == 0)))

abbrev pub CutsIntoPackets : Type 0
CutsIntoPackets = (adds_zero : Bool) (size : ℕ) (bytes : List ℕ) → 0 < size → ArePackets adds_zero size bytes (pieces adds_zero size bytes)
