-- The cut of a configuration's bytes into descriptors, each of the length that its first byte says (USB 2.0, 9.5).
use Rattle.std.specs.Prelude.{◌≡◌, ℕ, zero, suc, ◌+◌, ◌*◌, ◌≤◌, nat_le, Bool, false, ◌&&◌, List, [], ◌∷◌, ◌++◌, length, take, drop, slice_index, if◌then◌else◌}
use Rattle.std.specs.List.{All, sum_by, flat_map}

-- a descriptor: its offset, and its bytes
pub record Piece : Type 0 where
  pub at : ℕ
  pub bytes : List ℕ

-- the byte at this offset, and the number of two bytes that begins there, the lower byte first
abbrev pub byte : ℕ → List ℕ → ℕ
byte i bytes = slice_index bytes i

abbrev pub word : ℕ → List ℕ → ℕ
word i bytes = byte i bytes + 256 * byte (i + 1) bytes

-- whether the bytes begin with a descriptor: two bytes are there, and its length is from 2 up to what is there
abbrev pub begins_with_piece : List ℕ → Bool
begins_with_piece bytes = nat_le 2 (length bytes) && (nat_le 2 (byte 0 bytes) && nat_le (byte 0 bytes) (length bytes))

-- the descriptors in front, at most so many; at: the offset of the first
unfoldable pub pieces_from : ℕ → ℕ → List ℕ → List Piece
pieces_from zero at bytes = []
pieces_from (suc most) at bytes =
    if begins_with_piece bytes
    then record { at = at; bytes = take (byte 0 bytes) bytes } ∷ pieces_from most (at + byte 0 bytes) (drop (byte 0 bytes) bytes)
    else []

-- all of them
abbrev pub pieces : ℕ → List ℕ → List Piece
pieces at bytes = pieces_from (length bytes) at bytes

-- how many bytes they have together
abbrev pub extent : List Piece → ℕ
extent ps = sum_by (λ p. length p.bytes) ps

-- what stands behind them, which no descriptor begins
abbrev pub rest : List ℕ → List ℕ
rest bytes = drop (extent (pieces 0 bytes)) bytes

-- the pieces are the cut of the bytes: joined, with what is left, they are the bytes; each is as long as it says, two bytes at least;
-- each begins where the ones before it end; and what is left begins no further piece
pub record IsCut (at : ℕ) (bytes : List ℕ) (ps : List Piece) (left : List ℕ) : Type 0 where
  pub joined : flat_map (λ p. p.bytes) ps ++ left ≡ bytes
  pub sound : All (λ p. (2 ≤ length p.bytes) × (byte 0 p.bytes ≡ length p.bytes)) ps
  pub offsets : (front back : List Piece) (p : Piece) → ps ≡ front ++ p ∷ back → p.at ≡ at + extent front
  pub stuck : begins_with_piece left ≡ false
