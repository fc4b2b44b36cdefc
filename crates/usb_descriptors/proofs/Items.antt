-- What an iterator over descriptors gives next.
use Rattle.std.proofs.Common.{◌≡◌, ℕ, ◌+◌, ◌<◌, length, take, drop, arith, length-take-le, true, false, List, [], ◌∷◌, Ok, Err, refl, ap, ◌∙◌, add-zero, add_assoc}
use Rattle.usb_descriptors.specs.declared.fault.DescFault.TheVariants.{BadLength}
use Rattle.usb_descriptors.specs.Pieces.{byte, begins_with_piece, pieces_from}
use Rattle.usb_descriptors.specs.Items.{items}
use Rattle.usb_descriptors.proofs.Cut.{first, behind, front as has_front, pieces-front, pieces-stuck, extent-front, rest-front, rest-stuck}

-- nothing comes of no bytes
pub items-nil : (at : ℕ) → items at [] ≡ []
unfolding items pieces_from
items-nil at = refl

-- nor anything but a fault of bytes that begin no piece
pub items-stuck : (at : ℕ) (bytes : List ℕ) → 0 < length bytes → begins_with_piece bytes ≡ false → items at bytes ≡ Err (BadLength at) ∷ []
unfolding items
items-stuck at (x ∷ xs) some stuck =
    rw (pieces-stuck at (x ∷ xs) stuck, rest-stuck (x ∷ xs) stuck, add-zero) refl
items-stuck at [] some stuck = absurd (omega arith)

-- else the first piece, and then what comes of the bytes behind it
items-front : (at : ℕ) (bytes : List ℕ) → begins_with_piece bytes ≡ true
    → items at bytes ≡ Ok (first at bytes) ∷ items (at + byte 0 bytes) (behind bytes)
unfolding items
items-front at bytes begins =
    rw (extent-front at bytes begins, pieces-front at bytes begins, rest-front bytes begins, add_assoc) refl

-- the same by what the first piece's bytes and those behind it are
pub items-split : (at : ℕ) (bytes front back : List ℕ) → begins_with_piece bytes ≡ true → front ≡ take (byte 0 bytes) bytes
    → back ≡ drop (byte 0 bytes) bytes → items at bytes ≡ Ok (record { at = at; bytes = front }) ∷ items (at + length front) back
items-split at bytes front back begins is_front is_back =
    let reach : length front ≡ byte 0 bytes = ap length is_front ∙ length-take-le (byte 0 bytes) bytes (has_front bytes begins).fits in
    rw (reach, is_front, is_back) (items-front at bytes begins)
