-- One turn more of the loop over a text.
use Rattle.std.proofs.Common.{◌≡◌, ℕ, ◌<◌, true, false, List, [], ◌∷◌, ◌++◌, length, drop, refl, arith, append-nil}
use Rattle.std.specs.Prelude.{slice_index}
use Rattle.trace_descriptor.specs.Input.{begins_with_prefix, digits, kept}

-- no digit is left at the end
pub none_left : digits [] ≡ []
unfolding digits
none_left = refl

-- a `0x` is passed over
pub prefix_next : (text : List ℕ) → begins_with_prefix text ≡ true → digits text ≡ digits (drop 2 text)
unfolding digits
prefix_next [] begins = cc
prefix_next (a ∷ []) begins = absurd (grind arith)
prefix_next (a ∷ b ∷ bs) begins = rw begins refl

-- any other byte is kept, or stands between numbers
pub byte_next : (text : List ℕ) → 0 < length text → begins_with_prefix text ≡ false → digits text ≡ kept (slice_index text 0) ++ digits (drop 1 text)
unfolding digits
byte_next [] some begins = absurd (omega arith)
byte_next (a ∷ []) some begins = rw (append-nil (kept a)) refl
byte_next (a ∷ b ∷ bs) some begins = rw begins refl
