-- The bytes of an input: as they are, or as hexadecimal text.
use Rattle.std.specs.Prelude.{ℕ, ◌==◌, Bool, ◌&&◌, ◌||◌, List, [], ◌∷◌, ◌++◌, Result, Ok, Err, if◌then◌else◌}
use Rattle.hex.specs.declared.error.FromHexError.{FromHexError}
use Rattle.hex.specs.Hex.{decode_of, is_hex_digit}
use Rattle.usb_descriptors.specs.Pieces.{byte}
use Rattle.trace_faults.specs.declared.descriptor_fault.DescriptorFault.{DescriptorFault}
use Rattle.trace_faults.specs.DescriptorFaults.{fault_of_hex}

-- what may stand between the numbers of a text: a space, a line feed, a carriage return, a tab, a colon
abbrev pub is_between : ℕ → Bool
is_between b = (b == 32) || ((b == 10) || ((b == 13) || ((b == 9) || (b == 58))))

-- the letter of `0x`, in either case
abbrev pub is_x : ℕ → Bool
is_x b = (b == 120) || (b == 88)

-- whether these two stand in front of a number
abbrev pub is_prefix : ℕ → ℕ → Bool
is_prefix a b = (a == 48) && is_x b

-- whether a text begins with them
abbrev pub begins_with_prefix : List ℕ → Bool
begins_with_prefix text = is_prefix (byte 0 text) (byte 1 text)

abbrev pub kept : ℕ → List ℕ
kept b = if is_between b then [] else b ∷ []

-- a text without what stands between its numbers, and in front of them
unfoldable pub digits : List ℕ → List ℕ
digits [] = []
digits (a ∷ []) = kept a
digits (a ∷ b ∷ bs) = if is_prefix a b then digits bs else kept a ++ digits (b ∷ bs)

-- what stands in a text; a descriptor's second byte is its type, 1 or 2, which doesn't
abbrev pub is_of_text : ℕ → Bool
is_of_text b = is_hex_digit b || (is_between b || is_x b)

-- whether an input is text: its first two bytes are of one
abbrev pub is_text : List ℕ → Bool
is_text input = is_of_text (byte 0 input) && is_of_text (byte 1 input)

abbrev pub by_hex : Result (List ℕ) FromHexError → Result (List ℕ) DescriptorFault
by_hex (Ok bytes) = Ok bytes
by_hex (Err error) = Err (fault_of_hex error)

-- the bytes of a text
unfoldable pub bytes_of_text : List ℕ → Result (List ℕ) DescriptorFault
bytes_of_text text = by_hex (decode_of (digits text))

-- the bytes of an input
abbrev pub bytes_of : List ℕ → Result (List ℕ) DescriptorFault
bytes_of input = if is_text input then bytes_of_text input else Ok input
