-- What comes of bytes from front to back: the descriptors, and then a fault where bytes are left that begin none.
use Rattle.std.specs.Prelude.{ℕ, ◌+◌, ◌==◌, nat_lt, not, ◌||◌, List, ◌++◌, length, map, Result, Ok, Err, if◌then◌else◌}
use Rattle.usb_descriptors.specs.declared.fault.DescFault.{DescFault}
use Rattle.usb_descriptors.specs.declared.fault.DescFault.TheVariants.{Truncated, BadLength, WrongType}
use Rattle.usb_descriptors.specs.Pieces.{Piece, byte, pieces, extent, rest}
use Rattle.usb_descriptors.specs.Grammar.{faults_at_end, header_length, total_length, body}

-- the first descriptor has this offset
unfoldable pub items : ℕ → List ℕ → List (Result Piece DescFault)
items at bytes = map Ok (pieces at bytes) ++ map Err (faults_at_end (at + extent (pieces at bytes)) (rest bytes))

-- the bytes behind the configuration descriptor itself as what comes of them, or its own fault
abbrev pub opening : List ℕ → Result (List (Result Piece DescFault)) DescFault
opening input =
    if nat_lt (length input) 9 then Err (Truncated (length input))
    else if not (byte 1 input == 2) then Err (WrongType 0)
    else if nat_lt (header_length input) 9 || nat_lt (total_length input) (header_length input) then Err (BadLength 0)
    else if nat_lt (length input) (total_length input) then Err (Truncated (length input))
    else Ok (items (header_length input) (body input))
