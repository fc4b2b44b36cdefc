-- How it is told what a run wrote that isn't as expected.
use Rattle.std.specs.Prelude.{ℕ, ◌+◌, ◌-◌, ◌==◌, nat_lt, Bool, List, [], ◌∷◌, ◌++◌, codes, length, take, drop, sum_by, Option, Some, None, if◌then◌else◌}
use Rattle.std.specs.Fmt.{decimal}
use Rattle.std.specs.List.{flat_map}
use Rattle.hex.specs.Hex.{encode_lower}
use Rattle.usb_model.specs.Text.{hex_byte}
use Rattle.trace_scenario.specs.Counts.{plural_end}
use Rattle.usb_scripttext.specs.declared.expected_packet.ExpectedPacket.{ExpectedPacket}
use Rattle.usb_scripttext.specs.declared.expected_packet.ExpectedPacket.TheVariants.{Beginning}
use Rattle.trace_judged.specs.declared.difference.Difference.{Difference}
use Rattle.trace_judged.specs.declared.missing.MissingPackets.{MissingPackets}
use Rattle.trace_judged.specs.declared.unexpected.Unexpected.{Unexpected}
use Rattle.trace_judged.specs.Expected.{bytes_expected}

-- how many bytes are shown before one that differs, and how many behind it
abbrev pub around : ℕ
around = 16

-- where bytes are left out
abbrev pub dots_where : Bool → List ℕ
dots_where left_out = if left_out then codes ".." else []

-- the bytes around a place, of which that there stands in brackets: none, where they end before it
abbrev pub bytes_around : List ℕ → ℕ → List ℕ
bytes_around bytes at =
    dots_where (nat_lt around at) ++ (encode_lower (drop (at - around) (take at bytes))
    ++ (codes "[" ++ (encode_lower (take 1 (drop at bytes))
    ++ (codes "]" ++ (encode_lower (take around (drop (at + 1) bytes)) ++ dots_where (nat_lt (at + 1 + around) (length bytes)))))))

-- the first bytes
abbrev pub bytes_begun : List ℕ → List ℕ
bytes_begun [] = codes "nothing"
bytes_begun (b ∷ bs) = encode_lower (take around (b ∷ bs)) ++ dots_where (nat_lt around (length (b ∷ bs)))

-- how many bytes a packet has to have
abbrev pub length_text : ExpectedPacket → List ℕ
length_text (Beginning bytes) = codes "* (length " ++ (decimal (length bytes) ++ codes " or more)")
length_text packet = codes " (length " ++ (decimal (length (bytes_expected packet)) ++ codes ")")

-- an endpoint
abbrev pub place_text : ℕ → ℕ → List ℕ
place_text dev ep = codes "device " ++ (decimal dev ++ (codes ", endpoint " ++ (hex_byte ep ++ codes ": ")))

-- a packet that differs: where it stands; what came; what was expected
abbrev pub head_text : Difference → List ℕ
head_text d = codes "# line " ++ (decimal d.line ++ (codes ": " ++ (place_text d.dev d.ep ++ (codes "packet " ++ (decimal (d.index + 1) ++ (codes " differs at offset " ++ (decimal d.offset ++ codes ": came ")))))))

abbrev pub came_text : Difference → List ℕ
came_text d = bytes_around d.came d.offset ++ (codes " (length " ++ (decimal (length d.came) ++ codes "), expected "))

abbrev pub difference_line : Difference → List ℕ
difference_line d = head_text d ++ (came_text d ++ (bytes_around (bytes_expected d.expected) d.offset ++ (length_text d.expected ++ codes "\n")))

-- what never came at an endpoint
abbrev pub never_text : MissingPackets → List ℕ
never_text m = codes "# " ++ (place_text m.dev m.ep ++ (decimal m.count ++ (codes " expected packet" ++ (plural_end m.count ++ (codes " never came; the first is packet " ++ (decimal (m.index + 1) ++ codes ": expected "))))))

abbrev pub missing_line : MissingPackets → List ℕ
missing_line m = never_text m ++ (bytes_begun (bytes_expected m.expected) ++ (length_text m.expected ++ codes "\n"))

-- how many packets differ or never came
abbrev pub total_of : List Difference → List MissingPackets → ℕ
total_of differences missing = length differences + sum_by (λ m. m.count) missing

abbrev pub total_line : ℕ → List ℕ
total_line total = codes "# what was written isn't what the scenario expects: " ++ (decimal total ++ (codes " difference" ++ (plural_end total ++ codes "\n")))

-- the first packet that differs, if one does
abbrev pub first_of : List Difference → Option Difference
first_of [] = None
first_of (d ∷ ds) = Some d

-- what is told of a run: nothing, where each packet is as expected and none is missing
abbrev pub unexpected_of : List Difference → List MissingPackets → Option Unexpected
unexpected_of differences missing =
    if total_of differences missing == 0 then None
    else Some (record { first = first_of differences; missing = missing; total = total_of differences missing })

-- the lines: of the first packet that differs, of what never came, and of how many packets that is in all
abbrev pub first_line : Option Difference → List ℕ
first_line None = []
first_line (Some d) = difference_line d

abbrev pub unexpected_text : Unexpected → List ℕ
unexpected_text u = first_line u.first ++ (flat_map missing_line u.missing ++ total_line u.total)
