-- What a scenario expects of the packets that its devices take, line by line.
use Rattle.std.specs.Prelude.{ℕ, ◌==◌, Bool, ◌||◌, List, [], ◌∷◌, codes, filter_map, Option, None, if◌then◌else◌}
use Rattle.std.specs.List.{slice_split}
use Rattle.std.specs.Option.{option_and_then, option_map, unwrap_or}
use Rattle.std.specs.Str.{bytes_eq}
use Rattle.trace_scenario.specs.declared.expectations.ExpectedPackets.{ExpectedPackets}
use Rattle.usb_scripttext.specs.declared.expected_packet.ExpectedPacket.{ExpectedPacket}
use Rattle.usb_scripttext.specs.ExpectedPacket.{expected_packet_of}
use Rattle.usb_scripttext.specs.Repeats.{all_copies, few_of}
use Rattle.usb_scripttext.specs.Words.{ascii_of}
use Rattle.usb_scripttext.specs.Number.{address_of, device_of}
use Rattle.usb_scripttext.specs.Words.{words_in}

-- what answers that are written out expect: one for each that takes a packet
abbrev pub expected_of_plain : List (List ℕ) → List ExpectedPacket
expected_of_plain words = filter_map expected_packet_of words

-- what some answers expect, each as often as it stands; nothing where they are too many, as in no scenario. Nothing is expected of what `..` adds
abbrev pub expected_of_words : List (List ℕ) → List ExpectedPacket
expected_of_words words = expected_of_plain (unwrap_or (few_of (all_copies words)) [])

-- whether a line that begins with this word has answers
abbrev pub says_answers : List ℕ → Bool
says_answers verb = bytes_eq verb (codes "script") || bytes_eq verb (codes "feed")

-- what answers expect of an endpoint of a device
abbrev pub expected_at : List (List ℕ) → ℕ → ℕ → ExpectedPackets
expected_at answers dev ep = record { dev = dev; ep = ep; packets = expected_of_words answers }

-- what the words of a line expect
unfoldable pub expected_by_words : List (List ℕ) → Option ExpectedPackets
expected_by_words (verb ∷ dev ∷ ep ∷ answers) =
    if says_answers verb then option_and_then (λ d. option_map (expected_at answers d) (address_of ep)) (device_of dev) else None
expected_by_words words = None

-- what a line expects
abbrev pub expected_in_line : List ℕ → Option ExpectedPackets
expected_in_line text = option_and_then (λ ascii. expected_by_words (words_in ascii)) (ascii_of text)

-- what the lines of a text expect, in order
abbrev pub expected_of : List ℕ → List ExpectedPackets
expected_of text = filter_map expected_in_line (slice_split (λ b. b == 10) text)
