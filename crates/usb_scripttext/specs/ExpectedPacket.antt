-- What a word expects of a packet that an endpoint takes.
use Rattle.std.specs.Prelude.{ℕ, ◌-◌, nat_le, List, length, take, codes, Option, Some, None, if◌then◌else◌}
use Rattle.std.specs.Io.BufRead.{ends_with_byte}
use Rattle.std.specs.Option.{option_map, option_and_then}
use Rattle.std.specs.Str.{bytes_eq}
use Rattle.usb_model.specs.Limits.{largest_packet}
use Rattle.usb_scripttext.specs.declared.expected_packet.ExpectedPacket.{ExpectedPacket}
use Rattle.usb_scripttext.specs.declared.expected_packet.ExpectedPacket.TheVariants.{Anything, Exactly, Beginning}
use Rattle.usb_scripttext.specs.Number.{bytes_of}
use Rattle.usb_scripttext.specs.Prefix.{behind}

-- the bytes of digits, as many as a packet may have
unfoldable pub packet_bytes_of : List ℕ → Option (List ℕ)
packet_bytes_of digits = option_and_then (λ bytes. if nat_le (length bytes) largest_packet then Some bytes else None) (bytes_of digits)

-- all bytes of a packet; where a star (42) stands at the end, those that it begins with
unfoldable pub expected_bytes_of : List ℕ → Option ExpectedPacket
expected_bytes_of text =
    if ends_with_byte 42 text
    then option_map Beginning (packet_bytes_of (take (length text - 1) text))
    else option_map Exactly (packet_bytes_of text)

-- what a word expects that says that a packet is taken: `a`, or what stands behind `a:`
unfoldable pub expected_packet_of : List ℕ → Option ExpectedPacket
expected_packet_of word = if bytes_eq word (codes "a") then Some Anything else option_and_then expected_bytes_of (behind (codes "a:") word)
