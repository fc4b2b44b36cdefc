-- What is expected of the packets that an endpoint takes, and where one differs.
use Rattle.std.specs.Prelude.{ℕ, ◌==◌, nat_eq, Bool, true, ◌&&◌, List, [], map, Option, Some, None, if◌then◌else◌}
use denote.Ref.{Bor}
use Rattle.std.specs.List.{common_prefix_len, flat_map, starts_with}
use Rattle.std.specs.Str.{bytes_eq}
use Rattle.trace_scenario.specs.declared.expectations.ExpectedPackets.{ExpectedPackets}
use Rattle.usb_scripttext.specs.declared.expected_packet.ExpectedPacket.{ExpectedPacket}
use Rattle.usb_scripttext.specs.declared.expected_packet.ExpectedPacket.TheVariants.{Anything, Exactly, Beginning}

-- what a line expects at this endpoint
abbrev pub expected_by : ℕ → ℕ → ExpectedPackets → List ExpectedPacket
expected_by dev ep line = if (line.dev == dev) && (line.ep == ep) then line.packets else []

-- what lines expect at it: the k-th packet since its script began is expected by the k-th of these
abbrev pub expected_at : List ExpectedPackets → ℕ → ℕ → List ExpectedPacket
expected_at lines dev ep = flat_map (expected_by dev ep) lines

-- those that these refer to
abbrev pub packets_of : List (Bor ExpectedPacket) → List ExpectedPacket
packets_of packets = map (λ (packet : Bor ExpectedPacket). packet.now) packets

-- whether a packet with these bytes is as expected
abbrev pub is_expected : ExpectedPacket → List ℕ → Bool
is_expected Anything bytes = true
is_expected (Exactly expected) bytes = bytes_eq expected bytes
is_expected (Beginning expected) bytes = starts_with nat_eq bytes expected

-- the bytes that are expected of it
abbrev pub bytes_expected : ExpectedPacket → List ℕ
bytes_expected Anything = []
bytes_expected (Exactly expected) = expected
bytes_expected (Beginning expected) = expected

-- how many bytes two have in common from the front on: the place of the first that differs, or the end of the shorter
abbrev pub in_common : List ℕ → List ℕ → ℕ
in_common xs ys = common_prefix_len nat_eq xs ys

-- where a packet with these bytes differs, if it does
abbrev pub differs_at : ExpectedPacket → List ℕ → Option ℕ
differs_at expected bytes = if is_expected expected bytes then None else Some (in_common (bytes_expected expected) bytes)
