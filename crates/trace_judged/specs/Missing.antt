-- What was expected and never came.
use Rattle.std.specs.Prelude.{ℕ, zero, suc, ◌+◌, Bool, true, false, List, [], ◌∷◌, count_by, drop, position, Option, slice_get}
use Rattle.std.specs.List.{flat_map}
use Rattle.std.specs.Option.{option_and_then, option_map, option_to_list}
use Rattle.usb_model.specs.Setup.{Setup, endpoints_of}
use Rattle.usb_model.specs.World.{World}
use Rattle.trace_scenario.specs.declared.expectations.ExpectedPackets.{ExpectedPackets}
use Rattle.usb_scripttext.specs.declared.expected_packet.ExpectedPacket.{ExpectedPacket}
use Rattle.usb_scripttext.specs.declared.expected_packet.ExpectedPacket.TheVariants.{Anything}
use Rattle.trace_judged.specs.declared.missing.MissingPackets.{MissingPackets}
use Rattle.trace_judged.specs.Differences.{next_index}
use Rattle.trace_judged.specs.Expected.{expected_at}

-- whether a packet is missed that never came: not where anything may come
abbrev pub is_wanted : ExpectedPacket → Bool
is_wanted Anything = false
is_wanted packet = true

-- the first that is missed of those that are expected from an index on, and how many are
abbrev pub missing_of : (dev ep index : ℕ) → List ExpectedPacket → Option MissingPackets
missing_of dev ep index left =
    option_and_then
    (λ at. option_map (λ expected. record { dev = dev; ep = ep; count = count_by is_wanted left; index = index + at; expected = expected }) (slice_get left at))
    (position is_wanted left)

-- at an endpoint: those behind the packets that it took since its script began
abbrev pub missing_at : List ExpectedPackets → World → ℕ → ℕ → Option MissingPackets
missing_at lines w dev ep = missing_of dev ep (next_index w dev ep) (drop (next_index w dev ep) (expected_at lines dev ep))

-- at all endpoints of a device, in the order of its configuration
abbrev pub device_missing : List ExpectedPackets → Setup → World → ℕ → List MissingPackets
device_missing lines setup w dev = flat_map (λ info. option_to_list (missing_at lines w dev info.address)) (endpoints_of setup dev)

-- at all devices, of which there are at most 4
abbrev pub all_missing : List ExpectedPackets → Setup → World → List MissingPackets
all_missing lines setup w = flat_map (device_missing lines setup w) (0 ∷ 1 ∷ 2 ∷ 3 ∷ [])
