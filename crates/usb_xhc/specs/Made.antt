-- How a device's slot is made: a ring for each endpoint that moves bulk or interrupt transfers (xHCI 1.2, 4.3.5, 6.2).
use Rattle.std.specs.Prelude.{ℕ, ◌+◌, ◌*◌, nat_lt, not, ◌&&◌, false, List, map, Option, Some, None, if◌then◌else◌}
use Rattle.std.specs.Option.{option_and_then}
use Rattle.std.specs.List.{range_with_len}
use Rattle.usb_model.specs.declared.setup.Configuration.{Configuration}
use Rattle.usb_model.specs.declared.setup.EndpointInfo.{EndpointInfo}
use Rattle.usb_model.specs.Requests.{is_unsupported}
use Rattle.usb_device.specs.Pipe.{Pipe}
use Rattle.usb_device.specs.Scripts.{info_by}
use Rattle.usb_xhc.specs.Context.{Context, configured}
use Rattle.usb_xhc.specs.Slots.{DeviceSlot}

-- where the transfer ring of a slot's endpoint begins
abbrev pub ring_base : ℕ → ℕ → ℕ
ring_base slot id = 0x1000_0000 + (32 * slot + id) * 0x1000

-- an endpoint of this id, of which the configuration says this
abbrev pub context_made : ℕ → ℕ → EndpointInfo → Option Context
context_made slot id x = if not (is_unsupported x.kind) && nat_lt 0 id then Some (configured slot id x.packet_size (ring_base slot id)) else None

abbrev pub context_for : ℕ → Configuration → ℕ → Option Context
context_for slot config id = option_and_then (λ x. context_made slot id x) (info_by config id)

-- the endpoints, by their ids
unfoldable pub contexts_for : ℕ → Configuration → List (Option Context)
contexts_for slot config = map (context_for slot config) (range_with_len 0 32)

-- the slot of a device of this configuration
abbrev pub slot_for : ℕ → Configuration → List Pipe → DeviceSlot
slot_for slot config pipes = record { pipes = pipes; gone = false; contexts = contexts_for slot config }
