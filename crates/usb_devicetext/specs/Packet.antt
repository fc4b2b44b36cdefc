-- Setup packets (USB 2.0, 9.3).
use Rattle.std.specs.Prelude.{ℕ, ◌+◌, ◌*◌, ◌/◌, ◌%◌, ◌==◌, Bool, not, ◌&&◌, List, slice_index, if◌then◌else◌}
use Rattle.usb_devicetext.specs.declared.packet.SetupPacket.{SetupPacket}
use Rattle.usb_devicetext.specs.declared.packet.Needs.{Needs}
use Rattle.usb_devicetext.specs.declared.packet.Needs.TheVariants as needs

-- the number of two bytes
abbrev pub both_of : (low high : ℕ) → ℕ
both_of low high = 256 * high + low

-- the setup packet of 8 bytes
abbrev pub packet_of : List ℕ → SetupPacket
packet_of bytes = record {
  kind = slice_index bytes 0;
  request = slice_index bytes 1;
  value = both_of (slice_index bytes 2) (slice_index bytes 3);
  index = both_of (slice_index bytes 4) (slice_index bytes 5);
  length = both_of (slice_index bytes 6) (slice_index bytes 7);
}

-- whether a request is a vendor's; to an interface; to an endpoint, but the default control endpoint
abbrev pub is_vendors : SetupPacket → Bool
is_vendors p = p.kind / 32 % 4 == 2

-- what a host has to hold for a request
unfoldable pub needs_of : SetupPacket → Needs
needs_of p =
    if is_vendors p then needs.Nothing
    else if p.kind % 32 == 1 then needs.Interface (p.index % 256)
    else if (p.kind % 32 == 2) && not (p.index % 256 % 16 == 0) then needs.Endpoint (p.index % 256)
    else needs.Nothing
