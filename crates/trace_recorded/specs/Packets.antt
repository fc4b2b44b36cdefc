-- What is read of a captured packet's bytes, whoever recorded it.
use Rattle.std.specs.Prelude.{ℕ, ◌+◌, ◌==◌, List, drop, slice_index, Option, Some, None, if◌then◌else◌}
use Rattle.byteorder.specs.Endian.{big_number, little_number}
use Rattle.usb_model.specs.declared.request.Kind.{Kind}
use Rattle.usb_model.specs.declared.request.Kind.TheVariants.{Isochronous, Interrupt, Control, Bulk}
use Rattle.trace_capture.specs.declared.control_setup.ControlSetup.{ControlSetup}
use Rattle.trace_recorded.specs.declared.number.Endianness.{Endianness}
use Rattle.trace_recorded.specs.declared.number.Endianness.TheVariants.{Little, Big}

-- the number in so many bytes, from a place on
abbrev pub number_at : Endianness → ℕ → ℕ → List ℕ → ℕ
number_at Little place count bytes = little_number count (drop place bytes)
number_at Big place count bytes = big_number count (drop place bytes)

-- the number of a kind, the same in either recorder
abbrev pub kind_of : ℕ → Option Kind
kind_of number = if number == 0 then Some Isochronous else if number == 1 then Some Interrupt else if number == 2 then Some Control else if number == 3 then Some Bulk else None

-- the eight bytes of setup data, in the order of the bus (USB 2.0, 8.1 and 9.3), whatever the capture's is
abbrev pub setup_at : ℕ → List ℕ → ControlSetup
setup_at place packet = record {
  request_type = slice_index packet place;
  request = slice_index packet (place + 1);
  value = number_at Little (place + 2) 2 packet;
  index = number_at Little (place + 4) 2 packet;
  length = number_at Little (place + 6) 2 packet;
}
