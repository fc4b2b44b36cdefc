-- Those of earlier devices are made new.
use Rattle.std.proofs.Common.{◌≡◌, ◌<◌, ℕ}
use Rattle.std.specs.Prelude.{Some, slice_get}
use Rattle.usb_device.specs.Pipe.{IsLawful}
use Rattle.usb_xhc.specs.Slots.{DeviceSlot, slot_renewed}
use Rattle.usb_xhc.proofs.Renewed.{changed_to}
use Rattle.usb_xhc.proofs.renewal.renew_slots.Given as goal

abbrev pub invariant-loop-slot : goal.invariant-loop-slot
invariant-loop-slot g l = (l.slots ≡ changed_to slot_renewed l.slot-index l.fn.slots) × ((d : ℕ) (s : DeviceSlot) → d < l.slot-index → slice_get l.slots d ≡ Some s → IsLawful s.pipes)
