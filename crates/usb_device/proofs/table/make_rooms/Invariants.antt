-- Room for the ids so far.
use Rattle.std.proofs.Common.{◌≡◌, map}
use Rattle.std.specs.List.{range_with_len}
use Rattle.usb_device.specs.Scripts.{room_of}
use Rattle.usb_device.proofs.table.make_rooms.Given as goal

abbrev pub invariant-loop-id : goal.invariant-loop-id
invariant-loop-id l = l.rooms.items ≡ map (room_of l.config l.scripts) (range_with_len 0 l.id)
