-- The endpoints so far, made of the rooms and scripts so far.
use Rattle.std.proofs.Common.{◌≡◌, vec_capacity}
use Rattle.std.specs.Vec.Iter.{into_iter_items}
use Rattle.usb_device.proofs.Filled.{IsFilling}
use Rattle.usb_device.proofs.table.TableDevice.new.Given as goal

abbrev pub invariant-loop-room : goal.invariant-loop-room
invariant-loop-room l = record {
  reserved : vec_capacity l.pipes ≡ 32;
  filling : IsFilling l.config l.fn.scripts l.pipes.items l.yielded (into_iter_items l.room-iterator) (into_iter_items l.scripts);
}
