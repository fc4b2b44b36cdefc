-- No transfer is anywhere at first.
use Rattle.std.proofs.Common.{arith}
use Rattle.usb_tables.proofs.Shown.{new-shown}
use Rattle.usb_tables.proofs.Stands.{none-stand}
use Rattle.usb_tables.proofs.flights.TransfersInFlight.new.Goals as goal

pub invariant_of-result : goal.invariant_of-result
invariant_of-result g c = (
  none-stand c.new-3.result c.in_ok-new.field-0 c.new-2.result.items c.new-3.ensures c.in_ok-new.ensures c.new-2.ensures.items,
  rw c.new-3.ensures (omega arith),
)

pub returns : goal.returns
returns g c = new-shown c.new-3.result c.in_ok-new.field-0 c.new-2.result.items c.new-3.ensures c.in_ok-new.ensures c.new-2.ensures.items
