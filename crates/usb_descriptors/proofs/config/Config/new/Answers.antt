-- The empty table.
use Rattle.usb_descriptors.proofs.Tables.{IsTable-nil}
use Rattle.usb_descriptors.proofs.config.Config.new.Goals as goal

pub invariant_of-result : goal.invariant_of-result
invariant_of-result c = rw c.new-2.ensures IsTable-nil
