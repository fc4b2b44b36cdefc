-- The same transfers are counted.
use Rattle.usb_tables.proofs.Counts.{counted_reordered}
use Rattle.usb_tables.proofs.caller.HandleState.reserve_callback.Goals as goal

pub invariant_of-self : goal.invariant_of-self
invariant_of-self c = counted_reordered c.self.inside.callbacks c.self.inside.running.entries c.reserve.new.self.entries c.reserve.ensures.entries.0 c.self.invariant
