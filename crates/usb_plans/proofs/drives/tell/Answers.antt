-- One entry, or two.
use Rattle.usb_plans.proofs.Reached.{one_told, two_told}
use Rattle.usb_plans.proofs.drives.tell.Goals as goal

pub returns-in_default : goal.returns-in_default
returns-in_default g c = one_told c.args.performed c.args.entries.now.items c.put.new.entries.items c.in_default.is c.put.ensures.items

pub returns : goal.returns
returns g c = two_told c.args.performed c.in-Some.stop c.args.entries.now.items c.put.new.entries.items c.put-2.new.entries.items c.in-Some.is c.put.ensures.items c.put-2.ensures.items
