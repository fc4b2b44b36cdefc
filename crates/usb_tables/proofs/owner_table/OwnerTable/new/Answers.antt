-- All owners are nobody.
use Rattle.usb_tables.proofs.Owners.{all_none}
use Rattle.usb_tables.proofs.owner_table.OwnerTable.new.Goals as goal

pub returns : goal.returns
returns c = all_none c.loop.owners.items c.loop.invariant.unheld
