-- An owner that is written.
use Rattle.std.proofs.Common.{arith}
use Rattle.usb_tables.proofs.Owners.{owner_put}
use Rattle.usb_tables.proofs.owner_table.OwnerTable.set.Goals as goal

pub returns : goal.returns
returns c = λ d k. rw (c.place.ensures.value, ← c.self.view_is) (owner_put c.self.inside.owners.items c.args.owner c.args.dev c.args.i d k (omega arith) (omega arith) c.self.invariant)
