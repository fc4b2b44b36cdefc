-- The bytes read join for IN; OUT changes nothing.
use Rattle.std.proofs.Common.{refl, arith}
use Rattle.usb_core.proofs.packets.exchange.Goals as goal

pub returns-in-In-clause-transfer : goal.returns-in-In-clause-transfer
returns-in-In-clause-transfer g c = record { rest = refl; items = rw c.in-In.is c.serve_in.ensures.bytes; room = c.serve_in.ensures.capacity; lent = c.serve_in.ensures.lent }

pub returns-in-Out-clause-transfer : goal.returns-in-Out-clause-transfer
returns-in-Out-clause-transfer g c = record { rest = refl; items = rw c.in-Out.is refl; room = omega arith; lent = refl }
