use Rattle.std.proofs.Common.{arith}
use Rattle.usb_receipts.proofs.Moves.{owned_fresh}
use Rattle.usb_receipts.proofs.log.Log.position.Goals as goal

pub returns-clause-empty : goal.returns-clause-empty
returns-clause-empty g c = rw (← c.keeper.view_is) (owned_fresh _ _ _ _ c.check.ensures.checked.given (omega arith))
