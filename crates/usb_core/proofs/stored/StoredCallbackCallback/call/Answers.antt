-- A repeating callback comes back.
use Rattle.std.proofs.Common.{rules}
use Rattle.usb_core.proofs.stored.StoredCallbackCallback.call.Goals as goal

pub returns-in-Repeating-clause-back : goal.returns-in-Repeating-clause-back
returns-in-Repeating-clause-back g c = search rules
