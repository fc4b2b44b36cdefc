-- The place of a receipt is that of what contracts see of it.
use Rattle.std.proofs.Common.{ap}
use Rattle.usb_journal.specs.Seen.{Receipted}
use Rattle.usb_journal.proofs.receipt.Receipt.place.Goals as goal

pub returns : goal.returns
returns g c = ap (λ (r : Receipted). r.place) c.self.view_is
