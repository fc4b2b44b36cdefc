use Rattle.std.proofs.Common.{rules, refl}
use Rattle.atomic_table.specs.Table.{keeps}
use Rattle.usb_receipts.specs.Rule.{settled}
use Rattle.usb_receipts.proofs.Moves.{settles, checks}
use Rattle.usb_receipts.proofs.seats.check.Goals as goal

pub load-found-requires : goal.load-found-requires
load-found-requires g c = (
  c.requires.log.0,
  search rules,
  λ s h n at lt. (settled c.args.token.now.me.0, keeps, tt, settles _ s.homes s.views _ _ c.requires.keeper h at, (refl, checks _ s.homes s.views _ _ c.requires.keeper h at)),
)
