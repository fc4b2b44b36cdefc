use Rattle.std.proofs.Common.{rules}
use Rattle.usb_receipts.proofs.Moves.{gives}
use Rattle.usb_receipts.proofs.seats.give_number.Goals as goal

pub split_seat-requires : goal.split_seat-requires
split_seat-requires g c = (c.requires.log.0, search rules, λ s h at. gives _ s.homes s.views _ _ c.requires.keeper h at)
