use Rattle.std.proofs.Common.{rules}
use Rattle.usb_receipts.proofs.Moves.{remembers}
use Rattle.usb_receipts.proofs.seats.remember.Goals as goal

pub split_seat-requires : goal.split_seat-requires
split_seat-requires g c = (c.requires.log, search rules, λ s h at. remembers _ s.homes s.views _ _ h at)
