use Rattle.std.proofs.Common.{rules}
use Rattle.usb_receipts.proofs.Moves.{takes}
use Rattle.usb_receipts.proofs.seats.take_in.Goals as goal

pub join_seat-requires : goal.join_seat-requires
join_seat-requires g c = (c.requires.log.0, c.requires.other.0, c.requires.other.1, search rules, λ s h at apart there. takes _ s.homes s.views _ _ _ _ h at apart there)
