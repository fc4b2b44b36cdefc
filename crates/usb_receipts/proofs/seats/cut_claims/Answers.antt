use Rattle.std.proofs.Common.{rules}
use Rattle.usb_receipts.proofs.Moves.{cuts}
use Rattle.usb_receipts.proofs.seats.cut_claims.Goals as goal

pub split_seat-requires : goal.split_seat-requires
split_seat-requires g c = (c.requires.log.0, search rules, λ s h at. cuts _ s.homes s.views _ _ h at)
