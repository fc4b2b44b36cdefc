-- The first packet.
use Rattle.std.proofs.Common.{◌≡◌, length}
use Rattle.usb_model.proofs.Alikes.{one_packet}
use Rattle.usb_model.proofs.share.Alike.with.Goals as goal

pub returns-in-Nothing-Data : goal.returns-in-Nothing-Data
returns-in-Nothing-Data c xs all = rw (c.in-Nothing-Data.is-1, c.len.ensures) (one_packet xs _ (rw c.in-Nothing-Data.is-0 at all))
