use Rattle.std.proofs.Common.{◌≡◌, length, slice_get, subst}
use Rattle.std.specs.Option.{option_map_or}
use Rattle.usb_journal.specs.Booked.{Booked, world_where}
use Rattle.usb_journal.proofs.book.JournaledCore.next_len.Goals as goal

pub returns : goal.returns
returns g c =
    subst (λ (b : Booked g.row.P.Denot). c.next_len.result ≡ option_map_or (λ t. length t.piece.bytes) (slice_get (world_where b.setup b.journal).results 0) 0) c.self.view_is
    (c.next_len.ensures g.L.Naming.setup (world_where g.L.Naming.setup c.self.inside.log.journal) c.self.invariant.0.1)
