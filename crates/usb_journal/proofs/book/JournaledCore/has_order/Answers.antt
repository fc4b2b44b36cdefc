use Rattle.std.proofs.Common.{subst, ◌≡◌}
use Rattle.usb_model.specs.declared.step.Step.TheVariants.{Command}
use Rattle.usb_core.specs.Public.{does_something}
use Rattle.usb_journal.specs.Booked.{Booked, world_where}
use Rattle.usb_journal.proofs.book.JournaledCore.has_order.Goals as goal

pub returns : goal.returns
returns g c =
    subst (λ (b : Booked g.row.P.Denot). c.has_order.result ≡ does_something b.setup (world_where b.setup b.journal) Command) c.self.view_is
    (c.has_order.ensures g.L.Naming.setup (world_where g.L.Naming.setup c.self.inside.log.journal) c.self.invariant.0.1)
