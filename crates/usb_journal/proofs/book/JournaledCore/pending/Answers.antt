use Rattle.std.proofs.Common.{◌≡◌, refl, subst}
use Rattle.usb_core.specs.Public.{IsPending}
use Rattle.usb_journal.specs.Booked.{Booked, IsRun, world_where}
use Rattle.usb_journal.proofs.book.JournaledCore.pending.Goals as goal

pub returns-clause-pending : goal.returns-clause-pending
returns-clause-pending g c =
    subst (λ (b : Booked g.row.P.Denot). IsPending b.setup (world_where b.setup b.journal) c.args.after c.pending.result) c.self.view_is
    (c.pending.ensures g.L.Naming.setup (world_where g.L.Naming.setup c.self.inside.log.journal) c.self.invariant.0.1)

pub returns-clause-run : goal.returns-clause-run
returns-clause-run g c = subst (λ (b : Booked g.row.P.Denot). IsRun b.setup b.journal) c.self.view_is c.self.invariant.0.0

pub returns-clause-setup : goal.returns-clause-setup
returns-clause-setup g c = subst (λ (b : Booked g.row.P.Denot). b.setup ≡ g.L.Naming.setup) c.self.view_is refl
