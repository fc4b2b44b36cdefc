use Rattle.std.proofs.Common.{ap, sym, subst}
use Rattle.usb_core.specs.Public.{IsPending}
use Rattle.usb_journal.specs.Booked.{world_where}
use Rattle.usb_journal.proofs.book.JournaledCore.look.Goals as goal

pub returns-clause-pending : goal.returns-clause-pending
returns-clause-pending g c =
    let setup = g.L.Naming.setup in
    let w = world_where setup c.self.inside.log.journal in
    subst (λ seen. IsPending setup (world_where setup seen) c.args.after c.pending.result) (sym (ap (λ p. p.seen) c.look_behind.ensures.position)) (c.pending.ensures setup w c.self.invariant.0.1)
