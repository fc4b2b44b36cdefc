use Rattle.std.proofs.Common.{subst}
use Rattle.usb_journal.specs.Booked.{world_where}
use Rattle.usb_workers.specs.Life.{AreAll}
use Rattle.usb_workers.proofs.life.ended.Goals as goal

pub returns-clause-callers : goal.returns-clause-callers
returns-clause-callers g c =
    subst (λ cs. AreAll c.in-Ok.ended.journal cs) c.in_ok-callers.ensures.callers (record { knows = c.in-Ok.ensures.own; numbers = c.in-Ok.ensures.numbers; counted = c.in-Ok.ensures.counted.0 })

pub returns-clause-rest : goal.returns-clause-rest
returns-clause-rest g c =
    let is = c.is_at_rest-at_rest.ensures g.L.Naming.setup (world_where g.L.Naming.setup c.in-Ok.ended.journal) c.in-Ok.ensures.core in
    record { rests = is.0; shown = is.1 }
