-- A read moves the packet of the answer, a write what the device receives.
use Rattle.reference.proofs.GoingOn.{read_on, write_on}
use Rattle.reference.proofs.moved.packets_on.Goals as goal

pub returns-in-In : goal.returns-in-In
returns-in-In c =
    rw (read_on c.args.size _ c.args.endpoint.now c.args.item.now c.args.progress c.requires c.in-In.is)
    (rw c.as_slice.ensures at c.data_now.ensures)
