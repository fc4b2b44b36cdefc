-- All places are made.
use Rattle.std.proofs.Common.{arith}
use Rattle.usb_tables.proofs.Endpoints.{index_made}
use Rattle.usb_tables.proofs.endpoint_table.EndpointTable.new.Goals as goal

pub returns : goal.returns
returns c = index_made c.args.configs.now c.loop-at.interfaces.items
    (λ k lt. c.loop-at.invariant.each k (omega arith))
    (λ k e lt odd. c.loop-at.invariant.plain k e (omega arith) odd)
