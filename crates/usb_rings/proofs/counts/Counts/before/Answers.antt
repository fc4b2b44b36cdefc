use Rattle.std.proofs.Common.{arith, ◌+◌}
use Rattle.usb_rings.proofs.Totals.{total-more, total-part}
use Rattle.usb_rings.proofs.counts.Counts.before.Goals as goal

pub overflow_add-all : goal.overflow_add-all
overflow_add-all c =
    let more = total-more c.args.self.now c.loop-k.k (omega arith) in
    let part = total-part c.args.self.now (c.loop-k.k + 1) in
    omega (arith, c.loop-k.invariant)

pub loop-k-preserved : goal.loop-k-preserved
loop-k-preserved c =
    let more = total-more c.args.self.now c.loop-k.k (omega arith) in
    omega (arith, c.loop-k.invariant)
