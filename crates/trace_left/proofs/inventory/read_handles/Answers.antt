-- All names were read.
use Rattle.std.proofs.Common.{arith, ap, ◌∙◌}
use Rattle.trace_left.specs.Gathered.{handles_read}
use Rattle.trace_left.proofs.inventory.read_handles.Goals as goal

pub returns : goal.returns
returns g c = λ setup w shown. c.loop-number.invariant setup w shown ∙ ap (handles_read setup w) (omega (arith, c.loop-number-test.false, c.loop-number.auto.number-end))
