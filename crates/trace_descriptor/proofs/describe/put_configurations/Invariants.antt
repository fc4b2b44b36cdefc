-- Each turn leaves fewer bytes.
use Rattle.std.proofs.Common.{length}
use Rattle.trace_descriptor.proofs.describe.put_configurations.Given as goal

abbrev pub decreases-configurations : goal.decreases-configurations
decreases-configurations l = length l.rest
