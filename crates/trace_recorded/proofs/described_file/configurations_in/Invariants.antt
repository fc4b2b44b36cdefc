-- The configurations of the rest are left to read.
use Rattle.std.proofs.Common.{length}
use Rattle.trace_recorded.specs.DescribedFiles.{configurations_in}
use Rattle.trace_recorded.proofs.DescribedRead.{ConfigurationsAreLeft}
use Rattle.trace_recorded.proofs.described_file.configurations_in.Given as goal

abbrev pub invariant-configurations : goal.invariant-configurations
invariant-configurations l = ConfigurationsAreLeft (configurations_in l.fn.bytes) l.found l.rest

abbrev pub decreases-configurations : goal.decreases-configurations
decreases-configurations l = length l.rest
