use Rattle.std.proofs.Common.{length}
use Rattle.trace_judged.proofs.expected.+in_common.Given as goal

abbrev pub decreases-in_common : goal.decreases-in_common
decreases-in_common l = length l.expected.now
