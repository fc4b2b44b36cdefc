use Rattle.std.proofs.Common.{length}
use Rattle.reference.proofs.line.+in_progress.Given as goal

-- the transfers that are left
abbrev pub decreases-in_progress : goal.decreases-in_progress
decreases-in_progress l = length l.line.now
