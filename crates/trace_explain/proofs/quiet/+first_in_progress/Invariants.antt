use Rattle.std.proofs.Common.{length}
use Rattle.trace_explain.proofs.quiet.+first_in_progress.Given as goal

-- the line that is left
abbrev pub decreases-first_in_progress : goal.decreases-first_in_progress
decreases-first_in_progress l = length l.line.now
