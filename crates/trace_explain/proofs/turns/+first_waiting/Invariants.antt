use Rattle.std.proofs.Common.{length}
use Rattle.trace_explain.proofs.turns.+first_waiting.Given as goal

-- the transfers that are left
abbrev pub decreases-first_waiting : goal.decreases-first_waiting
decreases-first_waiting l = length l.line.now
