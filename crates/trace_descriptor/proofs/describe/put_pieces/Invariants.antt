-- Each turn leaves fewer bytes.
use Rattle.std.proofs.Common.{length}
use Rattle.trace_descriptor.proofs.describe.put_pieces.Given as goal

abbrev pub decreases-pieces : goal.decreases-pieces
decreases-pieces l = length l.rest
