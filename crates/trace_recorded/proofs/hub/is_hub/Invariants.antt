-- The descriptors of the rest lead to the answer.
use Rattle.std.proofs.Common.{length}
use Rattle.trace_recorded.specs.Devices.{is_hub}
use Rattle.trace_recorded.proofs.Hubs.{PiecesAreLeft}
use Rattle.trace_recorded.proofs.hub.is_hub.Given as goal

abbrev pub invariant-pieces : goal.invariant-pieces
invariant-pieces l = PiecesAreLeft (is_hub l.fn.descriptor) l.found l.rest

abbrev pub decreases-pieces : goal.decreases-pieces
decreases-pieces l = length l.rest
