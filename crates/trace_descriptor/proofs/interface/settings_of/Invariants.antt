-- The descriptors of the rest say what is missing.
use Rattle.std.proofs.Common.{length}
use Rattle.trace_descriptor.specs.Interfaces.{settings_of}
use Rattle.trace_descriptor.proofs.Settings.{PiecesAreLeft}
use Rattle.trace_descriptor.proofs.interface.settings_of.Given as goal

abbrev pub invariant-pieces : goal.invariant-pieces
invariant-pieces l = PiecesAreLeft (settings_of l.fn.configuration) l.found.items l.rest

abbrev pub decreases-pieces : goal.decreases-pieces
decreases-pieces l = length l.rest
