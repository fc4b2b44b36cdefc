-- The blocks of the rest are left to read.
use Rattle.std.proofs.Common.{length}
use Rattle.trace_recorded.specs.Files.{blocks_behind, nothing_read}
use Rattle.trace_recorded.proofs.FilesRead.{BlocksAreLeft}
use Rattle.trace_recorded.proofs.pcapng.blocks.Given as goal

abbrev pub invariant-loop-rest : goal.invariant-loop-rest
invariant-loop-rest l = BlocksAreLeft (blocks_behind (length l.fn.bytes) nothing_read l.fn.bytes) l.reading l.rest

abbrev pub decreases-loop-rest : goal.decreases-loop-rest
decreases-loop-rest l = length l.rest
