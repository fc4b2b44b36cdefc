-- The records of the rest are left to read.
use Rattle.std.proofs.Common.{length}
use Rattle.trace_recorded.specs.Files.{records}
use Rattle.trace_recorded.proofs.FilesRead.{RecordsAreLeft}
use Rattle.trace_recorded.proofs.pcap.records.Given as goal

abbrev pub invariant-records : goal.invariant-records
invariant-records l = RecordsAreLeft l.order l.header (records l.fn.order l.fn.header l.fn.bytes) l.frame l.events l.rest

abbrev pub decreases-records : goal.decreases-records
decreases-records l = length l.rest
