-- By its parts.
use Rattle.trace_capture.proofs.Records.{length-event_bytes, bytes_of_record}
use Rattle.trace_capture.proofs.laws.records.Goals as goal

pub returns-clause-lengths : goal.returns-clause-lengths
returns-clause-lengths c = length-event_bytes

pub returns-clause-bytes : goal.returns-clause-bytes
returns-clause-bytes c = bytes_of_record
