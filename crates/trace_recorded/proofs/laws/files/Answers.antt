-- Record by record.
use Rattle.trace_recorded.proofs.FilesReadBack.{files_read_back}
use Rattle.trace_recorded.proofs.laws.files.Goals as goal

pub returns : goal.returns
returns c = files_read_back
