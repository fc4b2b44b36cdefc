use Rattle.std.proofs.Common.{rules}
use Rattle.reference.proofs.result.bytes_read.Goals as goal

pub returns-in-Out : goal.returns-in-Out
returns-in-Out c = search rules fits 100
