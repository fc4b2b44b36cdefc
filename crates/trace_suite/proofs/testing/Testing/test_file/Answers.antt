-- A file that is read is tested by its text.
use Rattle.trace_suite.specs.Tests as T
use Rattle.trace_suite.proofs.Counting.{further}
use Rattle.trace_suite.proofs.testing.Testing.test_file.Goals as goal

pub returns-in-Ok-inserted : goal.returns-in-Ok-inserted
returns-in-Ok-inserted g c = further c.test_or_update.result (λ counted none. T.CountsFile.read _ (counted none)) c.test_or_update.ensures
