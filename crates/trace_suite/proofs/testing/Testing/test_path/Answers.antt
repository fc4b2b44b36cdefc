-- A folder or a file.
use Rattle.trace_suite.specs.Tests as T
use Rattle.trace_suite.proofs.Counting.{further}
use Rattle.trace_suite.proofs.testing.Testing.test_path.Goals as goal

pub returns-then-is_folder : goal.returns-then-is_folder
returns-then-is_folder g c = further c.test_folder.result (λ counted none. T.CountsPath.folder (counted none)) c.test_folder.ensures

pub returns : goal.returns
returns g c = further c.test_file.result (λ counted none. T.CountsPath.file (counted none)) c.test_file.ensures
