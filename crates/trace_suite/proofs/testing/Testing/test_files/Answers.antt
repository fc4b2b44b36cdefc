-- One file more at each turn.
use Rattle.std.proofs.Common.{arith}
use Rattle.trace_suite.specs.Tests.{CountsFile}
use Rattle.trace_suite.proofs.Counting.{a_file_more, all_of_them, none_yet}
use Rattle.trace_suite.proofs.testing.Testing.test_files.Goals as goal

pub loop-file-init : goal.loop-file-init
loop-file-init g c = λ none. (none_yet _ CountsFile c.args.self.now.counting, none)

pub loop-file-preserved : goal.loop-file-preserved
loop-file-preserved g c =
    a_file_more c.args.files.now c.loop-file.file-index c.args.self.now.counting c.loop-file.self.counting c.test_file.new.self.counting c.loop-file-test.true c.loop-file.invariant c.in_ok-test_file.ensures

pub returns : goal.returns
returns g c = λ none. all_of_them CountsFile c.args.files.now c.loop-file.file-index c.args.self.now.counting c.loop-file.self.counting (omega arith) (c.loop-file.invariant none).0
