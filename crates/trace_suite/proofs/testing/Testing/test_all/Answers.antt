-- One path more at each turn.
use Rattle.trace_suite.specs.Tests.{CountsPath}
use Rattle.trace_suite.proofs.Counting.{a_path_more, none_yet}
use Rattle.trace_suite.proofs.testing.Testing.test_all.Goals as goal

pub loop-file-init : goal.loop-file-init
loop-file-init g c = λ none. (none_yet _ CountsPath c.args.self.now.counting, none)

pub loop-file-preserved : goal.loop-file-preserved
loop-file-preserved g c =
    a_path_more c.args.files.now c.loop-file.file-index c.args.self.now.counting c.loop-file.self.counting c.test_path.new.self.counting c.loop-file-test.true c.loop-file.invariant c.in_ok-test_path.ensures
