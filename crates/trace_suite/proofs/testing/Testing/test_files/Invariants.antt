-- The files so far were tested one behind the other.
use Rattle.std.proofs.Common.{◌≡◌, false, take}
use Rattle.trace_suite.specs.Tests.{CountsFiles}
use Rattle.trace_suite.proofs.testing.Testing.test_files.Given as goal

abbrev pub invariant-loop-file : goal.invariant-loop-file
invariant-loop-file g l = l.initial.self.counting.is_update ≡ false → CountsFiles (take l.file-index l.files) l.initial.self.counting l.self.counting × (l.self.counting.is_update ≡ false)
