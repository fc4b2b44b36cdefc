-- What came of tests couldn't be told.
use Rattle.std.proofs.Common.{inr, refl}
use Rattle.trace_suite.proofs.testing.run_tests.Goals as goal

pub returns : goal.returns
returns g c = λ none. inr refl
