-- A test that isn't rewritten is counted.
use Rattle.trace_suite.proofs.Counting.{further}
use Rattle.trace_suite.proofs.testing.Testing.test_or_update.Goals as goal

pub returns-else-self : goal.returns-else-self
returns-else-self g c = further c.test_text.result (λ counted none. counted) c.test_text.ensures
