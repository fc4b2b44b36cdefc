-- What came of the test is counted.
use Rattle.trace_suite.specs.Tests as T
use Rattle.trace_suite.proofs.Counting.{further}
use Rattle.trace_suite.proofs.testing.Testing.test_text.Goals as goal

pub returns-in-Ok : goal.returns-in-Ok
returns-in-Ok g c = further c.tell.result (λ is. T.CountsTest.tested c.in-Ok.outcome c.in-Ok.ensures.outcome is) c.tell.ensures

pub returns-in-Err : goal.returns-in-Err
returns-in-Err g c = further c.refuse_text.result (λ is. T.CountsTest.ended c.in-Err.fault c.in-Err.ensures.fault is) c.refuse_text.ensures
