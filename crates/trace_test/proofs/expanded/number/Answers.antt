use Rattle.std.proofs.Common.{sym}
use Rattle.trace_test.proofs.Calls.{u32-utf8}
use Rattle.trace_test.proofs.expanded.number.Goals as goal

pub returns-in-Err : goal.returns-in-Err
returns-in-Err c = sym (u32-utf8 c.args.word.now c.in-Err.ensures.cases.0)
