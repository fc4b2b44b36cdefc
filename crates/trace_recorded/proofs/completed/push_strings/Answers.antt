-- A string more, and the end.
use Rattle.std.proofs.Common.{arith}
use Rattle.trace_recorded.specs.Described.{missing_string}
use Rattle.trace_recorded.proofs.Joined.{joined_next, joined_end}
use Rattle.trace_recorded.proofs.completed.push_strings.Goals as goal

pub loop-string-preserved : goal.loop-string-preserved
loop-string-preserved c =
    joined_next (missing_string c.args.identity.now) c.loop-string.missing _ _ c.args.strings.now c.loop-string.string-index c.string-item.result c.loop-string-test.true c.string-item.is c.in_ok-push_string.ensures c.loop-string.invariant

pub returns : goal.returns
returns c = joined_end (missing_string c.args.identity.now) _ _ c.args.strings.now c.loop-string.string-index (omega arith) c.loop-string.invariant
