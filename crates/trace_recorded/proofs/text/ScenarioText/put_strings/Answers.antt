-- A string more, and the end.
use Rattle.std.proofs.Common.{arith}
use Rattle.trace_recorded.specs.DeviceText.{string_line}
use Rattle.trace_recorded.proofs.Joined.{joined_next, joined_end}
use Rattle.trace_recorded.proofs.text.ScenarioText.put_strings.Goals as goal

pub loop-string-preserved : goal.loop-string-preserved
loop-string-preserved c =
    joined_next (string_line c.args.number) c.loop-string.self _ _ c.args.strings.now c.loop-string.string-index c.string-item.result c.loop-string-test.true c.string-item.is c.in_ok-put_string.ensures c.loop-string.invariant

pub returns : goal.returns
returns c = joined_end (string_line c.args.number) _ _ c.args.strings.now c.loop-string.string-index (omega arith) c.loop-string.invariant
