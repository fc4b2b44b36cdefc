-- A comment more, and the end.
use Rattle.std.proofs.Common.{arith}
use Rattle.trace_recorded.specs.DescribedText.{source_line}
use Rattle.trace_recorded.proofs.Joined.{joined_next, joined_end}
use Rattle.trace_recorded.proofs.text.ScenarioText.put_sources.Goals as goal

pub loop-known-preserved : goal.loop-known-preserved
loop-known-preserved c =
    joined_next (source_line c.args.reader c.args.file.now) c.loop-known.self _ _ c.args.missing.now c.loop-known.known-index c.known-item.result c.loop-known-test.true c.known-item.is c.in_ok-put_source.ensures c.loop-known.invariant

pub returns : goal.returns
returns c = joined_end (source_line c.args.reader c.args.file.now) _ _ c.args.missing.now c.loop-known.known-index (omega arith) c.loop-known.invariant
