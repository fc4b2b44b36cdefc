-- An interface more, and the end.
use Rattle.std.proofs.Common.{arith}
use Rattle.std.proofs.lemmas.List.{get_or_default}
use Rattle.trace_descriptor.specs.Lines.{interface_comments}
use Rattle.trace_descriptor.proofs.Joined.{joined_next, joined_end}
use Rattle.trace_descriptor.proofs.text.DescriptorText.put_interfaces.Goals as goal

pub loop-number-preserved : goal.loop-number-preserved
loop-number-preserved c =
    joined_next (interface_comments c.args.endpoints.now c.args.settings.now) c.loop-number.self _ _ c.args.numbers.now c.loop-number.number-index _ c.loop-number-test.true (get_or_default c.args.numbers.now c.loop-number.number-index 0 _ c.loop-number-test.true) c.in_ok-put_whole_interface.ensures c.loop-number.invariant

pub returns : goal.returns
returns c = joined_end (interface_comments c.args.endpoints.now c.args.settings.now) _ _ c.args.numbers.now c.loop-number.number-index (omega arith) c.loop-number.invariant
