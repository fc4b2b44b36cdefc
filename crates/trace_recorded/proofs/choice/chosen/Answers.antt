-- A device more, and the end.
use Rattle.std.proofs.Common.{ap, ◌∙◌}
use Rattle.trace_recorded.specs.Choices.{found_in, with_found_device, with_seen}
use Rattle.trace_recorded.proofs.Folded.{taken_next, taken_end}
use Rattle.trace_recorded.proofs.choice.chosen.Goals as goal

pub loop-key-preserved : goal.loop-key-preserved
loop-key-preserved c =
    taken_next (with_found_device c.args.choice.now) c.loop-key.search _ _ (c.in-Some.key, c.in-Some.events) _ _ c.in-Some.ensures.steps
    (c.put.ensures ∙ ap (λ seen. with_seen c.args.choice.now seen c.loop-key.search) c.in_ok-read.ensures) c.loop-key.invariant

pub returns : goal.returns
returns c = c.found.ensures ∙ ap found_in (taken_end (with_found_device c.args.choice.now) _ _ _ c.in-None.ensures.steps.0 c.loop-key.invariant)
