-- A device more, and the end.
use Rattle.std.proofs.Common.{ap, ◌∙◌}
use Rattle.trace_recorded.specs.Scenario.{with_found}
use Rattle.trace_recorded.proofs.Folded.{taken_next, taken_end}
use Rattle.trace_recorded.proofs.scenario.read_listing.Goals as goal

pub loop-key-preserved : goal.loop-key-preserved
loop-key-preserved c = taken_next with_found c.loop-key.listing _ _ (c.in-Some.key, c.in-Some.events) _ _ c.in-Some.ensures.steps (c.in_ok-read.ensures ∙ ap (λ events. with_found (c.in-Some.key, events) c.loop-key.listing) c.as_slice.ensures) c.loop-key.invariant

pub returns : goal.returns
returns c = taken_end with_found _ _ _ c.in-None.ensures.steps.0 c.loop-key.invariant
