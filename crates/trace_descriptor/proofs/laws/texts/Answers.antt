-- The comments say nothing, and the line is the device's.
use Rattle.trace_descriptor.proofs.Taken.{texts_are_scenarios}
use Rattle.trace_descriptor.proofs.laws.texts.Goals as goal

pub returns : goal.returns
returns c = texts_are_scenarios
