use Rattle.trace_scenario.proofs.Runnables.{scenarios_runnable}
use Rattle.trace_scenario.proofs.laws.scenarios.Goals as goal

pub returns : goal.returns
returns c = scenarios_runnable
