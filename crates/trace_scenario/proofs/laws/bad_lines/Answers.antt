use Rattle.std.specs.List.{slice_split}
use Rattle.std.proofs.Common.{◌==◌}
use Rattle.trace_scenario.specs.Scenario.{nothing_said}
use Rattle.trace_scenario.proofs.GoodAndBad.{none_bad, scenario_good, first_bad}
use Rattle.trace_scenario.proofs.laws.bad_lines.Goals as goal

pub returns-clause-none : goal.returns-clause-none
returns-clause-none c text none = none_bad 1 nothing_said (slice_split (λ b. b == 10) text) none

pub returns-clause-scenario : goal.returns-clause-scenario
returns-clause-scenario c text s ok = scenario_good 1 nothing_said s (slice_split (λ b. b == 10) text) ok

pub returns-clause-first : goal.returns-clause-first
returns-clause-first c text line err = first_bad 1 nothing_said line (slice_split (λ b. b == 10) text) err
