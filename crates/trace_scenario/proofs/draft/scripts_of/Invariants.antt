use Rattle.std.proofs.Common.{◌≡◌, take, sum_by}
use Rattle.trace_scenario.specs.Counts.{written_scripts}
use Rattle.trace_scenario.proofs.draft.scripts_of.Given as goal

abbrev pub invariant-loop-device : goal.invariant-loop-device
invariant-loop-device l = l.count ≡ sum_by (λ device. written_scripts device.scripts) (take l.device-index l.devices)
