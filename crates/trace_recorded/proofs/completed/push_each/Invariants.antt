-- With the configurations that are left they are all.
use Rattle.std.proofs.Common.{◌≡◌, ◌++◌, drop}
use Rattle.std.specs.List.{flat_map}
use Rattle.trace_recorded.specs.Described.{configuration_known}
use Rattle.trace_recorded.proofs.completed.push_each.Given as goal

abbrev pub invariant-loop-configuration : goal.invariant-loop-configuration
invariant-loop-configuration l = l.missing ++ flat_map configuration_known (drop l.configuration-index l.configurations) ≡ l.fn.missing ++ flat_map configuration_known l.configurations
