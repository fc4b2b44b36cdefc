-- With the lines that are left they are all.
use Rattle.std.proofs.Common.{◌≡◌, ◌++◌, drop}
use Rattle.std.specs.List.{flat_map}
use Rattle.trace_recorded.specs.DeviceText.{wait_lines}
use Rattle.trace_recorded.proofs.text.ScenarioText.put_waits.Given as goal

abbrev pub invariant-loop-endpoint : goal.invariant-loop-endpoint
invariant-loop-endpoint l = l.self ++ flat_map (wait_lines l.number) (drop l.endpoint-index l.endpoints) ≡ l.fn.self ++ flat_map (wait_lines l.number) l.endpoints
