-- With the lines that are left they are all.
use Rattle.std.proofs.Common.{◌≡◌, ◌++◌, drop}
use Rattle.std.specs.List.{flat_map}
use Rattle.trace_recorded.specs.DeviceText.{wait_line}
use Rattle.trace_recorded.proofs.text.ScenarioText.put_endpoint_waits.Given as goal

abbrev pub invariant-loop-wait : goal.invariant-loop-wait
invariant-loop-wait l = l.self ++ flat_map (wait_line l.number l.ep) (drop l.wait-index l.waits) ≡ l.fn.self ++ flat_map (wait_line l.number l.ep) l.waits
