-- With the scripts that are left they are all.
use Rattle.std.proofs.Common.{◌≡◌, ◌++◌, drop}
use Rattle.std.specs.List.{flat_map}
use Rattle.trace_recorded.specs.Lines.{script_line}
use Rattle.trace_recorded.proofs.text.ScenarioText.put_scripts.Given as goal

abbrev pub invariant-loop-endpoint : goal.invariant-loop-endpoint
invariant-loop-endpoint l = l.self ++ flat_map (script_line l.number) (drop l.endpoint-index l.endpoints) ≡ l.fn.self ++ flat_map (script_line l.number) l.endpoints
