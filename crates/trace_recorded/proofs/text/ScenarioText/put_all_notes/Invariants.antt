-- With the notes of the endpoints that are left they are all.
use Rattle.std.proofs.Common.{◌≡◌, ◌++◌, drop}
use Rattle.std.specs.List.{flat_map}
use Rattle.trace_recorded.specs.Lines.{endpoint_notes}
use Rattle.trace_recorded.proofs.text.ScenarioText.put_all_notes.Given as goal

abbrev pub invariant-loop-endpoint : goal.invariant-loop-endpoint
invariant-loop-endpoint l = l.self ++ flat_map endpoint_notes (drop l.endpoint-index l.endpoints) ≡ l.fn.self ++ flat_map endpoint_notes l.endpoints
