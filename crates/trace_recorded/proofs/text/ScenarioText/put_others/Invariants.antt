-- The notes so far.
use Rattle.std.proofs.Common.{◌≡◌, ◌++◌}
use Rattle.trace_recorded.specs.Lines.{other_notes}
use Rattle.trace_recorded.proofs.text.ScenarioText.put_others.Given as goal

abbrev pub invariant-loop-ep : goal.invariant-loop-ep
invariant-loop-ep l = l.self ≡ l.fn.self ++ other_notes l.others l.ep
