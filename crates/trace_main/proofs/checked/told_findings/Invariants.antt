use Rattle.std.proofs.Common.{◌≡◌, map, take}
use Rattle.trace_scenario.specs.declared.findings.Finding.{Finding}
use Rattle.trace_main.specs.Source.{told_number}
use Rattle.trace_main.proofs.checked.told_findings.Given as goal

abbrev pub invariant-loop-finding : goal.invariant-loop-finding
invariant-loop-finding l = map (λ (f : Finding). f.line) l.told.items ≡ map (told_number l.source) (map (λ (f : Finding). f.line) (take l.finding-index l.bad))
