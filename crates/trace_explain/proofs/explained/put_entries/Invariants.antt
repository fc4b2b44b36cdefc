use Rattle.std.proofs.Common.{◌≡◌, ◌++◌, take}
use Rattle.std.specs.List.{flat_map}
use Rattle.trace_explain.specs.Explained.{told_entry}
use Rattle.trace_scenario.specs.StepLines.{numbered}
use Rattle.trace_explain.proofs.explained.put_entries.Given as goal

abbrev pub invariant-loop-entry : goal.invariant-loop-entry
invariant-loop-entry l = l.text.items ≡ l.initial.text.items ++ flat_map (told_entry l.telling (numbered l.line)) (take l.entry-index l.entries)
