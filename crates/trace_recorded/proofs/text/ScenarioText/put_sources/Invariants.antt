-- With the comments that are left they are all.
use Rattle.std.proofs.Common.{◌≡◌, ◌++◌, drop}
use Rattle.std.specs.List.{flat_map}
use Rattle.trace_recorded.specs.DescribedText.{source_line, source_lines}
use Rattle.trace_recorded.proofs.text.ScenarioText.put_sources.Given as goal

abbrev pub invariant-loop-known : goal.invariant-loop-known
invariant-loop-known l = l.self ++ flat_map (source_line l.reader l.file) (drop l.known-index l.missing) ≡ l.fn.self ++ source_lines l.reader l.file l.missing
