use Rattle.std.proofs.Common.{◌≡◌, length, map, take}
use Rattle.trace_scenario.specs.StepLines.{numbered}
use Rattle.trace_main.specs.Source.{told_lines, told_number}
use Rattle.trace_main.proofs.source.Source.told.Given as goal

abbrev pub invariant-loop-line : goal.invariant-loop-line
invariant-loop-line l = record {
  lines : map numbered l.told.items ≡ told_lines (told_number l.self) (map numbered (take l.line-index l.lines));
  each : length l.told.items ≡ l.line-index;
}
