-- What is left says the rest of the scenario, and the lines of its steps and devices.
use Rattle.std.proofs.Common.{◌≡◌, ◌+◌, ◌++◌, ◌==◌, length, drop, map, true}
use Rattle.std.specs.List.{slice_split}
use Rattle.trace_scenario.specs.DeviceLines.{device_lines, device_lines_from}
use Rattle.trace_scenario.specs.Scenario.{scenario_from, scenario_of}
use Rattle.trace_scenario.specs.StepLines.{numbered, step_lines, step_lines_from}
use Rattle.trace_scenario.proofs.lined.read_text.Given as goal

abbrev pub invariant-loop-line : goal.invariant-loop-line
invariant-loop-line l = record {
  counted : l.number ≡ length l.yielded;
  rest : scenario_of l.text ≡ scenario_from (length l.yielded + 1) l.draft (drop (length l.yielded) (slice_split (λ b. b == 10) l.text));
  kept : l.keeps ≡ true → map numbered l.lines.items ++ step_lines_from (length l.yielded + 1) l.draft (drop (length l.yielded) (slice_split (λ b. b == 10) l.text)) ≡ step_lines l.text;
  described : l.devices.items ++ device_lines_from (length l.yielded + 1) l.draft (drop (length l.yielded) (slice_split (λ b. b == 10) l.text)) ≡ device_lines l.text;
}
