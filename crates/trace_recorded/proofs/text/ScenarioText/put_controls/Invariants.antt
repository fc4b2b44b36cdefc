-- With the lines that are left they are all.
use Rattle.std.proofs.Common.{◌≡◌, ◌++◌, drop}
use Rattle.std.specs.List.{flat_map}
use Rattle.trace_recorded.specs.DeviceText.{control_line, controls_text}
use Rattle.trace_recorded.proofs.text.ScenarioText.put_controls.Given as goal

abbrev pub invariant-loop-setup : goal.invariant-loop-setup
invariant-loop-setup l = l.self ++ flat_map (control_line l.number l.lines) (drop l.setup-index l.lines.firsts) ≡ l.fn.self ++ controls_text l.number l.lines
