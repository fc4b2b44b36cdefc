-- With the strings that are left they are all.
use Rattle.std.proofs.Common.{◌≡◌, ◌++◌, drop}
use Rattle.std.specs.List.{flat_map}
use Rattle.trace_recorded.specs.DeviceText.{string_line}
use Rattle.trace_recorded.proofs.text.ScenarioText.put_strings.Given as goal

abbrev pub invariant-loop-string : goal.invariant-loop-string
invariant-loop-string l = l.self ++ flat_map (string_line l.number) (drop l.string-index l.strings) ≡ l.fn.self ++ flat_map (string_line l.number) l.strings
