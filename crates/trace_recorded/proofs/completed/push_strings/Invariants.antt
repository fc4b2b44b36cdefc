-- With the strings that are left they are all.
use Rattle.std.proofs.Common.{◌≡◌, ◌++◌, drop}
use Rattle.std.specs.List.{flat_map}
use Rattle.trace_recorded.specs.Described.{missing_string}
use Rattle.trace_recorded.proofs.completed.push_strings.Given as goal

abbrev pub invariant-loop-string : goal.invariant-loop-string
invariant-loop-string l = l.missing ++ flat_map (missing_string l.identity) (drop l.string-index l.strings) ≡ l.fn.missing ++ flat_map (missing_string l.identity) l.strings
