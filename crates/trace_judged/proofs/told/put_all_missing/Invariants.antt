use Rattle.std.proofs.Common.{◌≡◌, ◌++◌, take}
use Rattle.std.specs.List.{flat_map}
use Rattle.trace_judged.specs.Report.{missing_line}
use Rattle.trace_judged.proofs.told.put_all_missing.Given as goal

abbrev pub invariant-loop-m : goal.invariant-loop-m
invariant-loop-m l = l.text.items ≡ l.initial.text.items ++ flat_map missing_line (take l.m-index l.missing)
