use Rattle.std.proofs.Common.{◌≡◌, ◌==◌, length, drop}
use Rattle.std.specs.List.{slice_split}
use Rattle.trace_scenario.specs.Names.{union_from, union_of}
use Rattle.trace_scenario.proofs.names.union_of.Given as goal

abbrev pub invariant-loop-name : goal.invariant-loop-name
invariant-loop-name g l =
    union_from g.F.Flags.table (g.F.Flags.set_of l.set) (drop (length l.yielded) (slice_split (λ b. b == 43) l.word))
    ≡ union_of g.F.Flags.table l.word
