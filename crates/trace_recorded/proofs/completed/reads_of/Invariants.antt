-- With the reads that are left they are all.
use Rattle.std.proofs.Common.{◌≡◌, ◌++◌}
use Rattle.std.specs.List.{flat_map}
use Rattle.std.specs.Vec.Iter.{into_iter_items}
use Rattle.trace_recorded.specs.Described.{read_of}
use Rattle.trace_recorded.proofs.completed.reads_of.Given as goal

abbrev pub invariant-loop-known : goal.invariant-loop-known
invariant-loop-known l = l.events ++ flat_map (read_of l.place) (into_iter_items l.known-iterator) ≡ flat_map (read_of l.place) l.fn.missing
