-- The entry has the packets so far behind its own.
use Rattle.std.proofs.Common.{◌≡◌, ◌++◌}
use Rattle.trace_judged.proofs.gathered.put_behind.Given as goal

abbrev pub invariant-loop-packet : goal.invariant-loop-packet
invariant-loop-packet l = l.entry ≡ record l.initial.entry { packets = l.initial.entry.packets ++ l.yielded }
