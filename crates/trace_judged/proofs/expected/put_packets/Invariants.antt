use Rattle.std.proofs.Common.{◌≡◌, ◌++◌, take}
use Rattle.trace_judged.specs.Expected.{packets_of}
use Rattle.trace_judged.proofs.expected.put_packets.Given as goal

abbrev pub invariant-loop-packet : goal.invariant-loop-packet
invariant-loop-packet l = packets_of l.packets.items ≡ packets_of l.initial.packets.items ++ take l.packet-index l.more
