use Rattle.std.proofs.Common.{◌≡◌, ◌++◌, take}
use Rattle.std.specs.List.{flat_map}
use Rattle.trace_explain.specs.Packets.{packet_line}
use Rattle.trace_explain.proofs.packets.put_packets.Given as goal

abbrev pub invariant-loop-packet : goal.invariant-loop-packet
invariant-loop-packet l = l.text.items ≡ l.initial.text.items ++ flat_map (packet_line l.ep) (take l.packet-index l.packets)
