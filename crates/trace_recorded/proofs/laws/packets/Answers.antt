-- Packet by packet.
use Rattle.trace_recorded.proofs.Expected.{packets_are_written}
use Rattle.trace_recorded.proofs.laws.packets.Goals as goal

pub returns : goal.returns
returns c = packets_are_written
