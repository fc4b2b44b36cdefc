use Rattle.std.proofs.Common.{rules}
use Rattle.usb_model.specs.Endpoint.Packets.{pieces}
use Rattle.usb_model.proofs.CutPackets.{length_cut, few_full_packets}
use Rattle.reference.proofs.packet.packet_count.Goals as goal

pub returns-in-Out : goal.returns-in-Out
unfolding pieces
returns-in-Out c = search (rules, length_cut, few_full_packets) fits 300
