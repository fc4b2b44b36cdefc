use Rattle.proof_laws.proofs.CutPackets.{cuts_into_packets}
use Rattle.proof_laws.proofs.laws.packets.Goals as goal

pub returns : goal.returns
returns c = cuts_into_packets
