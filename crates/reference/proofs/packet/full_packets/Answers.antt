use Rattle.reference.proofs.packet.full_packets.Goals as goal

pub returns-then-n-size-eq0 : goal.returns-then-n-size-eq0
returns-then-n-size-eq0 c = rw (c.if-adds_zero.true, c.if-n-size-eq0.true)
