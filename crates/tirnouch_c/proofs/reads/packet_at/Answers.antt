-- Where there is such an endpoint, and where there is none.
use Rattle.tirnouch_c.proofs.reads.packet_at.Goals as goal

pub returns-in-None-clause-there : goal.returns-in-None-clause-there
returns-in-None-clause-there c = λ setup w k shows is. absurd (cc (c.in-None.is, c.interface_of.ensures setup w shows, is))

pub returns-in-Some-clause-there : goal.returns-in-Some-clause-there
returns-in-Some-clause-there c = λ setup w k shows is. c.taken.ensures setup w k shows is

pub returns-in-Some-clause-nowhere : goal.returns-in-Some-clause-nowhere
returns-in-Some-clause-nowhere c = λ setup w shows none. absurd (cc (c.in-Some.is, c.interface_of.ensures setup w shows, none))
