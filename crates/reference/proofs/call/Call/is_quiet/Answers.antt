-- The endpoint is read where it stands.
use Rattle.reference.proofs.call.Call.is_quiet.Goals as goal

pub returns-in-None : goal.returns-in-None
returns-in-None c = rw (← c.endpoint_of.ensures, c.in-None.is)

pub returns-in-Some : goal.returns-in-Some
returns-in-Some c = rw (← c.endpoint_of.ensures, c.in-Some.is) c.is_idle.ensures
