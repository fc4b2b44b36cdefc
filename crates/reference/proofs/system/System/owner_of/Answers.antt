-- Whose the first of a list is.
use Rattle.std.proofs.Common.{rules}
use Rattle.reference.proofs.system.System.owner_of.Goals as goal

pub returns-in-Command : goal.returns-in-Command
returns-in-Command c = search rules

pub returns-in-Deliver : goal.returns-in-Deliver
returns-in-Deliver c = search rules
