-- The numbers are those of the Normal TRB that was read, and of no other.
use Rattle.std.proofs.Common.{rules}
use Rattle.usb_trb.proofs.words.Words.fields.Goals as goal

pub returns-clause-known : goal.returns-clause-known
returns-clause-known c = search rules

pub returns-clause-found : goal.returns-clause-found
returns-clause-found c = search rules
