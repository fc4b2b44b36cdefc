-- Whether an endpoint is among those made new.
use Rattle.std.proofs.Common.{rules}
use Rattle.reference.proofs.renewal.Renewed.has.Goals as goal

pub returns-in-Within : goal.returns-in-Within
returns-in-Within c = search rules
