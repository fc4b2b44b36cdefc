use Rattle.std.proofs.Common.{rules}
use Rattle.reference.proofs.device.answered.Goals as goal

pub returns : goal.returns
returns c = search rules
