use Rattle.std.proofs.Common.{rules}
use Rattle.reference.proofs.endpoint_controller.pause.Goals as goal

pub returns : goal.returns
returns c = search rules
