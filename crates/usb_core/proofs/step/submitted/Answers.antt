-- What a submission leaves, accepted or refused.
use Rattle.std.proofs.Common.{rules}
use Rattle.usb_core.proofs.step.submitted.Goals as goal

pub returns : goal.returns
returns g c = search rules
