use Rattle.std.proofs.Common.{rules}
use Rattle.usb_descriptors.proofs.config.Config.interfaces.Goals as goal

pub returns-clause-value : goal.returns-clause-value
returns-clause-value c = search rules fits 100
