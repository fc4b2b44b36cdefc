use Rattle.std.proofs.Common.{rules}
use Rattle.usb_descriptors.proofs.config.Config.interface_of.Goals as goal

pub returns : goal.returns
returns c = search rules fits 100
