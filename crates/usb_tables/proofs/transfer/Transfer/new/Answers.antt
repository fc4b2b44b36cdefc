-- A transfer as it is made.
use Rattle.std.proofs.Common.{refl}
use Rattle.usb_tables.proofs.transfer.Transfer.new.Goals as goal

pub returns-in-Ok-clause-made : goal.returns-in-Ok-clause-made
returns-in-Ok-clause-made g c = refl
