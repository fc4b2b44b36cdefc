-- Nothing is wrong.
use Rattle.std.proofs.Common.{None, Some, refl, subst}
use Rattle.usb_devicetext.specs.Reason.{Complains}
use Rattle.tirnouch_c.proofs.complaints.complain.Goals as goal

pub returns-in-Ok-None : goal.returns-in-Ok-None
returns-in-Ok-None c = record { found = Some None; is = (subst (Complains c.args.text.now) c.in-Ok-None.field-0-is c.in-Ok-None.ensures, (refl, refl, refl)) }
