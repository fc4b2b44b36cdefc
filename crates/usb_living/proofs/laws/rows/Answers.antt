use Rattle.usb_living.proofs.Rows.{rows_are_as_if_known}
use Rattle.usb_living.proofs.laws.rows.Goals as goal

pub returns : goal.returns
returns g c = rows_are_as_if_known
