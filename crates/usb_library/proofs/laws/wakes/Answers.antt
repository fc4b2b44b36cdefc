use Rattle.usb_library.proofs.NewWork.{names_new_work}
use Rattle.usb_library.proofs.laws.wakes.Goals as goal

pub returns : goal.returns
returns c = names_new_work
