use Rattle.usb_model.proofs.Stands.{read_back}
use Rattle.refine_world.proofs.laws.reads_back.Goals as goal

pub returns : goal.returns
returns c = read_back
