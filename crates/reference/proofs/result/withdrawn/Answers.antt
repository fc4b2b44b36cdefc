use Rattle.std.proofs.Common.{arith}
use Rattle.std.proofs.lemmas.Grind.{common_steps}
use Rattle.usb_model.specs.Endpoint.Deliver.{withdrawn}
use Rattle.reference.proofs.result.withdrawn.Goals as goal

pub loop-item-preserved : goal.loop-item-preserved
unfolding withdrawn
loop-item-preserved c = grind (arith, common_steps)
