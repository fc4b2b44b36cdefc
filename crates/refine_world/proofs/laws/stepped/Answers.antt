use Rattle.refine_world.proofs.Delivers.{deliver_steps}
use Rattle.refine_world.proofs.WholeSteps.{command_steps, serve_steps}
use Rattle.refine_world.proofs.NewCore.{new_shows}
use Rattle.refine_world.proofs.StepsWithoutWork.{unplug_steps}
use Rattle.refine_world.proofs.Takes.{take_steps}
use Rattle.refine_world.proofs.laws.stepped.Goals as goal

pub returns : goal.returns
returns c = λ setup fine. record {
  news = new_shows setup;
  serves = λ w c s dev ep. serve_steps setup w c fine s dev ep;
  commands = λ w c s. command_steps setup w c fine s;
  delivers = λ w c s. deliver_steps setup w c fine s;
  takes = λ w c s. take_steps setup w c fine s;
  unplugs = λ w c s dev. unplug_steps setup w c s dev;
}
