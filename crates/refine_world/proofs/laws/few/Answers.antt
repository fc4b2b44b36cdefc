use Rattle.refine_world.proofs.Budget.{few_at_endpoint}
use Rattle.refine_world.proofs.laws.few.Goals as goal

pub returns : goal.returns
returns c = few_at_endpoint
