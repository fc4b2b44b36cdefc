use Rattle.proof_laws.proofs.Instances.{calls_back, reaches_bounds, is_not_cut, reaches_bound, stalled_is_cut, unplugged_is_cut}
use Rattle.proof_laws.proofs.runs.instances.Goals as goal

pub returns-clause-bound : goal.returns-clause-bound
returns-clause-bound c = reaches_bound

pub returns-clause-behind_a_stall : goal.returns-clause-behind_a_stall
returns-clause-behind_a_stall c = stalled_is_cut

pub returns-clause-at_a_gone_device : goal.returns-clause-at_a_gone_device
returns-clause-at_a_gone_device c = unplugged_is_cut

pub returns-clause-without_a_size : goal.returns-clause-without_a_size
returns-clause-without_a_size c = is_not_cut

pub returns-clause-bounds : goal.returns-clause-bounds
returns-clause-bounds c = reaches_bounds

pub returns-clause-called : goal.returns-clause-called
returns-clause-called c = calls_back
