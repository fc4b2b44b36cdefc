use Rattle.proof_laws.proofs.WorkedRows.Callbacks.{resubmit_three_rounds_holds, resubmit_until_stall_holds, again_without_a_place_holds, again_at_a_gone_device_holds}
use Rattle.proof_laws.proofs.rows.callbacks.Goals as goal

pub returns-clause-resubmit_three_rounds : goal.returns-clause-resubmit_three_rounds
returns-clause-resubmit_three_rounds c = resubmit_three_rounds_holds

pub returns-clause-resubmit_until_stall : goal.returns-clause-resubmit_until_stall
returns-clause-resubmit_until_stall c = resubmit_until_stall_holds

pub returns-clause-again_without_a_place : goal.returns-clause-again_without_a_place
returns-clause-again_without_a_place c = again_without_a_place_holds

pub returns-clause-again_at_a_gone_device : goal.returns-clause-again_at_a_gone_device
returns-clause-again_at_a_gone_device c = again_at_a_gone_device_holds
