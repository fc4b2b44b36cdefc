use Rattle.proof_laws.proofs.WorkedRows.Halts.{babble_then_recovery_holds, three_babbles_holds, stall_and_clear_halt_holds, cancel_loses_to_stall_holds, stall_beside_cancel_holds}
use Rattle.proof_laws.proofs.rows.halting.Goals as goal

pub returns-clause-babble_then_recovery : goal.returns-clause-babble_then_recovery
returns-clause-babble_then_recovery c = babble_then_recovery_holds

pub returns-clause-three_babbles : goal.returns-clause-three_babbles
returns-clause-three_babbles c = three_babbles_holds

pub returns-clause-stall_and_clear_halt : goal.returns-clause-stall_and_clear_halt
returns-clause-stall_and_clear_halt c = stall_and_clear_halt_holds

pub returns-clause-cancel_loses_to_stall : goal.returns-clause-cancel_loses_to_stall
returns-clause-cancel_loses_to_stall c = cancel_loses_to_stall_holds

pub returns-clause-stall_beside_cancel : goal.returns-clause-stall_beside_cancel
returns-clause-stall_beside_cancel c = stall_beside_cancel_holds
