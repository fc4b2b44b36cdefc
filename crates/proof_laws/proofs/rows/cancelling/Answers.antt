use Rattle.proof_laws.proofs.WorkedRows.Cancels.{cancel_amid_transfer_holds, cancel_after_served_holds, cancel_in_the_middle_holds, pause_before_the_zero_packet_holds, expire_without_timeout_holds, cancel_then_expire_holds, expire_then_cancel_holds, cancel_amid_move_holds, second_cancel_repeats_nothing_holds, cancel_at_its_bound_holds}
use Rattle.proof_laws.proofs.rows.cancelling.Goals as goal

pub returns-clause-cancel_amid_transfer : goal.returns-clause-cancel_amid_transfer
returns-clause-cancel_amid_transfer c = cancel_amid_transfer_holds

pub returns-clause-cancel_after_served : goal.returns-clause-cancel_after_served
returns-clause-cancel_after_served c = cancel_after_served_holds

pub returns-clause-cancel_in_the_middle : goal.returns-clause-cancel_in_the_middle
returns-clause-cancel_in_the_middle c = cancel_in_the_middle_holds

pub returns-clause-pause_before_the_zero_packet : goal.returns-clause-pause_before_the_zero_packet
returns-clause-pause_before_the_zero_packet c = pause_before_the_zero_packet_holds

pub returns-clause-expire_without_timeout : goal.returns-clause-expire_without_timeout
returns-clause-expire_without_timeout c = expire_without_timeout_holds

pub returns-clause-cancel_then_expire : goal.returns-clause-cancel_then_expire
returns-clause-cancel_then_expire c = cancel_then_expire_holds

pub returns-clause-expire_then_cancel : goal.returns-clause-expire_then_cancel
returns-clause-expire_then_cancel c = expire_then_cancel_holds

pub returns-clause-cancel_amid_move : goal.returns-clause-cancel_amid_move
returns-clause-cancel_amid_move c = cancel_amid_move_holds

pub returns-clause-second_cancel_repeats_nothing : goal.returns-clause-second_cancel_repeats_nothing
returns-clause-second_cancel_repeats_nothing c = second_cancel_repeats_nothing_holds

pub returns-clause-cancel_at_its_bound : goal.returns-clause-cancel_at_its_bound
returns-clause-cancel_at_its_bound c = cancel_at_its_bound_holds
