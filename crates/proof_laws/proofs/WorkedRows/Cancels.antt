-- Transfers that are asked to end.
use Rattle.std.proofs.Common.{refl}
use Rattle.proof_laws.specs.Rows.{Prints}
use Rattle.proof_laws.specs.Rows.Cancels.{cancel_amid_transfer, cancel_after_served, cancel_in_the_middle, pause_before_the_zero_packet, expire_without_timeout, cancel_then_expire, expire_then_cancel, cancel_amid_move, second_cancel_repeats_nothing, cancel_at_its_bound}
use Rattle.proof_laws.proofs.Computed.{computed}

pub cancel_amid_transfer_holds : Prints cancel_amid_transfer
unfolding computed
cancel_amid_transfer_holds = refl

pub cancel_after_served_holds : Prints cancel_after_served
unfolding computed
cancel_after_served_holds = refl

pub cancel_in_the_middle_holds : Prints cancel_in_the_middle
unfolding computed
cancel_in_the_middle_holds = refl

pub pause_before_the_zero_packet_holds : Prints pause_before_the_zero_packet
unfolding computed
pause_before_the_zero_packet_holds = refl

pub expire_without_timeout_holds : Prints expire_without_timeout
unfolding computed
expire_without_timeout_holds = refl

pub cancel_then_expire_holds : Prints cancel_then_expire
unfolding computed
cancel_then_expire_holds = refl

pub expire_then_cancel_holds : Prints expire_then_cancel
unfolding computed
expire_then_cancel_holds = refl

pub cancel_amid_move_holds : Prints cancel_amid_move
unfolding computed
cancel_amid_move_holds = refl

pub second_cancel_repeats_nothing_holds : Prints second_cancel_repeats_nothing
unfolding computed
second_cancel_repeats_nothing_holds = refl

pub cancel_at_its_bound_holds : Prints cancel_at_its_bound
unfolding computed
cancel_at_its_bound_holds = refl
