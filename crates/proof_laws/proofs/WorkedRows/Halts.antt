-- Ways into a halt, and out of it.
use Rattle.std.proofs.Common.{refl}
use Rattle.proof_laws.specs.Rows.{Prints}
use Rattle.proof_laws.specs.Rows.Halts.{babble_then_recovery, three_babbles, stall_and_clear_halt, cancel_loses_to_stall, stall_beside_cancel}
use Rattle.proof_laws.proofs.Computed.{computed}

pub babble_then_recovery_holds : Prints babble_then_recovery
unfolding computed
babble_then_recovery_holds = refl

pub three_babbles_holds : Prints three_babbles
unfolding computed
three_babbles_holds = refl

pub stall_and_clear_halt_holds : Prints stall_and_clear_halt
unfolding computed
stall_and_clear_halt_holds = refl

pub cancel_loses_to_stall_holds : Prints cancel_loses_to_stall
unfolding computed
cancel_loses_to_stall_holds = refl

pub stall_beside_cancel_holds : Prints stall_beside_cancel
unfolding computed
stall_beside_cancel_holds = refl
