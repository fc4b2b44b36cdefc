-- Callbacks that submit again.
use Rattle.std.proofs.Common.{refl}
use Rattle.proof_laws.specs.Rows.{Prints}
use Rattle.proof_laws.specs.Rows.Callbacks.{resubmit_three_rounds, resubmit_until_stall, again_without_a_place, again_at_a_gone_device}
use Rattle.proof_laws.proofs.Computed.{computed}

pub resubmit_three_rounds_holds : Prints resubmit_three_rounds
unfolding computed
resubmit_three_rounds_holds = refl

pub resubmit_until_stall_holds : Prints resubmit_until_stall
unfolding computed
resubmit_until_stall_holds = refl

pub again_without_a_place_holds : Prints again_without_a_place
unfolding computed
again_without_a_place_holds = refl

pub again_at_a_gone_device_holds : Prints again_at_a_gone_device
unfolding computed
again_at_a_gone_device_holds = refl
