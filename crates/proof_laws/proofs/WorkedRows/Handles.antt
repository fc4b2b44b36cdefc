-- Handles and what they hold.
use Rattle.std.proofs.Common.{refl}
use Rattle.proof_laws.specs.Rows.{Prints}
use Rattle.proof_laws.specs.Rows.Handles.{refusals_of_handles, reset_with_other_holder, interface_changes_hands, close_waits_for_quiet, close_waits_for_errand}
use Rattle.proof_laws.proofs.Computed.{computed}

pub refusals_of_handles_holds : Prints refusals_of_handles
unfolding computed
refusals_of_handles_holds = refl

pub reset_with_other_holder_holds : Prints reset_with_other_holder
unfolding computed
reset_with_other_holder_holds = refl

pub interface_changes_hands_holds : Prints interface_changes_hands
unfolding computed
interface_changes_hands_holds = refl

pub close_waits_for_quiet_holds : Prints close_waits_for_quiet
unfolding computed
close_waits_for_quiet_holds = refl

pub close_waits_for_errand_holds : Prints close_waits_for_errand
unfolding computed
close_waits_for_errand_holds = refl
