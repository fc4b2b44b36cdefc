-- Refusals of a handle's calls, in their order: where several hold at once, the first of them is told.
use Rattle.std.proofs.Common.{refl}
use Rattle.proof_laws.specs.Rows.{Prints}
use Rattle.proof_laws.specs.Rows.Refusals.{refusals_of_open, handle_that_is_not_open, interface_that_is_not_held, calls_amid_a_transfer}
use Rattle.proof_laws.proofs.Computed.{computed}

pub refusals_of_open_holds : Prints refusals_of_open
unfolding computed
refusals_of_open_holds = refl

pub handle_that_is_not_open_holds : Prints handle_that_is_not_open
unfolding computed
handle_that_is_not_open_holds = refl

pub interface_that_is_not_held_holds : Prints interface_that_is_not_held
unfolding computed
interface_that_is_not_held_holds = refl

pub calls_amid_a_transfer_holds : Prints calls_amid_a_transfer
unfolding computed
calls_amid_a_transfer_holds = refl
