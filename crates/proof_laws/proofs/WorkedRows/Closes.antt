-- What keeps an interface from being given back, and what is left behind that.
use Rattle.std.proofs.Common.{refl}
use Rattle.proof_laws.specs.Rows.{Prints}
use Rattle.proof_laws.specs.Rows.Closes.{close_frees_its_interfaces, numbers_go_on_behind_a_close, result_that_waits_is_in_the_way, errand_is_in_the_way, release_looks_at_one_interface, claim_of_what_is_held, reset_ends_a_halt}
use Rattle.proof_laws.proofs.Computed.{computed}

pub close_frees_its_interfaces_holds : Prints close_frees_its_interfaces
unfolding computed
close_frees_its_interfaces_holds = refl

pub numbers_go_on_behind_a_close_holds : Prints numbers_go_on_behind_a_close
unfolding computed
numbers_go_on_behind_a_close_holds = refl

pub result_that_waits_is_in_the_way_holds : Prints result_that_waits_is_in_the_way
unfolding computed
result_that_waits_is_in_the_way_holds = refl

pub errand_is_in_the_way_holds : Prints errand_is_in_the_way
unfolding computed
errand_is_in_the_way_holds = refl

pub release_looks_at_one_interface_holds : Prints release_looks_at_one_interface
unfolding computed
release_looks_at_one_interface_holds = refl

pub claim_of_what_is_held_holds : Prints claim_of_what_is_held
unfolding computed
claim_of_what_is_held_holds = refl

pub reset_ends_a_halt_holds : Prints reset_ends_a_halt
unfolding computed
reset_ends_a_halt_holds = refl
