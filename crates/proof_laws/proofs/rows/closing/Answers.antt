use Rattle.proof_laws.proofs.WorkedRows.Closes.{close_frees_its_interfaces_holds, numbers_go_on_behind_a_close_holds, result_that_waits_is_in_the_way_holds, errand_is_in_the_way_holds, release_looks_at_one_interface_holds, claim_of_what_is_held_holds, reset_ends_a_halt_holds}
use Rattle.proof_laws.proofs.rows.closing.Goals as goal

pub returns-clause-close_frees_its_interfaces : goal.returns-clause-close_frees_its_interfaces
returns-clause-close_frees_its_interfaces c = close_frees_its_interfaces_holds

pub returns-clause-numbers_go_on_behind_a_close : goal.returns-clause-numbers_go_on_behind_a_close
returns-clause-numbers_go_on_behind_a_close c = numbers_go_on_behind_a_close_holds

pub returns-clause-result_that_waits_is_in_the_way : goal.returns-clause-result_that_waits_is_in_the_way
returns-clause-result_that_waits_is_in_the_way c = result_that_waits_is_in_the_way_holds

pub returns-clause-errand_is_in_the_way : goal.returns-clause-errand_is_in_the_way
returns-clause-errand_is_in_the_way c = errand_is_in_the_way_holds

pub returns-clause-release_looks_at_one_interface : goal.returns-clause-release_looks_at_one_interface
returns-clause-release_looks_at_one_interface c = release_looks_at_one_interface_holds

pub returns-clause-claim_of_what_is_held : goal.returns-clause-claim_of_what_is_held
returns-clause-claim_of_what_is_held c = claim_of_what_is_held_holds

pub returns-clause-reset_ends_a_halt : goal.returns-clause-reset_ends_a_halt
returns-clause-reset_ends_a_halt c = reset_ends_a_halt_holds
