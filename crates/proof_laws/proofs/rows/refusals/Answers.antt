use Rattle.proof_laws.proofs.WorkedRows.Refusals.{refusals_of_open_holds, handle_that_is_not_open_holds, interface_that_is_not_held_holds, calls_amid_a_transfer_holds}
use Rattle.proof_laws.proofs.rows.refusals.Goals as goal

pub returns-clause-refusals_of_open : goal.returns-clause-refusals_of_open
returns-clause-refusals_of_open c = refusals_of_open_holds

pub returns-clause-handle_that_is_not_open : goal.returns-clause-handle_that_is_not_open
returns-clause-handle_that_is_not_open c = handle_that_is_not_open_holds

pub returns-clause-interface_that_is_not_held : goal.returns-clause-interface_that_is_not_held
returns-clause-interface_that_is_not_held c = interface_that_is_not_held_holds

pub returns-clause-calls_amid_a_transfer : goal.returns-clause-calls_amid_a_transfer
returns-clause-calls_amid_a_transfer c = calls_amid_a_transfer_holds
