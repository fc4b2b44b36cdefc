use Rattle.proof_laws.proofs.WorkedRows.Handles.{refusals_of_handles_holds, reset_with_other_holder_holds, interface_changes_hands_holds, close_waits_for_quiet_holds, close_waits_for_errand_holds}
use Rattle.proof_laws.proofs.rows.handles.Goals as goal

pub returns-clause-refusals_of_handles : goal.returns-clause-refusals_of_handles
returns-clause-refusals_of_handles c = refusals_of_handles_holds

pub returns-clause-reset_with_other_holder : goal.returns-clause-reset_with_other_holder
returns-clause-reset_with_other_holder c = reset_with_other_holder_holds

pub returns-clause-interface_changes_hands : goal.returns-clause-interface_changes_hands
returns-clause-interface_changes_hands c = interface_changes_hands_holds

pub returns-clause-close_waits_for_quiet : goal.returns-clause-close_waits_for_quiet
returns-clause-close_waits_for_quiet c = close_waits_for_quiet_holds

pub returns-clause-close_waits_for_errand : goal.returns-clause-close_waits_for_errand
returns-clause-close_waits_for_errand c = close_waits_for_errand_holds
