use Rattle.proof_laws.proofs.WorkedRows.Dues.{two_names_at_two_devices_holds, no_timeout_is_never_due_holds, no_deadline_is_later_holds, submitted_again_begins_anew_holds, asked_already_holds, ended_already_holds}
use Rattle.proof_laws.proofs.rows.dues.Goals as goal

pub returns-clause-two_names_at_two_devices : goal.returns-clause-two_names_at_two_devices
returns-clause-two_names_at_two_devices c = two_names_at_two_devices_holds

pub returns-clause-no_timeout_is_never_due : goal.returns-clause-no_timeout_is_never_due
returns-clause-no_timeout_is_never_due c = no_timeout_is_never_due_holds

pub returns-clause-no_deadline_is_later : goal.returns-clause-no_deadline_is_later
returns-clause-no_deadline_is_later c = no_deadline_is_later_holds

pub returns-clause-submitted_again_begins_anew : goal.returns-clause-submitted_again_begins_anew
returns-clause-submitted_again_begins_anew c = submitted_again_begins_anew_holds

pub returns-clause-asked_already : goal.returns-clause-asked_already
returns-clause-asked_already c = asked_already_holds

pub returns-clause-ended_already : goal.returns-clause-ended_already
returns-clause-ended_already c = ended_already_holds
