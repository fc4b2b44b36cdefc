use Rattle.proof_laws.proofs.WorkedRows.Steps.{again_with_other_bytes_holds, again_with_bytes_for_in_holds, write_over_the_limit_holds, requests_of_unsupported_kinds_holds, last_number_is_given_to_none_holds}
use Rattle.proof_laws.proofs.rows.steps.Goals as goal

pub returns-clause-again_with_other_bytes : goal.returns-clause-again_with_other_bytes
returns-clause-again_with_other_bytes c = again_with_other_bytes_holds

pub returns-clause-again_with_bytes_for_in : goal.returns-clause-again_with_bytes_for_in
returns-clause-again_with_bytes_for_in c = again_with_bytes_for_in_holds

pub returns-clause-write_over_the_limit : goal.returns-clause-write_over_the_limit
returns-clause-write_over_the_limit c = write_over_the_limit_holds

pub returns-clause-requests_of_unsupported_kinds : goal.returns-clause-requests_of_unsupported_kinds
returns-clause-requests_of_unsupported_kinds c = requests_of_unsupported_kinds_holds

pub returns-clause-last_number_is_given_to_none : goal.returns-clause-last_number_is_given_to_none
returns-clause-last_number_is_given_to_none c = last_number_is_given_to_none_holds
