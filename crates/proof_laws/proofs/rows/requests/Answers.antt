use Rattle.proof_laws.proofs.WorkedRows.Requests.{unsupported_endpoints_holds, bad_requests_at_a_full_endpoint_holds, refused_asks_holds, answers_of_no_callback_holds}
use Rattle.proof_laws.proofs.rows.requests.Goals as goal

pub returns-clause-unsupported_endpoints : goal.returns-clause-unsupported_endpoints
returns-clause-unsupported_endpoints c = unsupported_endpoints_holds

pub returns-clause-bad_requests_at_a_full_endpoint : goal.returns-clause-bad_requests_at_a_full_endpoint
returns-clause-bad_requests_at_a_full_endpoint c = bad_requests_at_a_full_endpoint_holds

pub returns-clause-refused_asks : goal.returns-clause-refused_asks
returns-clause-refused_asks c = refused_asks_holds

pub returns-clause-answers_of_no_callback : goal.returns-clause-answers_of_no_callback
returns-clause-answers_of_no_callback c = answers_of_no_callback_holds
