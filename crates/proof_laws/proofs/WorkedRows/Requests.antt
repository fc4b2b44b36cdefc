-- Refusals of submissions, asks and answers, in their order.
use Rattle.std.proofs.Common.{refl}
use Rattle.proof_laws.specs.Rows.{Prints}
use Rattle.proof_laws.specs.Rows.Requests.{unsupported_endpoints, bad_requests_at_a_full_endpoint, refused_asks, answers_of_no_callback}
use Rattle.proof_laws.proofs.Computed.{computed}

pub unsupported_endpoints_holds : Prints unsupported_endpoints
unfolding computed
unsupported_endpoints_holds = refl

pub bad_requests_at_a_full_endpoint_holds : Prints bad_requests_at_a_full_endpoint
unfolding computed
bad_requests_at_a_full_endpoint_holds = refl

pub refused_asks_holds : Prints refused_asks
unfolding computed
refused_asks_holds = refl

pub answers_of_no_callback_holds : Prints answers_of_no_callback
unfolding computed
answers_of_no_callback_holds = refl
