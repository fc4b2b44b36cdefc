-- What no scenario says, or none of a few lines: callbacks that submit other bytes, the longest write, requests of unsupported kinds, the last number.
use Rattle.std.proofs.Common.{refl}
use Rattle.proof_laws.specs.Rows.{StepsPrint}
use Rattle.proof_laws.specs.Rows.Steps.{again_with_other_bytes, again_with_bytes_for_in, write_over_the_limit, requests_of_unsupported_kinds, last_number_is_given_to_none}
use Rattle.proof_laws.proofs.Computed.{computed}

pub again_with_other_bytes_holds : StepsPrint again_with_other_bytes
unfolding computed
again_with_other_bytes_holds = refl

pub again_with_bytes_for_in_holds : StepsPrint again_with_bytes_for_in
unfolding computed
again_with_bytes_for_in_holds = refl

pub write_over_the_limit_holds : StepsPrint write_over_the_limit
unfolding computed
write_over_the_limit_holds = refl

pub requests_of_unsupported_kinds_holds : StepsPrint requests_of_unsupported_kinds
unfolding computed
requests_of_unsupported_kinds_holds = refl

pub last_number_is_given_to_none_holds : StepsPrint last_number_is_given_to_none
unfolding computed
last_number_is_given_to_none_holds = refl
