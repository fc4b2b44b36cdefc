-- What takes a place of an endpoint, and when it is given back.
use Rattle.std.proofs.Common.{refl}
use Rattle.proof_laws.specs.Rows.{Prints}
use Rattle.proof_laws.specs.Rows.Places.{blanks_behind_a_failed_transfer, blanks_behind_a_completed_transfer, sixteen_places_at_each_endpoint}
use Rattle.proof_laws.proofs.Computed.{computed}

pub blanks_behind_a_failed_transfer_holds : Prints blanks_behind_a_failed_transfer
unfolding computed
blanks_behind_a_failed_transfer_holds = refl

pub blanks_behind_a_completed_transfer_holds : Prints blanks_behind_a_completed_transfer
unfolding computed
blanks_behind_a_completed_transfer_holds = refl

pub sixteen_places_at_each_endpoint_holds : Prints sixteen_places_at_each_endpoint
unfolding computed
sixteen_places_at_each_endpoint_holds = refl
