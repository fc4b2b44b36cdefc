-- What each status and each flag says.
use Rattle.std.proofs.Common.{refl}
use Rattle.proof_laws.specs.Rows.{Prints}
use Rattle.proof_laws.specs.Rows.Statuses.{every_status, every_flag}
use Rattle.proof_laws.proofs.Computed.{computed}

pub every_status_holds : Prints every_status
unfolding computed
every_status_holds = refl

pub every_flag_holds : Prints every_flag
unfolding computed
every_flag_holds = refl
