-- Whose time is over, at some moments.
use Rattle.std.proofs.Common.{refl}
use Rattle.proof_laws.specs.Rows.{FallDue}
use Rattle.proof_laws.specs.Rows.Dues.{two_names_at_two_devices, no_timeout_is_never_due, no_deadline_is_later, submitted_again_begins_anew, asked_already, ended_already}
use Rattle.proof_laws.proofs.Computed.{computed}

pub two_names_at_two_devices_holds : FallDue two_names_at_two_devices
unfolding computed
two_names_at_two_devices_holds = refl

pub no_timeout_is_never_due_holds : FallDue no_timeout_is_never_due
unfolding computed
no_timeout_is_never_due_holds = refl

pub no_deadline_is_later_holds : FallDue no_deadline_is_later
unfolding computed
no_deadline_is_later_holds = refl

pub submitted_again_begins_anew_holds : FallDue submitted_again_begins_anew
unfolding computed
submitted_again_begins_anew_holds = refl

pub asked_already_holds : FallDue asked_already
unfolding computed
asked_already_holds = refl

pub ended_already_holds : FallDue ended_already
unfolding computed
ended_already_holds = refl
