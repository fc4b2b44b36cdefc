-- What lines amid the steps feed is known from the beginning.
use Rattle.std.proofs.Common.{refl}
use Rattle.proof_laws.specs.Rows.{Prints}
use Rattle.proof_laws.specs.Rows.Feeds.{fed_amid_a_transfer, fed_behind_a_serve, fed_at_the_very_end, fed_behind_its_script, fed_over_a_claim, fed_over_a_reset, fed_at_a_stall, fed_to_an_out_endpoint, fed_to_two_devices, fed_behind_an_unplug}
use Rattle.proof_laws.proofs.Computed.{computed}

pub fed_amid_a_transfer_holds : Prints fed_amid_a_transfer
unfolding computed
fed_amid_a_transfer_holds = refl

pub fed_behind_a_serve_holds : Prints fed_behind_a_serve
unfolding computed
fed_behind_a_serve_holds = refl

pub fed_at_the_very_end_holds : Prints fed_at_the_very_end
unfolding computed
fed_at_the_very_end_holds = refl

pub fed_behind_its_script_holds : Prints fed_behind_its_script
unfolding computed
fed_behind_its_script_holds = refl

pub fed_over_a_claim_holds : Prints fed_over_a_claim
unfolding computed
fed_over_a_claim_holds = refl

pub fed_over_a_reset_holds : Prints fed_over_a_reset
unfolding computed
fed_over_a_reset_holds = refl

pub fed_at_a_stall_holds : Prints fed_at_a_stall
unfolding computed
fed_at_a_stall_holds = refl

pub fed_to_an_out_endpoint_holds : Prints fed_to_an_out_endpoint
unfolding computed
fed_to_an_out_endpoint_holds = refl

pub fed_to_two_devices_holds : Prints fed_to_two_devices
unfolding computed
fed_to_two_devices_holds = refl

pub fed_behind_an_unplug_holds : Prints fed_behind_an_unplug
unfolding computed
fed_behind_an_unplug_holds = refl
