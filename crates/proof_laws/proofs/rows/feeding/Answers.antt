use Rattle.proof_laws.proofs.WorkedRows.Feeds.{fed_amid_a_transfer_holds, fed_behind_a_serve_holds, fed_at_the_very_end_holds, fed_behind_its_script_holds, fed_over_a_claim_holds, fed_over_a_reset_holds, fed_at_a_stall_holds, fed_to_an_out_endpoint_holds, fed_to_two_devices_holds, fed_behind_an_unplug_holds}
use Rattle.proof_laws.proofs.rows.feeding.Goals as goal

pub returns-clause-fed_amid_a_transfer : goal.returns-clause-fed_amid_a_transfer
returns-clause-fed_amid_a_transfer c = fed_amid_a_transfer_holds

pub returns-clause-fed_behind_a_serve : goal.returns-clause-fed_behind_a_serve
returns-clause-fed_behind_a_serve c = fed_behind_a_serve_holds

pub returns-clause-fed_at_the_very_end : goal.returns-clause-fed_at_the_very_end
returns-clause-fed_at_the_very_end c = fed_at_the_very_end_holds

pub returns-clause-fed_behind_its_script : goal.returns-clause-fed_behind_its_script
returns-clause-fed_behind_its_script c = fed_behind_its_script_holds

pub returns-clause-fed_over_a_claim : goal.returns-clause-fed_over_a_claim
returns-clause-fed_over_a_claim c = fed_over_a_claim_holds

pub returns-clause-fed_over_a_reset : goal.returns-clause-fed_over_a_reset
returns-clause-fed_over_a_reset c = fed_over_a_reset_holds

pub returns-clause-fed_at_a_stall : goal.returns-clause-fed_at_a_stall
returns-clause-fed_at_a_stall c = fed_at_a_stall_holds

pub returns-clause-fed_to_an_out_endpoint : goal.returns-clause-fed_to_an_out_endpoint
returns-clause-fed_to_an_out_endpoint c = fed_to_an_out_endpoint_holds

pub returns-clause-fed_to_two_devices : goal.returns-clause-fed_to_two_devices
returns-clause-fed_to_two_devices c = fed_to_two_devices_holds

pub returns-clause-fed_behind_an_unplug : goal.returns-clause-fed_behind_an_unplug
returns-clause-fed_behind_an_unplug c = fed_behind_an_unplug_holds
