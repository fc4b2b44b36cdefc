use Rattle.proof_laws.proofs.WorkedRows.Transfers.{empty_scenario_holds, bulk_in_eight_bytes_holds, short_third_packet_holds, short_is_not_ok_holds, zero_length_in_holds, zero_length_in_babble_holds, two_transfers_in_order_holds, seventeen_submissions_holds, read_over_the_limit_holds, out_with_zero_packet_holds}
use Rattle.proof_laws.proofs.rows.transfers.Goals as goal

pub returns-clause-empty_scenario : goal.returns-clause-empty_scenario
returns-clause-empty_scenario c = empty_scenario_holds

pub returns-clause-bulk_in_eight_bytes : goal.returns-clause-bulk_in_eight_bytes
returns-clause-bulk_in_eight_bytes c = bulk_in_eight_bytes_holds

pub returns-clause-short_third_packet : goal.returns-clause-short_third_packet
returns-clause-short_third_packet c = short_third_packet_holds

pub returns-clause-short_is_not_ok : goal.returns-clause-short_is_not_ok
returns-clause-short_is_not_ok c = short_is_not_ok_holds

pub returns-clause-zero_length_in : goal.returns-clause-zero_length_in
returns-clause-zero_length_in c = zero_length_in_holds

pub returns-clause-zero_length_in_babble : goal.returns-clause-zero_length_in_babble
returns-clause-zero_length_in_babble c = zero_length_in_babble_holds

pub returns-clause-two_transfers_in_order : goal.returns-clause-two_transfers_in_order
returns-clause-two_transfers_in_order c = two_transfers_in_order_holds

pub returns-clause-seventeen_submissions : goal.returns-clause-seventeen_submissions
returns-clause-seventeen_submissions c = seventeen_submissions_holds

pub returns-clause-read_over_the_limit : goal.returns-clause-read_over_the_limit
returns-clause-read_over_the_limit c = read_over_the_limit_holds

pub returns-clause-out_with_zero_packet : goal.returns-clause-out_with_zero_packet
returns-clause-out_with_zero_packet c = out_with_zero_packet_holds
