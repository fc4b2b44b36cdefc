-- Transfers by themselves.
use Rattle.std.proofs.Common.{refl}
use Rattle.proof_laws.specs.Rows.{Prints}
use Rattle.proof_laws.specs.Rows.Transfers.{empty_scenario, bulk_in_eight_bytes, short_third_packet, short_is_not_ok, zero_length_in, zero_length_in_babble, two_transfers_in_order, seventeen_submissions, read_over_the_limit, out_with_zero_packet}
use Rattle.proof_laws.proofs.Computed.{computed}

pub empty_scenario_holds : Prints empty_scenario
unfolding computed
empty_scenario_holds = refl

pub bulk_in_eight_bytes_holds : Prints bulk_in_eight_bytes
unfolding computed
bulk_in_eight_bytes_holds = refl

pub short_third_packet_holds : Prints short_third_packet
unfolding computed
short_third_packet_holds = refl

pub short_is_not_ok_holds : Prints short_is_not_ok
unfolding computed
short_is_not_ok_holds = refl

pub zero_length_in_holds : Prints zero_length_in
unfolding computed
zero_length_in_holds = refl

pub zero_length_in_babble_holds : Prints zero_length_in_babble
unfolding computed
zero_length_in_babble_holds = refl

pub two_transfers_in_order_holds : Prints two_transfers_in_order
unfolding computed
two_transfers_in_order_holds = refl

pub seventeen_submissions_holds : Prints seventeen_submissions
unfolding computed
seventeen_submissions_holds = refl

pub read_over_the_limit_holds : Prints read_over_the_limit
unfolding computed
read_over_the_limit_holds = refl

pub out_with_zero_packet_holds : Prints out_with_zero_packet
unfolding computed
out_with_zero_packet_holds = refl
