-- Answers of a device that end a transfer badly.
use Rattle.std.proofs.Common.{refl}
use Rattle.proof_laws.specs.Rows.{Prints}
use Rattle.proof_laws.specs.Rows.Answers.{broken_at_first, broken_amid_packets, broken_behind_a_cancel, stall_amid_out, stall_and_babble_amid_reads, cancel_behind_a_stall}
use Rattle.proof_laws.proofs.Computed.{computed}

pub broken_at_first_holds : Prints broken_at_first
unfolding computed
broken_at_first_holds = refl

pub broken_amid_packets_holds : Prints broken_amid_packets
unfolding computed
broken_amid_packets_holds = refl

pub broken_behind_a_cancel_holds : Prints broken_behind_a_cancel
unfolding computed
broken_behind_a_cancel_holds = refl

pub stall_amid_out_holds : Prints stall_amid_out
unfolding computed
stall_amid_out_holds = refl

pub stall_and_babble_amid_reads_holds : Prints stall_and_babble_amid_reads
unfolding computed
stall_and_babble_amid_reads_holds = refl

pub cancel_behind_a_stall_holds : Prints cancel_behind_a_stall
unfolding computed
cancel_behind_a_stall_holds = refl
