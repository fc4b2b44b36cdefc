use Rattle.proof_laws.proofs.WorkedRows.Answers.{broken_at_first_holds, broken_amid_packets_holds, broken_behind_a_cancel_holds, stall_amid_out_holds, stall_and_babble_amid_reads_holds, cancel_behind_a_stall_holds}
use Rattle.proof_laws.proofs.rows.answers.Goals as goal

pub returns-clause-broken_at_first : goal.returns-clause-broken_at_first
returns-clause-broken_at_first c = broken_at_first_holds

pub returns-clause-broken_amid_packets : goal.returns-clause-broken_amid_packets
returns-clause-broken_amid_packets c = broken_amid_packets_holds

pub returns-clause-broken_behind_a_cancel : goal.returns-clause-broken_behind_a_cancel
returns-clause-broken_behind_a_cancel c = broken_behind_a_cancel_holds

pub returns-clause-stall_amid_out : goal.returns-clause-stall_amid_out
returns-clause-stall_amid_out c = stall_amid_out_holds

pub returns-clause-stall_and_babble_amid_reads : goal.returns-clause-stall_and_babble_amid_reads
returns-clause-stall_and_babble_amid_reads c = stall_and_babble_amid_reads_holds

pub returns-clause-cancel_behind_a_stall : goal.returns-clause-cancel_behind_a_stall
returns-clause-cancel_behind_a_stall c = cancel_behind_a_stall_holds
