-- What one handle alone says.
use Rattle.std.proofs.Common.{refl}
use Rattle.proof_laws.specs.Rows.{PrintsAlone}
use Rattle.proof_laws.specs.Rows.Alone.{stall_beside_cancel_alone_1, stall_beside_cancel_alone_2, interface_changes_hands_alone_2, two_handles_two_rules_alone_1, two_handles_two_rules_alone_2, unplug_amid_transfers_alone_2, fed_answers_alone}
use Rattle.proof_laws.proofs.Computed.{computed}

pub stall_beside_cancel_alone_1_holds : PrintsAlone stall_beside_cancel_alone_1 1
unfolding computed
stall_beside_cancel_alone_1_holds = record { amid = refl; by_itself = refl }

pub stall_beside_cancel_alone_2_holds : PrintsAlone stall_beside_cancel_alone_2 2
unfolding computed
stall_beside_cancel_alone_2_holds = record { amid = refl; by_itself = refl }

pub interface_changes_hands_alone_2_holds : PrintsAlone interface_changes_hands_alone_2 2
unfolding computed
interface_changes_hands_alone_2_holds = record { amid = refl; by_itself = refl }

pub two_handles_two_rules_alone_1_holds : PrintsAlone two_handles_two_rules_alone_1 1
unfolding computed
two_handles_two_rules_alone_1_holds = record { amid = refl; by_itself = refl }

pub two_handles_two_rules_alone_2_holds : PrintsAlone two_handles_two_rules_alone_2 2
unfolding computed
two_handles_two_rules_alone_2_holds = record { amid = refl; by_itself = refl }

pub unplug_amid_transfers_alone_2_holds : PrintsAlone unplug_amid_transfers_alone_2 2
unfolding computed
unplug_amid_transfers_alone_2_holds = record { amid = refl; by_itself = refl }

pub fed_answers_alone_holds : PrintsAlone fed_answers_alone 2
unfolding computed
fed_answers_alone_holds = record { amid = refl; by_itself = refl }
