use Rattle.proof_laws.proofs.WorkedRows.Unplugs.{unplug_amid_transfers_holds, unplug_of_nothing_holds}
use Rattle.proof_laws.proofs.rows.unplugging.Goals as goal

pub returns-clause-unplug_amid_transfers : goal.returns-clause-unplug_amid_transfers
returns-clause-unplug_amid_transfers c = unplug_amid_transfers_holds

pub returns-clause-unplug_of_nothing : goal.returns-clause-unplug_of_nothing
returns-clause-unplug_of_nothing c = unplug_of_nothing_holds
