use Rattle.proof_laws.proofs.WorkedRows.Statuses.{every_status_holds, every_flag_holds}
use Rattle.proof_laws.proofs.rows.statuses.Goals as goal

pub returns-clause-every_status : goal.returns-clause-every_status
returns-clause-every_status c = every_status_holds

pub returns-clause-every_flag : goal.returns-clause-every_flag
returns-clause-every_flag c = every_flag_holds
