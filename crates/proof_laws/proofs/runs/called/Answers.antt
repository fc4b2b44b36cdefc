use Rattle.proof_model.proofs.Calls.{callbacks_are_of_calls, calls_what_was_made}
use Rattle.proof_laws.proofs.runs.called.Goals as goal

pub returns-clause-in_order : goal.returns-clause-in_order
returns-clause-in_order c = calls_what_was_made

pub returns-clause-in_callbacks : goal.returns-clause-in_callbacks
returns-clause-in_callbacks c = callbacks_are_of_calls
