use Rattle.proof_model.proofs.Callbacks.{calls_in_order, calls_once}
use Rattle.proof_laws.proofs.Given.{calls_after_number}
use Rattle.proof_laws.proofs.isolation.callbacks.Goals as goal

pub returns-clause-once : goal.returns-clause-once
returns-clause-once c = calls_once

pub returns-clause-after : goal.returns-clause-after
returns-clause-after c = calls_after_number

pub returns-clause-order : goal.returns-clause-order
returns-clause-order c = calls_in_order
