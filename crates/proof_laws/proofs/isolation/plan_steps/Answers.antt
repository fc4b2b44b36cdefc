use Rattle.proof_laws.proofs.Plans.{may_expand, expands_only}
use Rattle.proof_laws.proofs.isolation.plan_steps.Goals as goal

pub returns-clause-may : goal.returns-clause-may
returns-clause-may c = may_expand

pub returns-clause-only : goal.returns-clause-only
returns-clause-only c = expands_only
