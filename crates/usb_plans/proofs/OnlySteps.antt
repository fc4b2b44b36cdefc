-- A piece of a plan stands for one list of steps where no rule is Free.
use Rattle.std.proofs.Common.{◌≡◌, List, ap, ◌∙◌}
use Rattle.usb_model.specs.declared.step.Step.{Step}
use Rattle.usb_model.specs.declared.plan.Plan.{Plan}
use Rattle.usb_model.specs.declared.plan.Plan.TheVariants.{Do, Return}
use Rattle.usb_model.specs.Setup.{Setup}
use Rattle.usb_model.specs.World.Plans.{Stage, return_steps, returning, steps_of}
use Rattle.proof_laws.proofs.Plans.{IsFixedStage, one_return}
use Rattle.usb_plans.specs.PlanRuns.{StandsFor}

-- where no rule is Free a piece stands for these steps alone
pub stands_only : (setup : Setup) (s : Stage) (piece : Plan) (here : List Step) → IsFixedStage s → StandsFor setup s piece here → here ≡ steps_of setup s piece
stands_only setup s (Do step) here fixed is = is
stands_only setup s (Return h n) here fixed (v, fits, is) = is ∙ ap (return_steps setup s.world h n) (one_return (returning s h n) (s.book h n) v (fixed.noted h n) fits)
