-- What never completes of a run in threads: transfers, and what waits for them.
use Rattle.std.specs.Prelude.{◌≡◌, ℕ, Bool, true, false, List, filter}
use Rattle.usb_model.specs.declared.entry.Entry.{Entry}
use Rattle.usb_model.specs.declared.plan.Plan.{Plan}
use Rattle.usb_model.specs.declared.step.Step.{Step}
use Rattle.usb_model.specs.declared.verdict.Rule.{Rule}
use Rattle.usb_model.specs.Setup.{Setup}
use Rattle.usb_model.specs.World.{new_world, world_from}
use Rattle.trace_left.specs.declared.left.Left.{Left}
use Rattle.trace_left.specs.declared.left.Left.TheVariants.{At, Held, Open}
use Rattle.trace_left.specs.declared.left.Thing.{Thing}
use Rattle.trace_left.specs.declared.left.Thing.TheVariants.{IsHalted, Unused}
use Rattle.trace_left.specs.Left.{all_left}
use Rattle.trace_threads.specs.AtRest.{IsAtRest}
use Rattle.trace_threads.specs.Callbacks.{AreCallbacks}
use Rattle.trace_threads.specs.Calls.{HasCalls}
use Rattle.trace_threads.specs.Verdicts.{AreToldSo, ruled}

-- whether something is of a transfer or an order that isn't over: not a halt, and not what a device has left to answer
abbrev pub is_under_way : Thing → Bool
is_under_way IsHalted = false
is_under_way (Unused answers) = false
is_under_way thing = true

-- whether what a handle left is such a thing: not that a device is open, or an interface held
abbrev pub is_unfinished : Left → Bool
is_unfinished (Open h dev) = false
is_unfinished (Held h interface) = false
is_unfinished (At h ep thing) = is_under_way thing

-- what handles hadn't finished where a run of these steps ends, by handle
abbrev pub unfinished_in : Setup → List Step → List Left
unfinished_in setup steps = filter is_unfinished (all_left setup (world_from setup (new_world setup) steps))

-- a plan was performed by these steps, which have its calls, with callbacks by these rules, of which so many may answer as they like: what callbacks were told of their run, and what was unfinished where it ended, with nothing left to be done
pub record IsPerformed (setup : Setup) (plan : List Plan) (rules : List Rule) (rounds : ℕ) (steps : List Step) (told : List Entry) (unfinished : List Left) : Type 0 where
  pub calls : HasCalls plan steps
  pub verdicts : AreToldSo setup (ruled plan rules) rounds steps
  pub callbacks : AreCallbacks setup steps told
  pub left : unfinished ≡ unfinished_in setup steps
  pub rest : IsAtRest setup (world_from setup (new_world setup) steps)
