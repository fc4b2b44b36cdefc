-- A step that is the core's is the world's, and leaves parts that show a world.
use Rattle.std.proofs.Common.{◌∙◌}
use Rattle.usb_model.specs.declared.entry.Entry.{Entry}
use Rattle.usb_model.specs.declared.step.Step.{Step}
use Rattle.refine_world.proofs.Calls.Whole.{whole_steps}
use Rattle.refine_core.specs.State.{IsState, State}
use Rattle.refine_core.specs.Steps.{DoesCoreStep, TurnsWorld}

module _ {P : Type 0} where
  -- a step of the core is a turn of the world
  pub turns : (old new : State P) (step : Step) (entry : Entry) → DoesCoreStep old step entry new → TurnsWorld old step entry new
  turns old new step entry does setup w shown =
      let done = does setup w shown.0 shown.1 shown.2 in
      let stepped = whole_steps setup shown.1.fine w shown.0 shown.2 step in
      (done.0 ∙ stepped.0, (_, done.1, stepped.1))

  -- so some world is shown again
  pub shows_again : (old new : State P) (step : Step) (entry : Entry) → DoesCoreStep old step entry new → IsState old → IsState new
  shows_again old new step entry does is =
      let turned = turns old new step entry does is.0 is.1 is.2 in
      (is.0, _, turned.1)
