-- Steps in a row are turns of the world.
use Rattle.std.proofs.Common.{◌≡◌, ℕ, [], ◌∷◌, Option, Some, None, List, length}
use Rattle.usb_model.specs.declared.reply.Reply.TheVariants.{Done}
use Rattle.usb_model.specs.declared.step.Step.{Step}
use Rattle.usb_model.specs.declared.step.Step.TheVariants.{Answer, Take}
use Rattle.usb_model.specs.declared.verdict.Verdict.TheVariants.{Stop}
use Rattle.usb_model.specs.Setup.{Setup}
use Rattle.usb_model.specs.World.{World, world_from}
use Rattle.refine_world.specs.Shows.{Core, Shows}
use Rattle.refine_core.specs.Calls.{called_entry}
use Rattle.refine_core.specs.Handles.{says}
use Rattle.refine_core.specs.State.{IsState, Keeps, ShowsWorld, State}
use Rattle.refine_core.specs.Steps.{core_behind}
use Rattle.refine_core.proofs.Rows.{runs, shows_behind, steps_run}
use Rattle.refine_core.proofs.Turns.{shows_again, turns}
use Rattle.usb_core.specs.declared.results.Taken.{Taken}
use Rattle.usb_core.specs.Drains.{drained_steps}
use Rattle.usb_core.specs.Results.{TakesDone}
use Rattle.usb_core.specs.Bursts.{TakesAndStops}

module _ {P : Type 0} (old new : State P) where
  -- a result that goes out and a callback that ends are so
  pub takes_and_stops : (t : Option (Taken P)) → TakesDone old t new → TakesAndStops old t new
  takes_and_stops None does = (turns old new Take (called_entry None) does.0, does.1)
  takes_and_stops (Some t) does = runs old new (Take ∷ Answer t.returned.h t.returned.n Stop ∷ []) (called_entry (Some t.returned) ∷ says t.returned.h Done ∷ []) does

  -- and some world is shown again
  pub shown_behind : (t : Option (Taken P)) → TakesDone old t new → IsState old → IsState new
  shown_behind None does is = shows_again old new Take (called_entry None) does.0 is
  shown_behind (Some t) does is = shows_behind old new (Take ∷ Answer t.returned.h t.returned.n Stop ∷ []) (called_entry (Some t.returned) ∷ says t.returned.h Done ∷ []) does is

  -- what is drained is so: the world behind it is shown
  pub drains : (most count : ℕ) → ((setup : Setup) (w : World) (c : Core) → Keeps setup old c → Shows setup w c → (count ≡ length (drained_steps most setup w)) × Keeps setup new (core_behind setup c (drained_steps most setup w)))
      → (setup : Setup) (w : World) → ShowsWorld setup old w → (count ≡ length (drained_steps most setup w)) × ShowsWorld setup new (world_from setup w (drained_steps most setup w))
  drains most count does setup w shown =
      let done = does setup w shown.0 shown.1 shown.2 in
      let run = steps_run setup w shown.0 (drained_steps most setup w) shown.1.fine shown.2 in
      (done.0, (core_behind setup shown.0 (drained_steps most setup w), done.1, run.1))
