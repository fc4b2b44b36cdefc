-- What changes nothing.
use Rattle.std.specs.Prelude.{◌≡◌, false, None}
use Rattle.usb_model.specs.declared.refused.Refused.{Refused}
use Rattle.usb_model.specs.declared.reply.Reply.TheVariants as reply
use Rattle.usb_model.specs.declared.step.Step.{Step}
use Rattle.usb_model.specs.Setup.{Setup}
use Rattle.usb_model.specs.World.{World, owner_of, turn}
use Rattle.usb_model.specs.World.Journal.{is_unplug}

-- a step of nobody is idle and changes nothing, but for an Unplug
abbrev pub NobodyChangesNothing : Type 0
NobodyChangesNothing = (setup : Setup) (w : World) (step : Step)
    → owner_of setup w step ≡ None → is_unplug step ≡ false
    → ((turn setup w step).entry.reply ≡ reply.Idle) × ((turn setup w step).world ≡ w)

-- a refused step changes nothing
abbrev pub RefusedChangesNothing : Type 0
RefusedChangesNothing = (setup : Setup) (w : World) (step : Step) (why : Refused)
    → (turn setup w step).entry.reply ≡ reply.Refused why → (turn setup w step).world ≡ w
