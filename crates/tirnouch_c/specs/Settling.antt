-- What is to be done, until nothing is.
use Rattle.std.specs.Prelude.{◌≡◌, ℕ, zero, suc, ◌<◌, ◌≤◌, Bool, true, false, find, Option, Some, None, if◌then◌else◌}
use Rattle.std.specs.Option.{option_map}
use Rattle.usb_core.specs.Public.{ShowsWorld, State, StillCarries, does_something, serves}
use Rattle.usb_core.specs.Pending.{in_circle}
use Rattle.usb_model.specs.declared.step.Step.{Step}
use Rattle.usb_model.specs.declared.step.Step.TheVariants.{Command, Deliver, Serve}
use Rattle.usb_model.specs.Coherence.{has_asked}
use Rattle.usb_model.specs.Laws.Bounds.{line_at}
use Rattle.usb_model.specs.Machine.{endpoint_at}
use Rattle.usb_model.specs.Setup.{Setup}
use Rattle.usb_model.specs.World.{World, machine_of, turn}
use Rattle.tirnouch_c.specs.declared.session.Session.{Session}
use Rattle.tirnouch_c.specs.declared.settling.SettleProgress.{SettleProgress}
use Rattle.tirnouch_c.specs.Calls.{SameBeside}
use Rattle.tirnouch_c.specs.Replies.{bit}

-- the packet that is to be served next: the first that does something, by device and address
abbrev pub next_packet : Setup → World → Option Step
next_packet setup w = option_map (λ x. Serve x.0 x.1) (find (λ x. serves setup w x.0 x.1) (in_circle None))

-- the step that is to be made next: an event is handled before an order runs, and an order runs before a packet is served
abbrev pub next_step : Setup → Bool → World → Option Step
next_step setup packets w =
    if does_something setup w Deliver then Some Deliver
    else if does_something setup w Command then Some Command
    else if packets then next_packet setup w
    else None

-- whether there is one
abbrev pub is_something : Option Step → Bool
is_something None = false
is_something (Some step) = true

-- the world behind a step, if there is one
abbrev pub behind_step : Setup → World → Option Step → World
behind_step setup w None = w
behind_step setup w (Some step) = (turn setup w step).world

-- the step that was to be made next was made, if there was one
pub record AdvancesBy (next : Setup → World → Option Step) (made : Bool) (s t : State ℕ) : Type 0 where
  pub made_is : (setup : Setup) (w : World) → ShowsWorld setup s w → made ≡ is_something (next setup w)
  pub shows : (setup : Setup) (w : World) → ShowsWorld setup s w → ShowsWorld setup t (behind_step setup w (next setup w))
  pub carries : StillCarries s t

abbrev pub Advances : Bool → Bool → (s t : State ℕ) → Type 0
Advances packets made s t = AdvancesBy (λ setup w. next_step setup packets w) made s t

abbrev pub ServesNext : Bool → (s t : State ℕ) → Type 0
ServesNext made s t = AdvancesBy next_packet made s t

-- the world behind so many of them
unfoldable pub worked : Setup → Bool → World → ℕ → World
worked setup packets w zero = w
worked setup packets w (suc k) = behind_step setup (worked setup packets w k) (next_step setup packets (worked setup packets w k))

-- no transfer of any handle that was asked to end is in progress
abbrev pub NoneAsked : Setup → World → Type 0
NoneAsked setup w = (h ep : ℕ) → has_asked (line_at (endpoint_at (machine_of setup h w) ep)) ≡ false

-- as many steps as it says, each of which was to be made; fewer than wanted only where nothing is left. Then each transfer that was asked to end has ended
pub record Settles (packets : Bool) (most : ℕ) (progress : SettleProgress) (s t : Session) : Type 0 where
  pub quiet : Bool
  pub is_settled : progress.is_settled ≡ bit quiet
  pub within : progress.steps ≤ most
  pub shows : (setup : Setup) (w : World) → ShowsWorld setup s.core w → ShowsWorld setup t.core (worked setup packets w progress.steps)
  pub each : (setup : Setup) (w : World) (k : ℕ) → ShowsWorld setup s.core w → k < progress.steps → next_step setup packets (worked setup packets w k) ≡ None → ⊥
  pub nothing_left : (setup : Setup) (w : World) → ShowsWorld setup s.core w → quiet ≡ true → next_step setup packets (worked setup packets w progress.steps) ≡ None
  pub ended : (setup : Setup) (w : World) → ShowsWorld setup s.core w → quiet ≡ true → NoneAsked setup (worked setup packets w progress.steps)
  pub whole : quiet ≡ false → progress.steps ≡ most
  pub carries : StillCarries s.core t.core
  pub same : SameBeside s t
