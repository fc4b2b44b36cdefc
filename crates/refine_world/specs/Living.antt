-- Scripts that go on: what is answered later changes nothing of a run that never looked behind the end of its scripts.
use Rattle.std.specs.Prelude.{◌≡◌, ℕ, Bool, true, false, not, ◌&&◌, List, [], ◌∷◌, ◌++◌, Option, is_some, is_none}
use Rattle.usb_model.specs.declared.response.Response.{Response}
use Rattle.usb_model.specs.declared.step.Step.{Step}
use Rattle.usb_model.specs.declared.step.Step.TheVariants.{Serve}
use Rattle.usb_model.specs.declared.endpoint.Endpoint.{Endpoint}
use Rattle.usb_model.specs.declared.endpoint.EndpointState.{EndpointState}
use Rattle.usb_model.specs.declared.endpoint.EndpointState.TheVariants.{Running, Stopped, Halted}
use Rattle.usb_model.specs.Setup.{Setup, is_device, interfaces_of, endpoints_of, script_of}
use Rattle.usb_model.specs.Endpoint.{first_waiting}
use Rattle.usb_model.specs.World.{World, new_world, holder, turn, world_from}
use Rattle.usb_model.specs.World.Journal.{journal}

-- further answers, by device and address
abbrev pub More : Type 0
More = ℕ → ℕ → List Response

-- the same devices, whose scripts go on with these answers
pub record GoesOn (setup longer : Setup) (more : More) : Type 0 where
  pub devices : (d : ℕ) → is_device longer d ≡ is_device setup d
  pub interfaces : (d : ℕ) → interfaces_of longer d ≡ interfaces_of setup d
  pub endpoints : (d : ℕ) → endpoints_of longer d ≡ endpoints_of setup d
  pub scripts : (d ep : ℕ) → script_of longer d ep ≡ script_of setup d ep ++ more d ep

-- an endpoint whose device has more left
abbrev pub with_more : List Response → Endpoint → Endpoint
with_more more e = record e { script_left = e.script_left ++ more }

-- the world but that more is left
abbrev pub world_with : More → World → World
world_with more w = record w { endpoints = λ d ep. with_more (more d ep) (w.endpoints d ep) }

abbrev pub is_running : EndpointState → Bool
is_running Running = true
is_running Stopped = false
is_running Halted = false

abbrev pub is_empty : {A : Type 0} → List A → Bool
is_empty [] = true
is_empty (x ∷ xs) = false

-- a transfer waits for the device, which isn't halted and has no answer left: a Serve would answer Nak for want of one
abbrev pub is_wanting : Endpoint → Bool
is_wanting e = is_running e.state && (is_some (first_waiting e.line) && (not e.device_halted && is_empty e.script_left))

-- whether a step meets the end of a script that goes on
abbrev pub meets_end : Setup → More → World → Step → Bool
meets_end setup more w (Serve d ep) = not (is_empty (more d ep)) && (is_some (holder setup w.claims d ep) && (not (w.gone d) && is_wanting (w.endpoints d ep)))
meets_end setup more w _ = false

-- no step of a run meets it
abbrev pub StaysWithin : Setup → More → World → List Step → Type 0
StaysWithin setup more w [] = Unit {0}
StaysWithin setup more w (step ∷ steps) = (meets_end setup more w step ≡ false) × StaysWithin setup more (turn setup w step).world steps

-- then over the longer scripts the journal is the same, and the world where it ends is the same but that more is left
pub record IsUnseen (setup longer : Setup) (more : More) (steps : List Step) : Type 0 where
  pub same_journal : journal longer steps ≡ journal setup steps
  pub same_world : world_from longer (new_world longer) steps ≡ world_with more (world_from setup (new_world setup) steps)

abbrev pub GoesOnUnseen : Type 0
GoesOnUnseen = (setup longer : Setup) (more : More) (steps : List Step)
    → GoesOn setup longer more → StaysWithin setup more (new_world setup) steps → IsUnseen setup longer more steps
