-- What a submission is refused for, and what its transfer needs to join its line.
use Rattle.std.specs.Prelude.{◌≡◌, ℕ, ◌+◌, ◌<◌, ◌≤◌, length, Some}
use Rattle.usb_model.specs.declared.handle.Handle.{Handle}
use Rattle.usb_model.specs.declared.refused.Refused.{Refused}
use Rattle.usb_model.specs.declared.request.Request.{Request}
use Rattle.usb_model.specs.declared.step.Step.{Step}
use Rattle.usb_model.specs.Limits.{last_number, most_bytes}
use Rattle.usb_model.specs.Requests.{length_of}
use Rattle.usb_model.specs.Setup.{Setup, packet_size_of}
use Rattle.usb_model.specs.Kept.{trbs_of}
use Rattle.usb_tables.specs.Tds.{Tds, tds_of}
use Rattle.usb_rings.specs.Line.{capacity, used}
use Rattle.usb_xhc.specs.Context.{Context}
use Rattle.usb_tables.specs.HandleStates.{number_of}
use Rattle.usb_tables.specs.TransfersInFlight.{line_at}
use Rattle.refine_world.specs.Shows.{Core}
use Rattle.refine_world.specs.Steps.{Stepped}
use Rattle.refine_world.specs.Calls.{calls, joins, kept_at, refuses, submit_core}
use Rattle.refine_core.specs.State.{State}
use Rattle.refine_core.specs.Works.{IsAt, context_in}

-- a transfer can join the line of its endpoint: there is a ring with room for its TRBs, a place in the line, and a number
pub record CanStart {P : Type 0} (s : State P) (h d : ℕ) (request : Request) (tds : Tds) : Type 0 where
  pub context : Context
  pub there : context_in s.controller d request.ep ≡ Some context
  pub split : tds ≡ tds_of context.size request
  pub fits : used context.ring.line + length (trbs_of context.size request) ≤ capacity
  pub place : length (line_at s.flights d request.ep) < 16
  pub number : number_of s.callers h < last_number

-- the core's step: handle, what is left of the handle without the transfer that is made again
abbrev pub submits : Setup → Core → ℕ → Request → Handle → Step → ℕ → Stepped
submits setup c h request handle step round = submit_core setup c h handle step request round (kept_at setup c h request.ep)

-- it is refused for this
abbrev pub RefusesIt : Setup → Core → ℕ → Request → Refused → Type 0
RefusesIt setup c h request why = (handle : Handle) (step : Step) (round : ℕ) → submits setup c h request handle step round ≡ refuses c h why

-- it is accepted, at device d, as these TDs
pub record Admits {P : Type 0} (setup : Setup) (s : State P) (c : Core) (h d : ℕ) (request : Request) (tds : Tds) : Type 0 where
  pub at : IsAt setup s c h d request.ep
  pub takes : (handle : Handle) (step : Step) (round : ℕ) → submits setup c h request handle step round
      ≡ calls c h (record handle { next_number = (c.names h).next_number + 1 }) d request.ep step (joins (packet_size_of setup d request.ep) (c.endpoints d request.ep) (c.names h).next_number request round)
  pub short : length_of request.body ≤ most_bytes
  pub can : CanStart s h d request tds
