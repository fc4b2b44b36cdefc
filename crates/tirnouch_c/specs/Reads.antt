-- What can be asked without a step.
use Rattle.std.specs.Prelude.{◌≡◌, ℕ, ℤ, negsuc, ◌+◌, ◌*◌, Bool, List, length, slice_get, Option, Some, None}
use Rattle.usb_core.specs.Inventory.{halted}
use Rattle.usb_core.specs.Public.{IsPending, ShowsWorld, does_something, serves}
use Rattle.usb_core.specs.declared.pending.Pending.{Pending}
use Rattle.usb_model.specs.declared.step.Step.TheVariants.{Command, Deliver, Take}
use Rattle.usb_model.specs.Setup.{Setup, interface_of}
use Rattle.usb_model.specs.World.{World, holder}
use Rattle.tirnouch_c.specs.declared.reads.EndpointView.{EndpointView}
use Rattle.tirnouch_c.specs.declared.reads.NextWork.{NextWork}
use Rattle.tirnouch_c.specs.declared.session.Session.{Session}
use Rattle.tirnouch_c.specs.Buffers.{answer_of, filled}
use Rattle.tirnouch_c.specs.Replies.{bit, nobody}

-- what waits: 1, 2 and 4 for an order, an event and a result
abbrev pub waiting_bits : (order event result : Bool) → ℕ
waiting_bits order event result = bit order + 2 * bit event + 4 * bit result

-- an endpoint where a packet does something, if there is one; and what else waits
abbrev pub place_numbers : Option (ℕ × ℕ) → ℕ → NextWork
place_numbers None waiting = record { has_packet = 0; device = nobody; endpoint = 0; waiting = waiting }
place_numbers (Some x) waiting = record { has_packet = 1; device = x.0; endpoint = x.1; waiting = waiting }

-- what is to be done next, in numbers; how many callbacks run isn't among them
abbrev pub next_numbers : Pending → NextWork
next_numbers p = place_numbers p.serve (waiting_bits p.command p.deliver p.take)

pub record TellsPending (after : Option (ℕ × ℕ)) (s : Session) (next : NextWork) : Type 0 where
  pub pending : Pending
  pub next_is : next ≡ next_numbers pending
  pub is : (setup : Setup) (w : World) → ShowsWorld setup s.core w → IsPending setup w after pending

-- a packet that was taken, if there is one
abbrev pub TellsPacket : Option (List ℕ) → ℤ → (old new : List ℕ) → Type 0
TellsPacket None answer old new = (answer ≡ negsuc 0) × (new ≡ old)
TellsPacket (Some packet) answer old new = (answer ≡ answer_of (length packet)) × (new ≡ filled packet old)

-- where there is such an endpoint; and where there is none, as past the last packet
pub record TellsTaken (dev ep i : ℕ) (answer : ℤ) (old new : List ℕ) (s : Session) : Type 0 where
  pub there : (setup : Setup) (w : World) (k : ℕ) → ShowsWorld setup s.core w → interface_of setup dev ep ≡ Some k → TellsPacket (slice_get (w.endpoints dev ep).packets_received i) answer old new
  pub nowhere : (setup : Setup) (w : World) → ShowsWorld setup s.core w → interface_of setup dev ep ≡ None → TellsPacket None answer old new

-- what is to be done at an endpoint, in numbers: a packet; an order, an event and a result; a halt; how many answers are left
abbrev pub view_numbers : (packet order event result is_halted : Bool) → ℕ → EndpointView
view_numbers packet order event result is_halted left =
    record { has_packet = bit packet; waiting = waiting_bits order event result; is_halted = bit is_halted; answers_left = left }

-- what is to be done at an endpoint; of its halt and of what is left of its script it is sure where a handle holds it
pub record TellsLook (dev ep : ℕ) (s : Session) (view : EndpointView) : Type 0 where
  pub is_halted : Bool
  pub left : ℕ
  pub view_is : (setup : Setup) (w : World) → ShowsWorld setup s.core w
      → view ≡ view_numbers (serves setup w dev ep) (does_something setup w Command) (does_something setup w Deliver) (does_something setup w Take) is_halted left
  pub held : (setup : Setup) (w : World) (h : ℕ) → ShowsWorld setup s.core w → holder setup w.claims dev ep ≡ Some h
      → (left ≡ length (w.endpoints dev ep).script_left) × (is_halted ≡ halted (w.endpoints dev ep))
