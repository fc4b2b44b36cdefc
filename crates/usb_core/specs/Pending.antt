-- What is to be done next, by the world alone.
use Rattle.std.specs.Prelude.{◌≡◌, ◌↔◌, ℕ, zero, suc, ◌+◌, ◌*◌, ◌/◌, ◌%◌, nat_lt, Bool, true, false, ◌||◌, ◌&&◌, List, [], ◌∷◌, length, find, is_some, slice_get, Option, Some, None, if◌then◌else◌}
use Rattle.std.specs.Option.{option_map_or}
use Rattle.usb_model.specs.declared.reply.Reply.{Reply}
use Rattle.usb_model.specs.declared.reply.Reply.TheVariants.{Idle, Nak}
use Rattle.usb_model.specs.declared.step.Step.{Step}
use Rattle.usb_model.specs.declared.step.Step.TheVariants.{Command, Deliver, Serve, Take}
use Rattle.usb_model.specs.Setup.{Setup, is_in}
use Rattle.usb_model.specs.World.{World, turn}
use Rattle.usb_xhc.specs.Transaction.{working}
use Rattle.usb_device.specs.Pipe.{is_ready, pipe_at}
use Rattle.usb_xhc.specs.Controller.{Controller}
use Rattle.usb_xhc.specs.Slots.{context_of}
use Rattle.usb_core.specs.declared.pending.Pending.{Pending}

-- whether a reply tells of something that was done; left: whether an answer was left, and so was taken, where the device wasn't ready
abbrev pub tells_work : Bool → Reply → Bool
tells_work left Idle = false
tells_work left (Nak n) = left
tells_work left reply = true

-- whether a device has an answer left at an endpoint
abbrev pub has_answers : World → (dev ep : ℕ) → Bool
has_answers w dev ep = nat_lt 0 (length (w.endpoints dev ep).script_left)

-- whether a packet does something: there is a transfer to serve, and the device is ready or goes on in its script
abbrev pub serves : Setup → World → (dev ep : ℕ) → Bool
serves setup w dev ep = tells_work (has_answers w dev ep) (turn setup w (Serve dev ep)).entry.reply

-- whether another step does something: there is something to do
abbrev pub does_something : Setup → World → Step → Bool
does_something setup w step = tells_work false (turn setup w step).entry.reply

-- the endpoint of a place, 0 to 119: of each device in turn by address, which is 1 to 15 for OUT and 129 to 143 for IN (USB 2.0, 9.6.6)
abbrev pub end_of : ℕ → ℕ × ℕ
end_of place = (place / 30, place % 30 + (if nat_lt (place % 30) 15 then 1 else 114))

-- the place behind an endpoint; the first where there is none
abbrev pub behind : Option (ℕ × ℕ) → ℕ
behind None = 0
behind (Some x) = 30 * x.0 + x.1 % 16 + (if is_in x.1 then 15 else 0)

-- so many endpoints from a place on, in a circle
unfoldable pub ends_from : (count place : ℕ) → List (ℕ × ℕ)
ends_from zero place = []
ends_from (suc count) place = end_of (place % 120) ∷ ends_from count (place + 1)

-- every endpoint, from behind one on
abbrev pub in_circle : Option (ℕ × ℕ) → List (ℕ × ℕ)
in_circle after = ends_from 120 (behind after)

-- what is to be done next: the first endpoint where a packet does something, and which of the other steps do
pub record IsPending (setup : Setup) (w : World) (after : Option (ℕ × ℕ)) (p : Pending) : Type 0 where
  pub serve : p.serve ≡ find (λ x. serves setup w x.0 x.1) (in_circle after)
  pub command : p.command ≡ does_something setup w Command
  pub deliver : p.deliver ≡ does_something setup w Deliver
  pub take : p.take ≡ does_something setup w Take
  -- some name has a transfer in its callback
  pub out : (p.out ≡ true) ↔ ((h : ℕ) × ((w.names h).in_callbacks ≡ [] → ⊥))

-- the controller has a transfer to serve at an endpoint, and the device is ready there or gone
abbrev pub can_answer : Controller → (d e : ℕ) → Bool
can_answer k d e = option_map_or (λ s. option_map_or (λ x. is_some (working x) && (s.gone || is_ready (pipe_at s.pipes e))) (context_of s e) false) (slice_get k.slots d) false
