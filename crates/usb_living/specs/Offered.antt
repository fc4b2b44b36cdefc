-- What the packet that is told as next is to its device, over the turn in which it is answered.
use Rattle.std.specs.Prelude.{◌≡◌, ℕ, ◌==◌, nat_lt, Bool, true, false, List, [], ◌∷◌, ◌++◌, length, Some}
use Rattle.usb_core.specs.Public.{IsNext, ShowsWorld, State}
use Rattle.usb_model.specs.declared.reply.Reply.{Reply}
use Rattle.usb_model.specs.declared.reply.Reply.TheVariants.{Ended}
use Rattle.usb_model.specs.declared.request.Body.TheVariants.{In, Out}
use Rattle.usb_model.specs.declared.response.Response.{Response}
use Rattle.usb_model.specs.declared.response.Response.TheVariants.{Ack, Data}
use Rattle.usb_model.specs.declared.step.Step.TheVariants.{Serve}
use Rattle.usb_model.specs.Completion.{babble_detected}
use Rattle.usb_model.specs.Setup.{Setup, endpoint_id}
use Rattle.usb_model.specs.World.{Turn, World, holder, turn}
use Rattle.refine_world.specs.Fed.{fed}
use Rattle.refine_world.specs.Living.{GoesOn, More, world_with}

-- scripts that go on, that of this endpoint with this answer
pub record GoesOnWith (setup longer : Setup) (dev ep : ℕ) (a : Response) : Type 0 where
  pub more : More
  pub goes_on : GoesOn setup longer more
  pub behind : List Response
  pub first : more dev ep ≡ a ∷ behind

-- the turn in which a packet is served over the scripts that went on
abbrev pub answered : Setup → More → World → (dev ep : ℕ) → Turn
answered longer more w dev ep = turn longer (world_with more w) (Serve dev ep)

-- what the device is told to be next it has behind its Ack, as one packet behind those that it had
abbrev pub TakesWhatItIsTold : Type 0 → Type 0
TakesWhatItIsTold P = (s : State P) (setup longer : Setup) (w : World) (dev ep owner n room : ℕ) (out bytes : List ℕ) → ShowsWorld setup s w
    → (next : IsNext setup w dev ep owner n out room true) → next.item.request.body ≡ Out bytes → (on : GoesOnWith setup longer dev ep Ack)
    → ((answered longer on.more w dev ep).world.endpoints dev ep).packets_received ≡ (w.endpoints dev ep).packets_received ++ out ∷ []

-- whether a reply tells that a transfer ended by a packet that was too long (xHCI 1.2, 6.4.5)
abbrev pub tells_babble : Reply → Bool
tells_babble (Ended n code) = code == babble_detected
tells_babble _ = false

-- a packet of the device is too long just where it has more bytes than the room that it is told
abbrev pub FitsTheRoomItIsTold : Type 0 → Type 0
FitsTheRoomItIsTold P = (s : State P) (setup longer : Setup) (w : World) (dev ep owner n room asked : ℕ) (out b : List ℕ) → ShowsWorld setup s w
    → (next : IsNext setup w dev ep owner n out room true) → next.item.request.body ≡ In asked → (on : GoesOnWith setup longer dev ep (Data b))
    → tells_babble (answered longer on.more w dev ep).entry.reply ≡ nat_lt room (length b)

-- an answer that is fed where somebody holds the endpoint makes its script go on so
abbrev pub FeedingGoesOn : Type 0 → Type 0
FeedingGoesOn P = (s : State P) (setup : Setup) (w : World) (dev ep owner : ℕ) (a : Response) → ShowsWorld setup s w → holder setup w.claims dev ep ≡ Some owner
    → GoesOnWith setup (fed setup dev (endpoint_id ep) (a ∷ [])) dev ep a
