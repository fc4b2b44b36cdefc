-- Parts whose device is fed: one more answer behind a script of it.
use Rattle.std.specs.Prelude.{◌≡◌, ℕ, ◌<◌, Bool, true, false, [], ◌∷◌, length, Some}
use Rattle.usb_model.specs.declared.response.Response.{Response}
use Rattle.usb_model.specs.Limits.{longest_script}
use Rattle.usb_model.specs.Requests.{is_unsupported}
use Rattle.usb_model.specs.Setup.{Setup, endpoint_id, interface_of, is_in, kind_of, script_at}
use Rattle.usb_model.specs.World.{World}
use Rattle.usb_device.specs.Scripts.{is_answer}
use Rattle.usb_xhc.specs.Feeds.{controller_fed, device_may_be_fed}
use Rattle.refine_world.specs.Fed.{fed, fed_at}
use Rattle.refine_world.specs.Living.{world_with}
use Rattle.refine_core.specs.State.{ShowsWorld, State}

-- an answer of the endpoint's direction that isn't too long, where its script isn't full
pub record IsFeedable (setup : Setup) (dev ep : ℕ) (a : Response) : Type 0 where
  pub answer : is_answer (is_in ep) a ≡ true
  pub room : length (script_at setup dev (endpoint_id ep)) < longest_script

-- P: what callers keep with their transfers
module _ {P : Type 0} where
  -- the parts, where this device is fed at this address
  abbrev pub state_fed : ℕ → ℕ → Response → State P → State P
  state_fed dev ep a s = record s { controller = controller_fed dev ep a s.controller }

  -- whether it may have that answer there
  abbrev pub may_be_fed_at : ℕ → ℕ → Response → State P → Bool
  may_be_fed_at dev ep a s = device_may_be_fed dev ep a s.controller

  -- of each world that the old parts show, the new ones show that where more is left, over the devices whose script ends with this answer
  abbrev pub FeedsWorld : State P → ℕ → ℕ → Response → State P → Type 0
  FeedsWorld old dev ep a new = (setup : Setup) (w : World) → ShowsWorld setup old w
      → ShowsWorld (fed setup dev (endpoint_id ep) (a ∷ [])) new (world_with (fed_at setup dev (endpoint_id ep) (a ∷ [])) w)

-- parts that are fed show the world where more is left
abbrev pub FeedsWorlds : Type 0 → Type 0
FeedsWorlds P = (s : State P) (dev ep : ℕ) (a : Response) → may_be_fed_at dev ep a s ≡ true → FeedsWorld s dev ep a (state_fed dev ep a s)

-- an endpoint where transfers can go may have each such answer; and no endpoint may have another one
abbrev pub FeedsFeedable : Type 0 → Type 0
FeedsFeedable P = (s : State P) (setup : Setup) (w : World) (dev ep i : ℕ) (a : Response) → ShowsWorld setup s w → interface_of setup dev ep ≡ Some i → is_unsupported (kind_of setup dev ep) ≡ false
    → IsFeedable setup dev ep a → may_be_fed_at dev ep a s ≡ true

abbrev pub FeedsOnlyFeedable : Type 0 → Type 0
FeedsOnlyFeedable P = (s : State P) (setup : Setup) (w : World) (dev ep : ℕ) (a : Response) → ShowsWorld setup s w → may_be_fed_at dev ep a s ≡ true → IsFeedable setup dev ep a
