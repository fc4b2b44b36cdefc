-- A controller whose device is fed.
use Rattle.std.specs.Prelude.{◌≡◌, ℕ, Bool, true, List, [], ◌∷◌}
use Rattle.usb_model.specs.declared.response.Response.{Response}
use Rattle.usb_model.specs.Setup.{Setup, endpoint_id}
use Rattle.usb_model.specs.Kept.{KeptEndpoint}
use Rattle.usb_xhc.specs.Controller.{Controller}
use Rattle.usb_xhc.specs.Feeds.{controller_fed, device_may_be_fed}
use Rattle.refine_world.specs.Shows.{RingEvent, RingOrder}
use Rattle.refine_world.specs.Fed.{fed, fed_at}
use Rattle.refine_world.specs.FedCore.{kept_with}
use Rattle.refine_world.specs.Living.{More}
use Rattle.refine_rings.specs.Holds.{Holds}

-- the endpoints of a core, where more is left
abbrev pub ends_with : More → (ℕ → ℕ → KeptEndpoint) → ℕ → ℕ → KeptEndpoint
ends_with more endpoints d e = kept_with (more d e) (endpoints d e)

-- a controller that holds a core, and is fed, holds that core where more is left, of the devices whose script goes on
abbrev pub FeedsCore : Type 0
FeedsCore = (setup : Setup) (k : Controller) (gone : ℕ → Bool) (endpoints : ℕ → ℕ → KeptEndpoint) (orders : List RingOrder) (events : List RingEvent) (posted dev ep : ℕ) (a : Response)
    → device_may_be_fed dev ep a k ≡ true → Holds setup k gone endpoints orders events posted
    → Holds (fed setup dev (endpoint_id ep) (a ∷ [])) (controller_fed dev ep a k) gone (ends_with (fed_at setup dev (endpoint_id ep) (a ∷ [])) endpoints) orders events posted
