-- The outcome where the device's endpoint isn't halted.
use Rattle.std.proofs.Common.{◌≡◌, ℕ, false, List, [], ◌∷◌, refl}
use Rattle.usb_model.specs.declared.response.Response.{Response}
use Rattle.usb_model.specs.declared.request.Request.{Request}
use Rattle.usb_model.specs.Endpoint.Packets.{outcome, moved_by, without_naks}

-- the share of a device that isn't halted, whether empty or not
pub outcome_is : (request : Request) (size : ℕ) (share : List Response) → outcome request size share false ≡ moved_by request size request.body (without_naks share)
unfolding outcome
outcome_is request size [] = refl
outcome_is request size (x ∷ xs) = refl
