-- Where a transfer is in progress.
use Rattle.std.proofs.Common.{◌≡◌, ℕ, List, [], ◌∷◌, Option, None, refl}
use Rattle.usb_model.specs.declared.setup.EndpointInfo.{EndpointInfo}
use Rattle.usb_model.specs.Machine.{Machine}
use Rattle.usb_model.specs.Machine.Calls.{home_of}

-- a handle that is closed has no home for it
pub closed_has_none : (m : Machine) (n : ℕ) (infos : List EndpointInfo) → m.handle.device ≡ None → home_of m n infos ≡ None
unfolding home_of
closed_has_none m n [] closed = refl
closed_has_none m n (x ∷ infos) closed = rw closed (closed_has_none m n infos closed)
