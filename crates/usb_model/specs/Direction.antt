-- Direction: which transfers and which answers go which way.
use Rattle.std.specs.Prelude.{Bool, true, false}
use Rattle.usb_model.specs.declared.response.Response.{Response}
use Rattle.usb_model.specs.declared.response.Response.TheVariants as response
use Rattle.usb_model.specs.declared.request.Body.{Body}
use Rattle.usb_model.specs.declared.request.Body.TheVariants.{In, Out}

-- a transfer that moves bytes in this direction; inward: to the host
abbrev pub IsBody : Bool → Body → Type 0
IsBody true (In n) = Unit {0}
IsBody true (Out bytes) = ⊥
IsBody false (In n) = ⊥
IsBody false (Out bytes) = Unit {0}

-- an answer that a device may give: an IN endpoint has no acknowledgement, an OUT endpoint no data
abbrev pub is_of_direction : Bool → Response → Bool
is_of_direction true response.Ack = false
is_of_direction false (response.Data b) = false
is_of_direction _ _ = true
