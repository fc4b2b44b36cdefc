-- A submission of a handle, perhaps from a callback that ends by it.
use Rattle.std.specs.Prelude.{◌≡◌, ℕ, ◌+◌, ◌==◌, nat_le, length, Bool, not, ◌||◌, List, [], ◌∷◌, Option, Some, None}
use Rattle.usb_model.specs.declared.refused.Refused.{Refused}
use Rattle.usb_model.specs.declared.refused.Refused.TheVariants.{InvalidParam, NoDevice, Busy, NotSupported}
use Rattle.usb_model.specs.declared.reply.Reply.TheVariants as reply
use Rattle.usb_model.specs.declared.request.Request.{Request}
use Rattle.usb_model.specs.declared.effect.Effect.{Effect}
use Rattle.usb_model.specs.declared.endpoint.Endpoint.{Endpoint}
use Rattle.usb_model.specs.declared.handle.Handle.{Handle}
use Rattle.usb_model.specs.Requests.{is_same_kind, is_unsupported}
use Rattle.usb_model.specs.Setup.{Setup, kind_of}
use Rattle.usb_model.specs.Machine.{Machine, device_of, is_gone, places, says, at_endpoint}
use Rattle.usb_model.specs.Machine.Calls.{is_bad_body, submitted, submit_effect, without}

-- the handle without the transfer whose callback ends, if one does
abbrev pub after_callback : Option ℕ → Handle → Handle
after_callback None handle = handle
after_callback (Some n) handle = record handle { in_callbacks = without n handle.in_callbacks }

-- the transfer joins the line of the handle's endpoint, wherever that stands
abbrev pub Admits : Setup → Machine → ℕ → Request → Type 0
Admits setup m dev request = (after : Handle) (round : ℕ) (e : Endpoint) → m.endpoints dev request.ep ≡ Some e
    → submit_effect setup m after request round ≡ at_endpoint (record after { next_number = m.handle.next_number + 1 }) dev request.ep (submitted m.handle.next_number request round e)

-- refused for this cause, if there is one; else the rest
abbrev pub refused_by : Machine → Option Refused → Effect → Effect
refused_by m None rest = rest
refused_by m (Some why) rest = says m (reply.Refused why)
