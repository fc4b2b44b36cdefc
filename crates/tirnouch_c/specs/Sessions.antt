-- A session that is made of a text.
use Rattle.std.specs.Prelude.{◌≡◌, ℕ, List, None, Ok}
use Rattle.usb_core.specs.Public.{Carries, Kept, ShowsWorld}
use Rattle.usb_devicetext.specs.declared.desk.DeviceText.{DeviceText}
use Rattle.usb_devicetext.specs.DeviceText.{desk_of}
use Rattle.usb_scripttext.specs.Results.{IsFaultOf}
use Rattle.usb_scripttext.specs.declared.text_fault.TextFault.{TextFault}
use Rattle.usb_model.specs.World.{new_world}
use Rattle.tirnouch_c.specs.declared.session.Session.{Session}

-- a session of a text: it shows the new world of the text's devices, has what else the text says of them, carries nothing, and has nothing to be fetched
pub record IsMade (text : List ℕ) (s : Session) : Type 0 where
  pub desk : DeviceText
  pub read : desk_of text ≡ Ok desk
  pub shows : ShowsWorld desk.scripted s.core (new_world desk.scripted)
  pub carries : (kept : Kept ℕ) → Carries kept s.core
  pub devices : s.devices ≡ desk.devices
  pub out : s.out ≡ None

-- why there is none: the first line that isn't taken, or want of memory
abbrev pub IsUnmade : List ℕ → TextFault → Type 0
IsUnmade text fault = IsFaultOf fault (desk_of text)
