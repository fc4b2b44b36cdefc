-- A device's descriptors.
use Rattle.std.specs.Prelude.{◌≡◌, ℕ, ℤ, ◌==◌, List, length, slice_get, Option, Some, None, if◌then◌else◌}
use Rattle.std.specs.Option.{option_and_then}
use Rattle.usb_devicetext.specs.declared.answer.ControlAnswer.{ControlAnswer}
use Rattle.usb_devicetext.specs.declared.answer.ControlAnswer.TheVariants as answer
use Rattle.usb_devicetext.specs.declared.device.DeskDevice.{DeskDevice}
use Rattle.usb_devicetext.specs.Control.{string_at}
use Rattle.tirnouch_c.specs.declared.session.Session.{Session}
use Rattle.tirnouch_c.specs.Buffers.{answer_of, filled}
use Rattle.tirnouch_c.specs.Facts.{not_found}

-- the bytes of an answer, if it has any
abbrev pub bytes_in : ControlAnswer → Option (List ℕ)
bytes_in (answer.Data bytes) = Some bytes
bytes_in _ = None

-- a descriptor by its type (USB 2.0, 9.4): the device's, its configuration's, a string
abbrev pub description : DeskDevice → (kind index : ℕ) → Option (List ℕ)
description d kind index =
    if kind == 1 then Some d.descriptor
    else if kind == 2 then Some d.configuration
    else if kind == 3 then bytes_in (string_at d index)
    else None

-- bytes, if there are any: how many, and as many as there is room for
abbrev pub TellsBytes : Option (List ℕ) → ℤ → (old new : List ℕ) → Type 0
TellsBytes None answer old new = (answer ≡ not_found) × (new ≡ old)
TellsBytes (Some bytes) answer old new = (answer ≡ answer_of (length bytes)) × (new ≡ filled bytes old)

abbrev pub Describes : (dev kind index : ℕ) → ℤ → (old new : List ℕ) → Session → Type 0
Describes dev kind index answer old new s = TellsBytes (option_and_then (λ d. description d kind index) (slice_get s.devices dev)) answer old new
