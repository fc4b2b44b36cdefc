-- What is wrong with a line by itself, wherever it stands.
use Rattle.std.specs.Prelude.{◌≡◌, ℕ, ⊤, ◌-◌, ◌==◌, Bool, true, false, ◌&&◌, is_none, List, length, slice_get, Option, Some, None}
use Rattle.std.specs.List.{list_any}
use Rattle.std.specs.Option.{option_map_or}
use Rattle.usb_scripttext.specs.Words.{is_ascii, words_in}
use Rattle.usb_devicetext.specs.declared.reason.LineReason.{LineReason}
use Rattle.usb_devicetext.specs.declared.reason.LineReason.TheVariants as reason
use Rattle.usb_devicetext.specs.declared.topic.Topic.{Topic}
use Rattle.usb_devicetext.specs.declared.topic.Topic.TheVariants as topic
use Rattle.usb_devicetext.specs.FormFault.{FitsForm, topic_in}
use Rattle.usb_devicetext.specs.Line.{line_of_text}

-- whether a line of this first word says something of a device, beside its configuration and the scripts of its endpoints
abbrev pub is_saying : Topic → Bool
is_saying topic.Device = false
is_saying topic.Script = false
is_saying topic = true

-- whether a line begins as one that does
abbrev pub begins_saying : List ℕ → Bool
begins_saying text = option_map_or is_saying (topic_in (words_in text)) false

-- when a reason fits a line by itself: not one that is about other lines
abbrev pub FitsAlone : LineReason → List ℕ → Type 0
FitsAlone reason.Ascii text = is_ascii text ≡ false
FitsAlone reason.CarriageReturn text = slice_get text (length text - 1) ≡ Some 13
FitsAlone reason.Tab text = list_any (λ b. b == 9) text ≡ true
FitsAlone (reason.Form why) text = FitsForm why (words_in text)
FitsAlone (reason.Place why) text = true ≡ false
FitsAlone (reason.Repeated at) text = true ≡ false
FitsAlone reason.Refused text = ⊤

-- a line is complained of where it begins so and isn't taken, by a reason that fits it
abbrev pub ComplainsOfLine : List ℕ → Option LineReason → Type 0
ComplainsOfLine text None = (begins_saying text && is_none (line_of_text text)) ≡ false
ComplainsOfLine text (Some why) = (begins_saying text ≡ true) × (line_of_text text ≡ None) × FitsAlone why text
