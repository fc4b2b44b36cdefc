-- Why a line of a text isn't taken, and when that is so.
use Rattle.std.specs.Prelude.{◌≡◌, ℕ, ◌-◌, ◌==◌, ⊤, Bool, true, false, ◌&&◌, List, [], ◌++◌, codes, length, slice_get, take, Option, Some, None, Result, Ok, Err}
use Rattle.std.specs.Fmt.{decimal}
use Rattle.std.specs.List.{list_any}
use Rattle.std.specs.Option.{option_and_then, option_map}
use Rattle.std.specs.Result.{is_ok}
use Rattle.usb_model.specs.declared.setup.DeviceSetup.{DeviceSetup}
use Rattle.usb_scripttext.specs.Words.{is_ascii}
use Rattle.usb_scripttext.specs.Words.{words_in}
use Rattle.usb_devicetext.specs.declared.desk.DeviceText.{DeviceText}
use Rattle.usb_devicetext.specs.declared.complaint.Complaint.{Complaint}
use Rattle.usb_devicetext.specs.declared.line.DeskLine.{DeskLine}
use Rattle.usb_devicetext.specs.declared.line.DeskLine.TheVariants as line
use Rattle.usb_devicetext.specs.declared.reason.LineReason.{LineReason}
use Rattle.usb_devicetext.specs.declared.reason.LineReason.TheVariants as reason
use Rattle.usb_devicetext.specs.declared.sense.Saying.{Saying}
use Rattle.usb_devicetext.specs.DeviceText.{desk_of, spelled_in, spelled_of}
use Rattle.usb_devicetext.specs.Form.{word_at}
use Rattle.usb_devicetext.specs.FormFault.{FitsForm, form_fault_place, form_fault_text}
use Rattle.usb_devicetext.specs.Line.{line_of_text}
use Rattle.usb_devicetext.specs.Lines.{lines_in}
use Rattle.usb_devicetext.specs.PlaceFault.{FitsPlace, place_fault_place, place_fault_text}
use Rattle.usb_devicetext.specs.Sense.{is_same, subject_of}

-- what a line says that may be said once
abbrev pub saying_of : DeskLine → Option Saying
saying_of (line.Says dev what) = option_map (λ about. record { dev = dev; subject = about }) (subject_of what)
saying_of (line.Device number configuration config) = None
saying_of (line.Script script) = None

abbrev pub saying_in : List ℕ → Option Saying
saying_in text = option_and_then saying_of (line_of_text text)

-- whether two lines say the same
abbrev pub is_repeat : Option Saying → Option Saying → Bool
is_repeat (Some one) (Some other) = (one.dev == other.dev) && is_same one.subject other.subject
is_repeat one other = false

-- when a reason fits a line, behind others and beside these devices; other lines are counted from 1
abbrev pub Fits : LineReason → List ℕ → List (List ℕ) → List DeviceSetup → Type 0
Fits reason.Ascii text earlier devices = is_ascii text ≡ false
Fits reason.CarriageReturn text earlier devices = slice_get text (length text - 1) ≡ Some 13
Fits reason.Tab text earlier devices = list_any (λ b. b == 9) text ≡ true
Fits (reason.Form why) text earlier devices = FitsForm why (words_in text)
Fits (reason.Place why) text earlier devices = FitsPlace why devices (words_in text)
Fits (reason.Repeated at) text earlier devices = is_repeat (saying_in (word_at earlier (at - 1))) (saying_in text) ≡ true
Fits reason.Refused text earlier devices = ⊤

-- the devices of some lines; none where these aren't taken
abbrev pub known : {E : Type 0} → Result DeviceText E → List DeviceSetup
known (Ok desk) = desk.scripted
known (Err e) = []

abbrev pub devices_before : List (List ℕ) → List DeviceSetup
devices_before texts = known (spelled_in texts)

-- the devices beside which a line that isn't taken is judged: those of the whole text, where each line is taken behind those before it; else those of the lines before it
abbrev pub seen : Result DeviceText ℕ → List (List ℕ) → List DeviceSetup
seen (Ok desk) earlier = desk.scripted
seen (Err at) earlier = devices_before earlier

-- the lines before the one of a number
abbrev pub before : ℕ → List ℕ → List (List ℕ)
before at text = take (at - 1) (lines_in text)

-- a reason is why the line of this number isn't taken
abbrev pub IsWhy : List ℕ → ℕ → LineReason → Type 0
IsWhy text at why = Fits why (word_at (lines_in text) (at - 1)) (before at text) (seen (spelled_of text) (before at text))

-- a text is taken, or its first line that isn't has this number, and this is why
abbrev pub Complains : List ℕ → Option Complaint → Type 0
Complains text None = is_ok (desk_of text) ≡ true
Complains text (Some c) = (desk_of text ≡ Err c.line) × IsWhy text c.line c.reason

-- in words
abbrev pub reason_text : LineReason → List ℕ
reason_text reason.Ascii = codes "a byte isn't ASCII, as only a comment may have"
reason_text reason.CarriageReturn = codes "the line ends in CR LF, and lines end in LF alone"
reason_text reason.Tab = codes "a tab stands in the line, and words stand between single spaces"
reason_text (reason.Form why) = form_fault_text why
reason_text (reason.Place why) = place_fault_text why
reason_text (reason.Repeated at) = codes "line " ++ (decimal at ++ codes " says that of the device already")
reason_text reason.Refused = codes "the line can't stand here"

-- the word that each is about, the first at 0; none where it is about the whole line
abbrev pub reason_place : LineReason → Option ℕ
reason_place reason.Ascii = None
reason_place reason.CarriageReturn = None
reason_place reason.Tab = None
reason_place (reason.Form why) = form_fault_place why
reason_place (reason.Place why) = Some (place_fault_place why)
reason_place (reason.Repeated at) = None
reason_place reason.Refused = None
