-- The text of a recorded device.
use Rattle.std.specs.Prelude.{ℕ, ◌/◌, ◌%◌, List, [], ◌∷◌, ◌++◌, codes, length, take, Option, Some, None, if◌then◌else◌}
use Rattle.std.specs.Fmt.{decimal}
use Rattle.std.specs.List.{flat_map}
use Rattle.std.specs.Option.{unwrap_or}
use Rattle.hex.specs.Hex.{encode_lower}
use Rattle.usb_model.specs.Limits.{longest_script}
use Rattle.usb_model.specs.Text.{hex_byte}
use Rattle.trace_capture.specs.declared.control_setup.ControlSetup.{ControlSetup}
use Rattle.trace_recorded.specs.declared.answer.RecordedAnswer.{RecordedAnswer}
use Rattle.trace_recorded.specs.declared.control_lines.ControlLines.{ControlLines}
use Rattle.trace_recorded.specs.declared.device.RecordedDevice.{RecordedDevice}
use Rattle.trace_recorded.specs.declared.endpoint.RecordedEndpoint.{RecordedEndpoint}
use Rattle.trace_recorded.specs.declared.identity.DeviceIdentity.{DeviceIdentity}
use Rattle.trace_recorded.specs.declared.identity.RecordedString.{RecordedString}
use Rattle.trace_recorded.specs.declared.note.EndpointNote.TheVariants.{Lost, Requests, TooMany}
use Rattle.trace_recorded.specs.declared.note.Noted.{Noted}
use Rattle.trace_faults.specs.declared.text_reader.TextReader.{TextReader}
use Rattle.trace_faults.specs.declared.text_reader.TextReader.TheVariants.{Library, Scenario}
use Rattle.trace_recorded.specs.declared.waits.Source.{Source}
use Rattle.trace_recorded.specs.declared.waits.Source.TheVariants as source
use Rattle.trace_recorded.specs.declared.waits.Wait.{Wait}
use Rattle.trace_recorded.specs.Lines.{answers_text, endpoint_notes, is_due, note_line, note_text, other_notes, script_line}
use Rattle.trace_recorded.specs.Keys.{key_of}
use Rattle.trace_recorded.specs.Requests.{next_of}
use Rattle.trace_recorded.specs.Tables.{value_at}

-- the line that says which recorded device it was
abbrev pub origin_line : ℕ → ℕ → List ℕ
origin_line number key = codes "# device " ++ (decimal number ++ (codes " was bus " ++ (decimal (key / 256) ++ (codes " device " ++ (decimal (key % 256) ++ codes "\n")))))

-- bytes, and the end of a line
abbrev pub hex_line : List ℕ → List ℕ
hex_line bytes = encode_lower bytes ++ codes "\n"

-- a device's own line
abbrev pub device_head : ℕ → List ℕ
device_head number = codes "device " ++ (decimal number ++ codes " ")

abbrev pub device_line : ℕ → List ℕ → List ℕ
device_line number descriptor = device_head number ++ hex_line descriptor

-- the line that says that a reset doesn't begin its scripts anew: what it answered behind one stands in them too
abbrev pub lasts_line : ℕ → List ℕ
lasts_line number = codes "lasts " ++ (decimal number ++ codes "\n")

-- the line of its device descriptor, where that was read
abbrev pub descriptor_head : ℕ → List ℕ
descriptor_head number = codes "descriptor " ++ (decimal number ++ codes " ")

abbrev pub descriptor_line : ℕ → Option (List ℕ) → List ℕ
descriptor_line number None = []
descriptor_line number (Some bytes) = descriptor_head number ++ hex_line bytes

-- the line of a string
abbrev pub string_head : ℕ → ℕ → List ℕ
string_head number index = codes "string " ++ (decimal number ++ (codes " " ++ (decimal index ++ codes " u:")))

abbrev pub string_line : ℕ → RecordedString → List ℕ
string_line number s = string_head number s.index ++ hex_line s.units

abbrev pub identity_text : ℕ → DeviceIdentity → List ℕ
identity_text number identity = descriptor_line number identity.descriptor ++ flat_map (string_line number) identity.strings

-- bytes as a word of a line
abbrev pub word : List ℕ → List ℕ
word bytes = codes " " ++ encode_lower bytes

-- a number of 16 bits as bytes, the upper one first
abbrev pub bytes_of : ℕ → List ℕ
bytes_of number = number / 256 ∷ number % 256 ∷ []

-- a request: its type, its number, its value and its index
abbrev pub request_words : ControlSetup → List ℕ
request_words setup = word (setup.request_type ∷ []) ++ (word (setup.request ∷ []) ++ (word (bytes_of setup.value) ++ word (bytes_of setup.index)))

-- the note of a request with more answers than a line has
abbrev pub note_head : ControlSetup → List ℕ
note_head setup = codes "# control" ++ request_words setup

abbrev pub note_rest : Noted → List ℕ
note_rest noted = codes ": " ++ (note_text (TooMany noted) ++ codes "\n")

abbrev pub request_note : ControlSetup → Noted → List ℕ
request_note setup noted = if is_due (TooMany noted) then note_head setup ++ note_rest noted else []

-- the line of a request with these answers, as many as a line has; the packet of this number has the next
abbrev pub control_head : ℕ → ControlSetup → List ℕ
control_head number setup = (codes "control " ++ decimal number) ++ request_words setup

unfoldable pub request_line : ℕ → ControlSetup → ℕ → List RecordedAnswer → List ℕ
request_line number setup next answers = request_note setup (record { count = length answers; frame = next }) ++ (control_head number setup ++ (answers_text (take longest_script answers) ++ codes "\n"))

abbrev pub control_line : ℕ → ControlLines → ControlSetup → List ℕ
control_line number lines setup = request_line number setup (next_of setup lines) (unwrap_or (value_at (key_of setup) lines.answers) [])

abbrev pub controls_text : ℕ → ControlLines → List ℕ
controls_text number lines = flat_map (control_line number lines) lines.firsts

abbrev pub scripts_text : ℕ → RecordedDevice → List ℕ
scripts_text number device = flat_map (script_line number) device.endpoints

-- the lines of answers that wait
abbrev pub wait_head : ℕ → ℕ → List ℕ
wait_head number ep = codes "after " ++ (decimal number ++ (codes " " ++ hex_byte ep))

abbrev pub decimal_word : ℕ → List ℕ
decimal_word number = codes " " ++ decimal number

-- what is counted: an endpoint, or a request
abbrev pub source_words : Source → List ℕ
source_words (source.Endpoint ep) = codes " " ++ hex_byte ep
source_words (source.Requests setup) = request_words setup

abbrev pub wait_rest : Wait → List ℕ
wait_rest wait = decimal_word wait.place ++ (source_words wait.source ++ (decimal_word wait.count ++ codes "\n"))

abbrev pub wait_line : ℕ → ℕ → Wait → List ℕ
wait_line number ep wait = wait_head number ep ++ wait_rest wait

abbrev pub wait_lines : ℕ → RecordedEndpoint → List ℕ
wait_lines number x = flat_map (wait_line number x.info.address) x.waits.lines

abbrev pub waits_text : ℕ → List RecordedEndpoint → List ℕ
waits_text number endpoints = flat_map (wait_lines number) endpoints

-- what the text leaves unsaid, of control requests and of all; a scenario has no control requests
abbrev pub request_notes : TextReader → RecordedDevice → List ℕ
request_notes Library device = note_line 0 (Lost device.lost) ++ note_line 0 (Requests device.left_out)
request_notes Scenario device = []

abbrev pub notes_text : TextReader → RecordedDevice → List ℕ
notes_text reader device = flat_map endpoint_notes device.endpoints ++ (request_notes reader device ++ other_notes device.others 256)

-- what it answered: at its endpoints and to requests, and which answers wait
abbrev pub told_text : ℕ → RecordedDevice → List ℕ
told_text number device = scripts_text number device ++ (controls_text number device.controls ++ waits_text number device.endpoints)

-- the lines of a device: a scenario has its configuration and its scripts alone
abbrev pub lines_text : TextReader → ℕ → RecordedDevice → List ℕ
lines_text Library number device =
    device_line number device.descriptor ++ (lasts_line number ++ (identity_text number device.identity ++ told_text number device))
lines_text Scenario number device = device_line number device.descriptor ++ scripts_text number device

-- a device that is kept, under its number
unfoldable pub device_text : TextReader → ℕ → ℕ → RecordedDevice → List ℕ
device_text reader number key device = origin_line number key ++ (notes_text reader device ++ lines_text reader number device)
