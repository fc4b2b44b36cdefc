-- The forms of lines: what stands behind each first word.
use Rattle.std.specs.Prelude.{ℕ, ◌-◌, ◌==◌, nat_le, nat_lt, bytes_eq, Bool, ◌&&◌, ◌||◌, List, [], ◌∷◌, codes, length, slice_get, Option, Some, None, if◌then◌else◌}
use Rattle.std.specs.Option.{option_map, unwrap_or}
use Rattle.usb_scripttext.specs.Number.{address_of}
use Rattle.usb_model.specs.Setup.{is_in}
use Rattle.usb_devicetext.specs.declared.topic.Topic.{Topic}
use Rattle.usb_devicetext.specs.declared.topic.Topic.TheVariants as topic
use Rattle.usb_devicetext.specs.declared.wanted.Wanted.{Wanted}
use Rattle.usb_devicetext.specs.declared.wanted.Wanted.TheVariants as wanted
use Rattle.usb_devicetext.specs.Word.{any_of}

-- in a line of nine words answers wait for requests
abbrev pub gate_form : ℕ → List Wanted
gate_form count =
    if count == 9 then wanted.Device ∷ wanted.Address ∷ wanted.Number ∷ wanted.AnyByte ∷ wanted.AnyByte ∷ wanted.AnyWord ∷ wanted.AnyWord ∷ wanted.Number ∷ []
    else wanted.Device ∷ wanted.Address ∷ wanted.Number ∷ wanted.Address ∷ wanted.Number ∷ []

-- what stands behind the first word, as far as each place has its own, in a line of so many words
unfoldable pub form : Topic → ℕ → List Wanted
form topic.Device count = wanted.Device ∷ wanted.Bytes ∷ []
form topic.Script count = wanted.Device ∷ wanted.Address ∷ []
form topic.Ids count = wanted.Device ∷ wanted.Word ∷ wanted.Word ∷ wanted.Word ∷ []
form topic.Class count = wanted.Device ∷ wanted.Byte ∷ wanted.Byte ∷ wanted.Byte ∷ []
form topic.Descriptor count = wanted.Device ∷ wanted.Whole ∷ []
form topic.Text count = wanted.Device ∷ wanted.Index ∷ []
form topic.Speed count = wanted.Device ∷ wanted.Speed ∷ []
form topic.Control count = wanted.Device ∷ wanted.AnyByte ∷ wanted.AnyByte ∷ wanted.AnyWord ∷ wanted.AnyWord ∷ []
form topic.After count = gate_form count
form topic.Leaves count = wanted.Device ∷ wanted.Address ∷ wanted.Number ∷ []
form topic.Hidden count = wanted.Device ∷ []
form topic.Anew count = wanted.Device ∷ []
form topic.Lasts count = wanted.Device ∷ []
form topic.Driver count = wanted.Device ∷ wanted.Interface ∷ []

-- how many words a line has, the first word among them; how many answers stands with them
unfoldable pub has_count : Topic → ℕ → Bool
has_count topic.Device count = count == 3
has_count topic.Script count = nat_le 3 count
has_count topic.Ids count = (count == 4) || (count == 5)
has_count topic.Class count = count == 5
has_count topic.Descriptor count = count == 3
has_count topic.Text count = nat_le 4 count
has_count topic.Speed count = count == 3
has_count topic.Control count = nat_le 6 count
has_count topic.After count = (count == 6) || (count == 9)
has_count topic.Leaves count = count == 4
has_count topic.Hidden count = count == 2
has_count topic.Anew count = count == 2
has_count topic.Lasts count = count == 2
has_count topic.Driver count = count == 3

-- a word by its place, the first at 0; an empty one past the last
abbrev pub word_at : List (List ℕ) → ℕ → List ℕ
word_at words at = unwrap_or (slice_get words at) []

-- the answers of an endpoint, and to requests of a type
abbrev pub of_endpoint : ℕ → Wanted
of_endpoint ep = if is_in ep then wanted.InAnswer else wanted.OutAnswer

abbrev pub of_request : Option ℕ → Wanted
of_request None = wanted.PlainAnswer
of_request (Some kind) = if nat_le 128 kind then wanted.ReadAnswer else wanted.WriteAnswer

-- what each word behind these is, in a line that has answers
unfoldable pub answer_in : Topic → List (List ℕ) → Option Wanted
answer_in topic.Script words = option_map of_endpoint (address_of (word_at words 2))
answer_in topic.Control words = option_map of_request (any_of address_of (word_at words 2))
answer_in topic words = None

-- whether the word at a place says that the answer before it stays: the last of a line, behind an answer
abbrev pub stays_at : ℕ → List (List ℕ) → ℕ → Bool
stays_at places words at = nat_lt 1 (at - places) && ((at == length words - 1) && bytes_eq (word_at words at) (codes ".."))

-- what the word at a place has to be
abbrev pub wanted_at : Topic → List (List ℕ) → ℕ → Option Wanted
wanted_at topic words at =
    if at == 0 then None
    else if nat_le at (length (form topic (length words))) then slice_get (form topic (length words)) (at - 1)
    else if stays_at (length (form topic (length words))) words at then None
    else answer_in topic words

-- the form, as a person reads it
unfoldable pub form_text : Topic → List ℕ
form_text topic.Device = codes "device D HEX"
form_text topic.Script = codes "script D EP A A .."
form_text topic.Ids = codes "ids D VENDOR PRODUCT [RELEASE]"
form_text topic.Class = codes "class D CLASS SUBCLASS PROTOCOL"
form_text topic.Descriptor = codes "descriptor D HEX"
form_text topic.Text = codes "string D I TEXT"
form_text topic.Speed = codes "speed D SPEED"
form_text topic.Control = codes "control D TYPE REQUEST VALUE INDEX A A .."
form_text topic.After = codes "after D EP K OTHER N` or `after D EP K TYPE REQUEST VALUE INDEX N"
form_text topic.Leaves = codes "leaves D EP N"
form_text topic.Hidden = codes "hidden D"
form_text topic.Anew = codes "anew D"
form_text topic.Lasts = codes "lasts D"
form_text topic.Driver = codes "driver D I"
