-- What a device answers to a request on its default control endpoint, as words say it.
use Rattle.std.specs.Prelude.{ℕ, ◌-◌, nat_le, nat_lt, Bool, false, ◌&&◌, List, codes, length, take, Option, Some, None, if◌then◌else◌}
use Rattle.std.specs.Option.{option_and_then}
use Rattle.std.specs.Str.{bytes_eq}
use Rattle.usb_model.specs.Limits.{longest_script}
use Rattle.usb_scripttext.specs.Script.{each_of}
use Rattle.usb_scripttext.specs.Number.{bytes_of}
use Rattle.usb_scripttext.specs.Prefix.{behind}
use Rattle.usb_scripttext.specs.Repeats.{all_copies, stays}
use Rattle.usb_devicetext.specs.declared.answer.ControlAnswer.{ControlAnswer}
use Rattle.usb_devicetext.specs.declared.answer.ControlAnswer.TheVariants as answer

-- the most bytes of a control transfer beside its setup packet
abbrev pub most_data : ℕ
most_data = 4096

-- whether requests of this type read (USB 2.0, 9.3.1), or write; where it is any they may do either
unfoldable pub reads : Option ℕ → Bool
reads None = false
reads (Some kind) = nat_le 128 kind

unfoldable pub writes : Option ℕ → Bool
writes None = false
writes (Some kind) = nat_lt kind 128

-- the data of a request that reads
unfoldable pub data_of : List ℕ → Option ControlAnswer
data_of digits = option_and_then (λ bytes. if nat_le (length bytes) most_data then Some (answer.Data bytes) else None) (bytes_of digits)

-- an answer to requests of a type: data where they read, that they were taken where they write
unfoldable pub answer_of : Option ℕ → List ℕ → Option ControlAnswer
answer_of kind word =
    if bytes_eq word (codes "n") then Some answer.Nak
    else if bytes_eq word (codes "s") then Some answer.Stall
    else if bytes_eq word (codes "b") then Some answer.Broken
    else if bytes_eq word (codes "a") && writes kind then Some answer.Ack
    else if reads kind then option_and_then data_of (behind (codes "d:") word)
    else None

-- the answers of words that are written out, to requests of a type: 1 to as many as a script may have
unfoldable pub plain_answers_of : Option ℕ → List (List ℕ) → Option (List ControlAnswer)
plain_answers_of kind words = if nat_lt 0 (length words) && nat_le (length words) longest_script then each_of (answer_of kind) words else None

-- some words without a `..` at their end: the last answer to a request stays anyway
unfoldable pub without_stays : List (List ℕ) → List (List ℕ)
without_stays words = if stays words then take (length words - 1) words else words

-- the answers to requests of a type: those of its words, each as often as it stands
abbrev pub answers_of : Option ℕ → List (List ℕ) → Option (List ControlAnswer)
answers_of kind words = plain_answers_of kind (all_copies (without_stays words))
