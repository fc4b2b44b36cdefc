-- What is wrong with the words of a line, and when that is so.
use Rattle.std.specs.Prelude.{◌≡◌, ℕ, ◌+◌, nat_le, nat_lt, Bool, true, false, ◌&&◌, ◌||◌, nat_eq, List, codes, ◌++◌, drop, length, Option, Some, None, Err, is_some}
use Rattle.std.specs.Fmt.{decimal}
use Rattle.std.specs.List.{starts_with}
use Rattle.std.specs.Option.{option_map, option_map_or}
use Rattle.usb_model.specs.Limits.{largest_packet, longest_script}
use Rattle.usb_model.specs.Text.{hex_byte}
use Rattle.usb_descriptors.specs.declared.fault.DescFault.{DescFault}
use Rattle.usb_descriptors.specs.declared.fault.DescFault.TheVariants as desc
use Rattle.usb_descriptors.specs.Grammar.{reading}
use Rattle.usb_scripttext.specs.Number.{bytes_of}
use Rattle.usb_scripttext.specs.Repeats.{few_of, written_out}
use Rattle.usb_devicetext.specs.declared.form_fault.FormFault.{FormFault}
use Rattle.usb_devicetext.specs.declared.form_fault.FormFault.TheVariants as fault
use Rattle.usb_devicetext.specs.declared.topic.Topic.{Topic}
use Rattle.usb_devicetext.specs.declared.topic.Topic.TheVariants as topic
use Rattle.usb_devicetext.specs.declared.wanted.Wanted.{Wanted}
use Rattle.usb_devicetext.specs.Answer.{most_data}
use Rattle.usb_devicetext.specs.Form.{form_text, has_count, wanted_at, word_at}
use Rattle.usb_devicetext.specs.Text.{text_of}
use Rattle.usb_devicetext.specs.Topic.{topic_of}
use Rattle.usb_devicetext.specs.Wanted.{data_in, is_wanted, wanted_text}

-- the topic of some words
abbrev pub topic_in : List (List ℕ) → Option Topic
topic_in words = topic_of (word_at words 0)

-- whether a line of so many words has 1 to 65,536 answers, where it has answers
unfoldable pub has_answer_count : Topic → ℕ → Bool
has_answer_count topic.Script count = nat_le 4 count && nat_le count (3 + longest_script)
has_answer_count topic.Control count = nat_le 7 count && nat_le count (6 + longest_script)
has_answer_count topic count = true

-- how many words stand in front of the answers
abbrev pub answers_behind : Topic → Option ℕ
answers_behind topic.Script = Some 3
answers_behind topic.Control = Some 6
answers_behind topic = None

-- whether the answers behind so many words are no more than a script may have, each written out as often as it stands
abbrev pub are_few : Option ℕ → List (List ℕ) → Bool
are_few None words = true
are_few (Some front) words = is_some (few_of (written_out (drop front words)))

-- whether some words have 1 to 65,536 answers, where they have answers
abbrev pub has_answers : Topic → List (List ℕ) → Bool
has_answers topic words = has_answer_count topic (length words) && are_few (answers_behind topic) words

-- the word at a place isn't what its line's form wants there
pub record IsUnwanted (wanted : Wanted) (at : ℕ) (words : List (List ℕ)) : Type 0 where
  pub topic : Topic
  pub known : topic_in words ≡ Some topic
  pub wanted_there : wanted_at topic words at ≡ Some wanted
  pub other : is_wanted wanted (word_at words at) ≡ false

-- whether a word begins with 0x
abbrev pub has_prefix : List ℕ → Bool
has_prefix word = starts_with nat_eq word (codes "0x") || starts_with nat_eq word (codes "0X")

-- how many bytes an answer may have: a packet's, or those of a control transfer
unfoldable pub most_in : Topic → ℕ
most_in topic.Script = largest_packet
most_in topic = most_data

-- whether the bytes of an answer are more than so many
abbrev pub is_longer : ℕ → List ℕ → Bool
is_longer most word = option_map_or (λ bytes. nat_lt most (length bytes)) (data_in word) false

-- when each is so
abbrev pub FitsForm : FormFault → List (List ℕ) → Type 0
FitsForm (fault.Space at) words = (nat_lt at (length words) ≡ true) × (length (word_at words at) ≡ 0)
FitsForm fault.FirstWord words = topic_in words ≡ None
FitsForm (fault.Count topic) words = (topic_in words ≡ Some topic) × (has_count topic (length words) ≡ false)
FitsForm (fault.Answers topic) words = (topic_in words ≡ Some topic) × (has_answers topic words ≡ false)
FitsForm (fault.Word at wanted) words = IsUnwanted wanted at words
FitsForm (fault.Prefix at wanted) words = IsUnwanted wanted at words × (has_prefix (word_at words at) ≡ true)
FitsForm (fault.Long at most) words = (option_map most_in (topic_in words) ≡ Some most) × (is_longer most (word_at words at) ≡ true)
FitsForm fault.Text words = (topic_in words ≡ Some topic.Text) × (text_of (drop 3 words) ≡ None)
FitsForm (fault.Descriptor why) words = (topic_in words ≡ Some topic.Device) × (option_map (λ bytes. reading bytes) (bytes_of (word_at words 2)) ≡ Some (Err why))

-- the fault of a configuration descriptor, in words
unfoldable pub descriptor_text : DescFault → List ℕ
descriptor_text (desc.Truncated at) = codes "the configuration goes on where its bytes end, at byte " ++ decimal at
descriptor_text (desc.BadLength at) = codes "the descriptor at byte " ++ (decimal at ++ codes " has an impossible length")
descriptor_text (desc.WrongType at) = codes "the descriptor at byte " ++ (decimal at ++ codes " has a type that can't stand there")
descriptor_text (desc.SharedEndpoint ep) = codes "two endpoints have the address " ++ hex_byte ep
descriptor_text (desc.BadPacketSize ep) = codes "endpoint " ++ (hex_byte ep ++ codes " has packets of a size outside 1 to 1024")
descriptor_text desc.TooMany = codes "there are more than 32 interfaces"

-- in words
abbrev pub form_fault_text : FormFault → List ℕ
form_fault_text (fault.Space at) = codes "single spaces stand between words, and none at the line's end"
form_fault_text fault.FirstWord = codes "a line begins with device, script, ids, class, descriptor, string, speed, control, after, leaves, hidden, anew, lasts or driver"
form_fault_text (fault.Count topic) = codes "the form is `" ++ (form_text topic ++ codes "`")
form_fault_text (fault.Answers topic) = codes "there are 1 to 65536 answers in a line"
form_fault_text (fault.Word at wanted) = wanted_text wanted
form_fault_text (fault.Prefix at wanted) = codes "digits stand without `0x`: " ++ wanted_text wanted
form_fault_text (fault.Long at most) = codes "an answer has at most " ++ (decimal most ++ codes " bytes here")
form_fault_text fault.Text = codes "a string is at most 126 characters of ASCII, or `u:` and at most 126 units of UTF-16 in hexadecimal"
form_fault_text (fault.Descriptor why) = descriptor_text why

-- the word that each is about, the first at 0; none where it is about the whole line
abbrev pub form_fault_place : FormFault → Option ℕ
form_fault_place (fault.Space at) = Some at
form_fault_place fault.FirstWord = Some 0
form_fault_place (fault.Count topic) = None
form_fault_place (fault.Answers topic) = None
form_fault_place (fault.Word at wanted) = Some at
form_fault_place (fault.Prefix at wanted) = Some at
form_fault_place (fault.Long at most) = Some at
form_fault_place fault.Text = Some 3
form_fault_place (fault.Descriptor why) = Some 2
