-- Each device of a text can be made.
use Rattle.std.proofs.Common.{◌≡◌, ℕ, ◌+◌, ◌≤◌, ◌==◌, Bool, true, false, List, [], ◌∷◌, ◌++◌, length, length-append, length-set, Option, Some, None, Result, Ok, sym, subst, arith}
use Rattle.std.specs.Prelude.{⊤, IfOk, IfSome, slice_get, slice_set, if◌then◌else◌}
use Rattle.std.specs.List.{AllByRecursion}
use Rattle.std.specs.Option.{option_and_then, option_map}
use Rattle.std.specs.Result.{result_ok}
use Rattle.std.proofs.lemmas.Bool.{eqb-true}
use Rattle.usb_model.specs.declared.setup.DeviceSetup.{DeviceSetup}
use Rattle.usb_descriptors.specs.Grammar.{reading}
use Rattle.usb_device.specs.Scripts.{CanBeMade}
use Rattle.usb_scripttext.specs.declared.script.EndpointAnswers.{EndpointAnswers}
use Rattle.usb_scripttext.specs.Devices.{device_with, new_device}
use Rattle.usb_scripttext.specs.Number.{bytes_of, device_of, last_device}
use Rattle.usb_scripttext.specs.Script.{endpoint_answers_of}
use Rattle.usb_scripttext.specs.Words.{ascii_of, says_nothing, words_in}
use Rattle.usb_scripttext.proofs.Fits.{AreFit, if_and_then, if_and_then_of, if_map, if_map_of, if_tested, number_within, said_fit}
use Rattle.usb_scripttext.proofs.Made.{all_get, all_more, all_set, device_made, new_made}
use Rattle.usb_devicetext.specs.declared.desk.DeviceText.{DeviceText}
use Rattle.usb_devicetext.specs.declared.line.DeskLine.{DeskLine}
use Rattle.usb_devicetext.specs.declared.line.DeskLine.TheVariants as line
use Rattle.usb_devicetext.specs.declared.topic.Topic.{Topic}
use Rattle.usb_devicetext.specs.declared.topic.Topic.TheVariants as topic
use Rattle.usb_devicetext.specs.Device as desk
use Rattle.usb_devicetext.specs.DeviceText.{nothing_said, spelled_of, with_line, with_script, with_statement, with_text}
use Rattle.usb_devicetext.specs.Line.{device_of_words, line_by, line_of, line_of_text, said_by, statement_by}
use Rattle.usb_devicetext.specs.Lines.{from_lines, lines_in, taken_at}
use Rattle.usb_devicetext.specs.Topic.{topic_of}

-- what a line always says: one of four devices; answers that their endpoint may have
abbrev SaysFit : DeskLine → Type 0
SaysFit (line.Device number configuration config) = number ≤ last_device
SaysFit (line.Script script) = AreFit script
SaysFit (line.Says dev what) = ⊤

device_fits : (words : List (List ℕ)) → IfSome (device_of_words words) SaysFit
unfolding device_of_words
device_fits (number ∷ descriptor ∷ []) =
    if_and_then_of (λ n. n ≤ last_device) SaysFit (λ d. option_and_then (λ bytes. option_map (line.Device d bytes) (result_ok (reading bytes))) (bytes_of descriptor)) (device_of number) (number_within last_device number)
    (λ d within. if_and_then SaysFit (λ bytes. option_map (line.Device d bytes) (result_ok (reading bytes))) (bytes_of descriptor) (λ bytes. if_map SaysFit (line.Device d bytes) (result_ok (reading bytes)) (λ config. within)))
device_fits [] = tt
device_fits (number ∷ []) = tt
device_fits (number ∷ descriptor ∷ more ∷ words) = tt

script_fits : (words : List (List ℕ)) → IfSome (option_map line.Script (endpoint_answers_of words)) SaysFit
script_fits words = if_map_of AreFit SaysFit line.Script (endpoint_answers_of words) (said_fit words) (λ script fit. fit)

others_fit : (t : Topic) (words : List (List ℕ)) → IfSome (said_by t words) SaysFit
unfolding said_by
others_fit t [] = tt
others_fit t (dev ∷ words) = if_and_then SaysFit (λ d. option_map (line.Says d) (statement_by t words)) (device_of dev) (λ d. if_map SaysFit (line.Says d) (statement_by t words) (λ what. tt))

-- the line of any first word
topic_fits : (t : Topic) (words : List (List ℕ)) → IfSome (line_by t words) SaysFit
topic_fits topic.Device words = device_fits words
topic_fits topic.Script words = script_fits words
topic_fits topic.Ids words = others_fit topic.Ids words
topic_fits topic.Class words = others_fit topic.Class words
topic_fits topic.Descriptor words = others_fit topic.Descriptor words
topic_fits topic.Text words = others_fit topic.Text words
topic_fits topic.Speed words = others_fit topic.Speed words
topic_fits topic.Control words = others_fit topic.Control words
topic_fits topic.After words = others_fit topic.After words
topic_fits topic.Leaves words = others_fit topic.Leaves words
topic_fits topic.Hidden words = others_fit topic.Hidden words
topic_fits topic.Anew words = others_fit topic.Anew words
topic_fits topic.Lasts words = others_fit topic.Lasts words
topic_fits topic.Driver words = others_fit topic.Driver words

words_fit : (words : List (List ℕ)) → IfSome (line_of words) SaysFit
words_fit [] = tt
words_fit (word ∷ words) = if_and_then SaysFit (λ t. line_by t words) (topic_of word) (λ t. topic_fits t words)

-- any line of text
text_fits : (text : List ℕ) → IfSome (line_of_text text) SaysFit
text_fits text = if_and_then SaysFit (λ ascii. line_of (words_in ascii)) (ascii_of text) (λ ascii. words_fit (words_in ascii))

-- four devices at most, each of which can be made
abbrev pub AreMade : DeviceText → Type 0
AreMade d = (length d.scripted ≤ 4) × AllByRecursion CanBeMade d.scripted

-- with the script of one endpoint more
abbrev AreListed : List DeviceSetup → Type 0
AreListed ds = (length ds ≤ 4) × AllByRecursion CanBeMade ds

script_made : (ds : List DeviceSetup) (s : EndpointAnswers) → AreListed ds → AreFit s → IfSome (with_script ds s) AreListed
script_made ds s made fits =
    if_and_then_of CanBeMade AreListed (λ x. option_map (λ y. slice_set ds s.dev y) (device_with s.ep s.answers x)) (slice_get ds s.dev) (all_get CanBeMade ds s.dev made.1)
    (λ x can. if_map_of CanBeMade AreListed (λ y. slice_set ds s.dev y) (device_with s.ep s.answers x) (device_made s.ep s.answers x fits can)
    (λ y changed. (subst (λ n. n ≤ 4) (sym (length-set ds s.dev y)) made.0, all_set CanBeMade ds s.dev y made.1 changed)))

-- with what one more line says
line_made : (d : DeviceText) (l : DeskLine) → AreMade d → SaysFit l → IfSome (with_line d l) AreMade
line_made d (line.Device number configuration config) made fits =
    if_tested AreMade (number == length d.scripted) (record { scripted = d.scripted ++ new_device config ∷ []; devices = d.devices ++ desk.new_device configuration config.interfaces ∷ [] })
    (λ passed. let next : number ≡ length d.scripted = eqb-true number (length d.scripted) passed in
    (omega (arith, length-append d.scripted (new_device config ∷ []), next, fits), all_more CanBeMade d.scripted (new_device config) made.1 (new_made config)))
line_made d (line.Script s) made fits = if_map_of AreListed AreMade (λ ds. record d { scripted = ds }) (with_script d.scripted s) (script_made d.scripted s made fits) (λ ds listed. listed)
line_made d (line.Says dev what) made fits = if_map AreMade (λ ds. record d { devices = ds }) (with_statement d.devices dev what) (λ ds. made)

-- with one more line of text
text_made : (d : DeviceText) (text : List ℕ) → AreMade d → IfSome (with_text d text) AreMade
text_made d text made = by_test (says_nothing text)
  where
    by_test : (b : Bool) → IfSome (if b then Some d else option_and_then (with_line d) (line_of_text text)) AreMade
    by_test true = made
    by_test false = if_and_then_of SaysFit AreMade (with_line d) (line_of_text text) (text_fits text) (λ l fits. line_made d l made fits)

-- with all lines
lines_made : (at : ℕ) (d : DeviceText) (texts : List (List ℕ)) → AreMade d → IfOk (from_lines with_text at d texts) AreMade
unfolding from_lines
lines_made at d [] made = made
lines_made at d (text ∷ texts) made = by_line (with_text d text) (text_made d text made) (λ t more. lines_made (at + 1) t texts more)
  where
    by_line : (o : Option DeviceText) → IfSome o AreMade → ((t : DeviceText) → AreMade t → IfOk (from_lines with_text (at + 1) t texts) AreMade) → IfOk (taken_at at (λ t. from_lines with_text (at + 1) t texts) o) AreMade
    by_line None known further = tt
    by_line (Some t) known further = further t known

-- those of any text
pub spelled_made : (text : List ℕ) (d : DeviceText) → spelled_of text ≡ Ok d → AreMade d
spelled_made text d is = subst (λ (r : Result DeviceText ℕ). IfOk r AreMade) is (lines_made 1 nothing_said (lines_in text) (omega arith, tt))
