-- The line of a device in a scenario.
use Rattle.std.proofs.Common.{◌≡◌, ℕ, ◌+◌, ◌==◌, true, not, cond, List, [], ◌∷◌, ◌++◌, Some, None, Ok, refl, ap, sym, ◌∙◌, append_assoc, arith}
use Rattle.std.specs.Prelude.{codes, nat_lt}
use Rattle.std.specs.Option.{option_and_then, option_map}
use Rattle.std.specs.Result.{result_ok}
use Rattle.std.specs.Fmt.{decimal, digits}
use Rattle.std.proofs.lemmas.List.Folds.{list_all-append}
use Rattle.std.proofs.lemmas.List.Splits.{slice_split_at, slice_split_none}
use Rattle.hex.specs.Hex.{IsBytes, encode_lower}
use Rattle.hex.proofs.HexLemmas.{decode_of-encode_lower}
use Rattle.usb_model.specs.declared.setup.Configuration.{Configuration}
use Rattle.usb_descriptors.specs.Grammar.{reading}
use Rattle.trace_scenario.specs.declared.line.Line.TheVariants as line
use Rattle.trace_scenario.specs.declared.scenario.Scenario.{Scenario}
use Rattle.trace_scenario.specs.declared.verb.Verb.TheVariants as verb
use Rattle.trace_scenario.specs.Line.{device_line_of, line_by, line_of, line_of_text}
use Rattle.usb_scripttext.specs.Words.{is_ascii}
use Rattle.usb_scripttext.specs.Number.{bytes_of, device_of}
use Rattle.usb_scripttext.specs.Devices.{new_device}
use Rattle.trace_scenario.specs.Scenario.{nothing_said, scenario_from, taken_at, with_line, with_text}
use Rattle.trace_scenario.specs.Verb.{verb_of}
use Rattle.usb_scripttext.specs.Words.{words_in}
use Rattle.usb_scripttext.proofs.Numbers.{taken}
use Rattle.trace_descriptor.specs.Identity.{identity_lines}
use Rattle.trace_descriptor.specs.Laws.{others_of}
use Rattle.trace_descriptor.specs.Lines.{device_line}
use Rattle.trace_descriptor.proofs.PassedOver.{identity_end}
use Rattle.trace_descriptor.proofs.Plain.{digits_pass, none_of, plain, plain_encode, plain_join}
use Rattle.trace_descriptor.proofs.Quiet.{lines, others}

-- the line without its end
abbrev pub words : List ℕ → List ℕ
words c = codes "device 0 " ++ encode_lower c

-- it is ASCII
is_text : (c : List ℕ) → is_ascii (words c) ≡ true
is_text c = list_all-append (λ b. nat_lt b 128) (codes "device 0 ") (encode_lower c) ∙ digits_pass (λ b. nat_lt b 128) refl refl c

-- its words
cut : (c : List ℕ) → words_in (words c) ≡ codes "device" ∷ codes "0" ∷ encode_lower c ∷ []
cut c =
    slice_split_at (λ b. b == 32) (codes "device") 32 (codes "0" ++ 32 ∷ encode_lower c) (none_of (λ b. b == 32) (codes "device") refl) refl
    ∙ ap (λ l. codes "device" ∷ l)
    (slice_split_at (λ b. b == 32) (codes "0") 32 (encode_lower c) (none_of (λ b. b == 32) (codes "0") refl) refl
    ∙ ap (λ l. codes "0" ∷ l) (slice_split_none (λ b. b == 32) (encode_lower c) (none_of (λ b. b == 32) (encode_lower c) (digits_pass (λ b. not (b == 32)) refl refl c))))

-- what each says
device_verb : verb_of (codes "device") ≡ Some verb.Device
unfolding verb_of
device_verb = refl

zero_spelt : codes "0" ≡ decimal 0
unfolding digits
zero_spelt = refl

device_zero : device_of (codes "0") ≡ Some 0
device_zero = taken 3 0 (codes "0") (omega arith) (omega arith) zero_spelt

bytes_read : (c : List ℕ) → IsBytes c → bytes_of (encode_lower c) ≡ Some c
unfolding bytes_of
bytes_read c fit = ap result_ok (decode_of-encode_lower c fit)

-- what they say together
words_say : (c : List ℕ) (config : Configuration) → IsBytes c → reading c ≡ Ok config
    → device_line_of (codes "0" ∷ encode_lower c ∷ []) ≡ Some (line.Device 0 config)
unfolding device_line_of
words_say c config fit reads =
    ap (option_and_then (λ d. option_and_then (λ bytes. option_map (line.Device d) (result_ok (reading bytes))) (bytes_of (encode_lower c)))) device_zero
    ∙ (ap (option_and_then (λ bytes. option_map (line.Device 0) (result_ok (reading bytes)))) (bytes_read c fit)
    ∙ ap (λ r. option_map (line.Device 0) (result_ok r)) reads)

line_says : (c : List ℕ) (config : Configuration) → IsBytes c → reading c ≡ Ok config → line_of_text (words c) ≡ Some (line.Device 0 config)
line_says c config fit reads =
    ap (λ b. option_and_then (λ a. line_of (words_in a)) (cond b (Some (words c)) None)) (is_text c)
    ∙ (ap line_of (cut c)
    ∙ (ap (option_and_then (λ v. line_by v (codes "0" ∷ encode_lower c ∷ []))) device_verb
    ∙ words_say c config fit reads))

-- the scenario of that device
abbrev pub one_device : Configuration → Scenario
one_device config = record { setup = new_device config ∷ []; plan = []; rules = [] }

said : (c : List ℕ) (config : Configuration) → IsBytes c → reading c ≡ Ok config → with_text nothing_said (words c) ≡ Some (one_device config)
said c config fit reads = ap (option_and_then (with_line nothing_said)) (line_says c config fit reads)

lines_taken : (at : ℕ) (c : List ℕ) (s : Scenario) → with_text nothing_said (words c) ≡ Some s → scenario_from at nothing_said (words c ∷ [] ∷ []) ≡ Ok s
unfolding scenario_from
lines_taken at c s says = ap (taken_at at (λ t. scenario_from (at + 1) t ([] ∷ []))) says

line_cut : (c more : List ℕ) → lines (device_line c ++ more) ≡ words c ∷ lines more
unfolding device_line
line_cut c more =
    ap lines (ap (λ t. t ++ more) (sym (append_assoc (codes "device 0 ") (encode_lower c) (10 ∷ []))) ∙ append_assoc (words c) (10 ∷ []) more)
    ∙ slice_split_at (λ b. b == 10) (words c) 10 more (none_of (λ b. b == 10) (words c) (plain_join (codes "device 0 ") (encode_lower c) (plain refl) (plain_encode c)).all) refl

-- the line, and those of a device descriptor behind it, are the text of that scenario
pub device_taken : (at : ℕ) (c d : List ℕ) (config : Configuration) → IsBytes c → reading c ≡ Ok config
    → scenario_from at nothing_said (others_of (device_line c ++ identity_lines d)) ≡ Ok (one_device config)
device_taken at c d config fit reads =
    ap (λ texts. scenario_from at nothing_said (others texts)) (line_cut c (identity_lines d))
    ∙ (ap (λ texts. scenario_from at nothing_said (words c ∷ texts)) (identity_end d)
    ∙ lines_taken at c (one_device config) (said c config fit reads))
