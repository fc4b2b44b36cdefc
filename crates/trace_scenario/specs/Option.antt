-- The options of a submission.
use Rattle.std.specs.Prelude.{ℕ, ◌==◌, nat_lt, List, [], ◌∷◌, codes, length, drop, Option, Some, None, is_some, if◌then◌else◌}
use Rattle.std.specs.Option.{option_map, option_and_then}
use Rattle.std.specs.Str.{bytes_eq}
use Rattle.std.specs.List.{position_or_len, before_first, after_first}
use Rattle.usb_model.specs.declared.flags.Flags.{Flags}
use Rattle.usb_model.specs.declared.verdict.Rule.{Rule}
use Rattle.usb_model.specs.declared.verdict.Rule.TheVariants.{Again}
use Rattle.usb_model.specs.Requests.{flag_names}
use Rattle.usb_model.specs.Text.{status_names}
use Rattle.usb_model.specs.World.Plans.{once_only}
use Rattle.trace_scenario.specs.declared.option.Options.{Options}
use Rattle.usb_scripttext.specs.Number.{u32_of, u64_of}
use Rattle.usb_scripttext.specs.Prefix.{behind}
use Rattle.trace_scenario.specs.Names.{union_of}

-- what the first word says, where it is the option that begins so
abbrev pub option_value : List ℕ → List (List ℕ) → Option (List ℕ)
option_value begin [] = None
option_value begin (word ∷ words) = behind begin word

-- the words behind that option
abbrev pub option_rest : List ℕ → List (List ℕ) → List (List ℕ)
option_rest begin words = if is_some (option_value begin words) then drop 1 words else words

-- the flags that an option names; none without it
abbrev pub flags_by : Option (List ℕ) → Option Flags
flags_by None = Some (record { 0 = 0 })
flags_by (Some names) = option_map (λ bits. record { 0 = bits }) (union_of flag_names names)

abbrev pub flags_said : List (List ℕ) → Option Flags
flags_said words = flags_by (option_value (codes "flags=") words)

-- the timeout that an option says; 0 without it
abbrev pub timeout_by : Option (List ℕ) → Option ℕ
timeout_by None = Some 0
timeout_by (Some word) = u32_of word

abbrev pub timeout_said : List (List ℕ) → Option ℕ
timeout_said words = timeout_by (option_value (codes "timeout=") words)

-- again on these statuses, for so many rounds: names, a colon and a number
abbrev pub again_of : List ℕ → Option Rule
again_of word =
    if nat_lt (position_or_len (λ b. b == 58) word) (length word) then
    option_and_then (λ bits. option_map (λ rounds. Again (record { 0 = bits }) rounds) (u64_of (after_first (λ b. b == 58) word)))
    (union_of status_names (before_first (λ b. b == 58) word))
    else None

-- the rule of a word
unfoldable pub rule_of : List ℕ → Option Rule
rule_of word = if bytes_eq word (codes "stop") then Some once_only else option_and_then again_of (behind (codes "again:") word)

-- the rule that an option says; that of a callback that always stops without it
abbrev pub rule_by : Option (List ℕ) → Option Rule
rule_by None = Some once_only
rule_by (Some word) = rule_of word

abbrev pub rule_said : List (List ℕ) → Option Rule
rule_said words = rule_by (option_value (codes "then=") words)

-- the options of some words: each at most once, in the order flags, timeout, rule, and nothing behind
unfoldable pub options_of : List (List ℕ) → Option Options
options_of words =
    let behind_flags : List (List ℕ) = option_rest (codes "flags=") words in
    let behind_timeout : List (List ℕ) = option_rest (codes "timeout=") behind_flags in
    let behind_all : List (List ℕ) = option_rest (codes "then=") behind_timeout in
    option_and_then (λ flags. option_and_then (λ timeout. option_and_then
    (λ rule. if length behind_all == 0 then Some (record { flags = flags; timeout = timeout; rule = rule }) else None)
    (rule_said behind_timeout)) (timeout_said behind_flags)) (flags_said words)
