-- The command line's rules, computed at words.
use Rattle.std.proofs.Common.{◌≡◌, ◌<◌, ◌≤◌, ◌⊎◌, ◌&&◌, ℕ, zero, suc, Bool, true, false, List, [], ◌∷◌, Option, Some, None, length, nat_eq, refl, ap, inl, inr, arith, codes}
use Rattle.std.specs.Fmt.{decimal, digits}
use Rattle.std.proofs.lemmas.Bool.{cases_lt, eqb-true}
use Rattle.clap.specs.Faults.{fault_of}
use Rattle.clap.specs.Simple.{subcommand_of}
use Rattle.clap.specs.Walk.{Text, is_empty}
use Rattle.clap.specs.Kinds.{Kinds}
use Rattle.clap.specs.declared.error.kind.ErrorKind.TheVariants as kind
use Rattle.clap.proofs.OnLiterals.{clap_on_literals}
use Rattle.trace_io.specs.CommandLine.{AreBad, AskFor, AskForHelp, grammar, task_of}
use Rattle.trace_io.specs.declared.words.Task.{Task}
use Rattle.trace_faults.specs.declared.text_reader.TextReader.TheVariants.{Library, Scenario}
use Rattle.trace_io.specs.declared.words.Task.TheVariants.{Run, Steps, Packets, Alone, Live, Left, Check, Draw, Page, Capture, Devices, Explain, Test, Device, Describe}

pub run_asks : (name : Text) → AskFor (name ∷ codes "run" ∷ []) Run
unfolding clap_on_literals
run_asks name = (refl, refl)

pub steps_ask : (name : Text) → AskFor (name ∷ codes "run" ∷ codes "--steps" ∷ []) Steps
unfolding clap_on_literals
steps_ask name = (refl, refl)

pub packets_ask : (name : Text) → AskFor (name ∷ codes "run" ∷ codes "--packets" ∷ []) (Packets false)
unfolding clap_on_literals
packets_ask name = (refl, refl)

pub both_ask : (name : Text) → AskFor (name ∷ codes "run" ∷ codes "--packets" ∷ codes "--steps" ∷ []) (Packets true)
unfolding clap_on_literals
both_ask name = (refl, refl)

pub both_turned_ask : (name : Text) → AskFor (name ∷ codes "run" ∷ codes "--steps" ∷ codes "--packets" ∷ []) (Packets true)
unfolding clap_on_literals
both_turned_ask name = (refl, refl)

pub live_asks : (name : Text) → AskFor (name ∷ codes "live" ∷ []) (Live 1000000)
unfolding clap_on_literals
live_asks name = (refl, refl)

pub rounds_ask : (name : Text) → AskFor (name ∷ codes "live" ∷ codes "--rounds" ∷ codes "25" ∷ []) (Live 25)
unfolding clap_on_literals
rounds_ask name = (refl, refl)

pub no_rounds_are_bad : (name : Text) → AreBad (name ∷ codes "live" ∷ codes "--rounds" ∷ codes "many" ∷ [])
unfolding clap_on_literals
no_rounds_are_bad name = (kind.ValueValidation, inl refl, λ e. cc)

pub left_asks : (name : Text) → AskFor (name ∷ codes "left" ∷ []) Left
unfolding clap_on_literals
left_asks name = (refl, refl)

pub check_asks : (name : Text) → AskFor (name ∷ codes "check" ∷ []) Check
unfolding clap_on_literals
check_asks name = (refl, refl)

pub draw_asks : (name : Text) → AskFor (name ∷ codes "draw" ∷ []) (Draw 1 18446744073709551615)
unfolding clap_on_literals
draw_asks name = (refl, refl)

pub capture_asks : (name : Text) → AskFor (name ∷ codes "capture" ∷ []) Capture
unfolding clap_on_literals
capture_asks name = (refl, refl)

pub devices_ask : (name : Text) → AskFor (name ∷ codes "devices" ∷ []) (Devices Library)
unfolding clap_on_literals
devices_ask name = (refl, refl)

pub devices_scenario_ask : (name : Text) → AskFor (name ∷ codes "devices" ∷ codes "--scenario" ∷ []) (Devices Scenario)
unfolding clap_on_literals
devices_scenario_ask name = (refl, refl)

pub explain_asks : (name : Text) → AskFor (name ∷ codes "explain" ∷ []) Explain
unfolding clap_on_literals
explain_asks name = (refl, refl)

pub test_asks : (name : Text) → AskFor (name ∷ codes "test" ∷ []) Test
unfolding clap_on_literals
test_asks name = (refl, refl)

pub device_asks : (name : Text) → AskFor (name ∷ codes "device" ∷ []) Device
unfolding clap_on_literals
device_asks name = (refl, refl)

pub describe_asks : (name : Text) → AskFor (name ∷ codes "describe" ∷ []) Describe
unfolding clap_on_literals
describe_asks name = (refl, refl)

pub page_asks : (name : Text) → AskFor (name ∷ codes "draw" ∷ codes "--html" ∷ []) (Page 1 18446744073709551615)
unfolding clap_on_literals
page_asks name = (refl, refl)

pub test_with_a_word_is_bad : (name : Text) → AreBad (name ∷ codes "test" ∷ codes "1" ∷ [])
unfolding clap_on_literals
test_with_a_word_is_bad name = (kind.UnknownArgument, inl refl, λ e. cc)

pub capture_of_a_file_is_bad : (name : Text) → AreBad (name ∷ codes "capture" ∷ codes "1" ∷ [])
unfolding clap_on_literals
capture_of_a_file_is_bad name = (kind.UnknownArgument, inl refl, λ e. cc)

pub devices_of_a_file_are_bad : (name : Text) → AreBad (name ∷ codes "devices" ∷ codes "1" ∷ [])
unfolding clap_on_literals
devices_of_a_file_are_bad name = (kind.UnknownArgument, inl refl, λ e. cc)

pub part_asks : (name : Text) → AskFor (name ∷ codes "draw" ∷ codes "--from" ∷ codes "11" ∷ codes "--to" ∷ codes "20" ∷ []) (Draw 11 20)
unfolding clap_on_literals
part_asks name = (refl, refl)

pub step_0_is_bad : (name : Text) → AreBad (name ∷ codes "draw" ∷ codes "--from" ∷ codes "0" ∷ [])
unfolding clap_on_literals
step_0_is_bad name = (kind.ValueValidation, inl refl, λ e. cc)

pub check_of_a_file_is_bad : (name : Text) → AreBad (name ∷ codes "check" ∷ codes "1" ∷ [])
unfolding clap_on_literals
check_of_a_file_is_bad name = (kind.UnknownArgument, inl refl, λ e. cc)

pub live_with_a_word_is_bad : (name : Text) → AreBad (name ∷ codes "live" ∷ codes "1" ∷ [])
unfolding clap_on_literals
live_with_a_word_is_bad name = (kind.UnknownArgument, inl refl, λ e. cc)

pub left_with_a_word_is_bad : (name : Text) → AreBad (name ∷ codes "left" ∷ codes "1" ∷ [])
unfolding clap_on_literals
left_with_a_word_is_bad name = (kind.UnknownArgument, inl refl, λ e. cc)

pub help_asks : (name : Text) → AskForHelp (name ∷ codes "-h" ∷ [])
unfolding clap_on_literals
help_asks name = inl refl

pub no_words_are_bad : (name : Text) → AreBad (name ∷ [])
unfolding clap_on_literals
no_words_are_bad name = (kind.MissingSubcommand, inl refl, λ e. cc)

pub too_many_are_bad : (name : Text) → AreBad (name ∷ codes "run" ∷ codes "1" ∷ [])
unfolding clap_on_literals
too_many_are_bad name = (kind.UnknownArgument, inl refl, λ e. cc)

pub no_handle_is_bad : (name : Text) → AreBad (name ∷ codes "alone" ∷ [])
unfolding clap_on_literals
no_handle_is_bad name = (kind.MissingRequiredArgument, inl refl, λ e. cc)

pub handle_64_is_bad : (name : Text) → AreBad (name ∷ codes "alone" ∷ codes "64" ∷ [])
unfolding clap_on_literals
handle_64_is_bad name = (kind.ValueValidation, inl refl, λ e. cc)

pub help_is_no_word : (name : Text) → AreBad (name ∷ codes "help" ∷ [])
unfolding clap_on_literals
help_is_no_word name = (kind.UnknownArgument, inl refl, λ e. cc)

-- a test holds below a number
unfoldable holds_below : ℕ → (ℕ → Bool) → Bool
holds_below zero test = true
holds_below (suc n) test = test n && holds_below n test

held_below : (n k : ℕ) (test : ℕ → Bool) → holds_below n test ≡ true → k < n → test k ≡ true
unfolding holds_below
held_below zero k test e low = absurd (omega arith)
held_below (suc n) k test e low = by_test (test n) (holds_below n test) refl refl (held_below n k test)
  where
    by_place : test n ≡ true → (k < n → test k ≡ true) → (k < n) ⊎ (n ≤ k) → test k ≡ true
    by_place last earlier (inl lower) = earlier lower
    by_place last earlier (inr higher) = let here : k ≡ n = omega (arith, low, higher) in rw here last

    by_test : (a b : Bool) → test n ≡ a → holds_below n test ≡ b
        → (holds_below n test ≡ true → k < n → test k ≡ true) → test k ≡ true
    by_test true true last below earlier = by_place last (earlier below) (cases_lt k n)
    by_test true false last below earlier = let bad : false ≡ true = rw (last, below) at e in cc
    by_test false b last below earlier = let bad : false ≡ true = rw last at e in cc

abbrev is_alone : ℕ → Option Task → Bool
is_alone h (Some (Alone k)) = nat_eq k h
is_alone h (Some Run) = false
is_alone h (Some Steps) = false
is_alone h (Some (Packets steps)) = false
is_alone h (Some (Live n)) = false
is_alone h (Some Left) = false
is_alone h (Some Check) = false
is_alone h (Some (Draw from to)) = false
is_alone h (Some Capture) = false
is_alone h (Some (Devices reader)) = false
is_alone h (Some (Page from to)) = false
is_alone h (Some Explain) = false
is_alone h (Some Test) = false
is_alone h (Some Device) = false
is_alone h (Some Describe) = false
is_alone h None = false

is_alone_says : (h : ℕ) (task : Option Task) → is_alone h task ≡ true → task ≡ Some (Alone h)
is_alone_says h (Some (Alone k)) e = ap (λ (n : ℕ). Some (Alone n)) (eqb-true k h e)
is_alone_says h (Some Run) e = let bad : false ≡ true = e in cc
is_alone_says h (Some Steps) e = let bad : false ≡ true = e in cc
is_alone_says h (Some (Packets steps)) e = let bad : false ≡ true = e in cc
is_alone_says h (Some (Live n)) e = let bad : false ≡ true = e in cc
is_alone_says h (Some Left) e = let bad : false ≡ true = e in cc
is_alone_says h (Some Check) e = let bad : false ≡ true = e in cc
is_alone_says h (Some (Draw from to)) e = let bad : false ≡ true = e in cc
is_alone_says h (Some Capture) e = let bad : false ≡ true = e in cc
is_alone_says h (Some (Devices reader)) e = let bad : false ≡ true = e in cc
is_alone_says h (Some (Page from to)) e = let bad : false ≡ true = e in cc
is_alone_says h (Some Explain) e = let bad : false ≡ true = e in cc
is_alone_says h (Some Test) e = let bad : false ≡ true = e in cc
is_alone_says h (Some Device) e = let bad : false ≡ true = e in cc
is_alone_says h (Some Describe) e = let bad : false ≡ true = e in cc
is_alone_says h None e = let bad : false ≡ true = e in cc

is_empty_says : (kinds : Kinds) → is_empty kinds ≡ true → kinds ≡ []
is_empty_says [] e = refl
is_empty_says (k ∷ ks) e = let none = eqb-true (length (k ∷ ks)) 0 e in absurd (omega arith)

abbrev alone_line : Text → ℕ → List Text
alone_line name h = name ∷ codes "alone" ∷ decimal h ∷ []

clear_below : (name : Text) → holds_below 64 (λ h. is_empty (fault_of grammar (alone_line name h))) ≡ true
unfolding clap_on_literals holds_below digits
clear_below name = refl

named_below : (name : Text) → holds_below 64 (λ h. is_alone h (task_of (subcommand_of grammar (alone_line name h)))) ≡ true
unfolding clap_on_literals holds_below digits
named_below name = refl

pub alone_asks : (name : Text) (h : ℕ) → h < 64 → AskFor (name ∷ codes "alone" ∷ decimal h ∷ []) (Alone h)
alone_asks name h low = (
  is_empty_says _ (held_below 64 h (λ k. is_empty (fault_of grammar (alone_line name k))) (clear_below name) low),
  is_alone_says h _ (held_below 64 h (λ k. is_alone k (task_of (subcommand_of grammar (alone_line name k)))) (named_below name) low),
)

pub plus_sign_asks : (name : Text) → AskFor (name ∷ codes "alone" ∷ codes "+5" ∷ []) (Alone 5)
unfolding clap_on_literals
plus_sign_asks name = (refl, refl)

pub leading_zeros_ask : (name : Text) → AskFor (name ∷ codes "alone" ∷ codes "007" ∷ []) (Alone 7)
unfolding clap_on_literals
leading_zeros_ask name = (refl, refl)
