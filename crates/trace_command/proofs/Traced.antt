-- What `trace` promises, of an input whose bytes are known.
use Rattle.std.proofs.Common.{◌≡◌, ◌≤◌, ◌⊎◌, ℕ, Bool, true, false, List, [], Option, Some, None, IfSome, inl, inr, refl, subst, sym, ◌∙◌, arith}
use Rattle.std.specs.Io.KnownBytes.{Keeps}
use Rattle.clap.specs.Walk.{Text}
use Rattle.trace_io.specs.CommandLine.{AreBad, AskFor, AskForHelp}
use Rattle.trace_io.specs.Faults.{IsOfInput, message_of}
use Rattle.trace_io.specs.Output.{AppendsSome}
use Rattle.trace_io.specs.declared.fault.Fault.{Fault}
use Rattle.trace_io.specs.declared.fault.Fault.TheVariants.{Line, Memory, InputOutput, Closed, TooLong, Rounds, Wide, Capture, Descriptor}
use Rattle.trace_io.specs.declared.words.Task.{Task}
use Rattle.trace_io.specs.declared.words.Task.TheVariants as task
use Rattle.trace_scenario.specs.Findings.{bad_lines}
use Rattle.trace_main.specs.Program.{AskForOther, AskForThreads, Begins, FindsUnexpected, IsAlone, IsSilentAtBad, MayEnd, TellsRest, TellsWhy}
use Rattle.trace_main.specs.Source.{OfSource, text_in}
use Rattle.trace_main.proofs.Begun.{keeps_same, nothing_of, told_front}
use Rattle.trace_options.specs.Inputs.{is_half, may_name_files}
use Rattle.trace_command.specs.Layer.{Traces, TracesInput}

pub of_trace : (words : List Text) (input : Option (List ℕ)) (old new err_old err_new : Option (List ℕ)) (status : ℕ) {P Q : Type 0}
    → status ≤ 3
    → (status ≡ 3 → (t : Task) × AskFor words t × IfSome input (λ text. FindsUnexpected t text old new))
    → (status ≡ 0 → ((t : Task) × AskFor words t × IfSome input (λ text. TellsRest t text old new err_old err_new)) ⊎ (AskForHelp words × P))
    → (status ≡ 0 → AskForThreads words ⊎ Keeps err_old err_new)
    → (status ≡ 2 → AreBad words × Keeps old new × Q)
    → IfSome input (λ text. IsSilentAtBad text old new ⊎ AskForHelp words ⊎ AskForOther words)
    → (AskFor words task.Check → IfSome input (λ text. status ≡ 0 → OfSource text (λ src. bad_lines (text_in src) ≡ [])))
    → ((t : Task) → AskFor words t → IfSome input (λ text. Begins t text old new))
    → (status ≡ 1 → TellsWhy words input old new err_old err_new)
    → TracesInput words input old new err_old err_new status
of_trace words None old new err_old err_new status within unexpected done quiet refused silent bad unfinished told = λ half. tt
of_trace words (Some text) old new err_old err_new status within unexpected done quiet refused silent bad unfinished told = λ half named. record {
  within = within;
  unexpected = unexpected;
  done = λ zero. by_words (done zero);
  quiet = quiet;
  refused = λ two. ((refused two).0, (refused two).1);
  silent = silent;
  bad = bad;
  unfinished = unfinished;
  told = told;
}
  where
    by_words : {A P : Type 0} → A ⊎ (AskForHelp words × P) → A ⊎ AskForHelp words
    by_words (inl a) = inl a
    by_words (inr help) = inr help.0

-- a fault that ended a run before anything was printed
pub ends_early : (words : List Text) (text : List ℕ) (old err_old err_new : Option (List ℕ)) (fault : Fault) (status : ℕ)
    → status ≡ 1 → MayEnd words (Some text) [] fault → IsAlone [] fault → AppendsSome (message_of fault) err_old err_new → Traces words text old old err_old err_new status
ends_early words text old err_old err_new fault status one may alone told = record {
  within = omega (arith, one);
  unexpected = λ three. absurd (not_three status one three);
  done = λ zero. absurd (not_zero status one zero);
  quiet = λ zero. absurd (not_zero status one zero);
  refused = λ two. absurd (not_two status one two);
  silent = inl (inl (keeps_same old));
  bad = λ asks zero. absurd (not_zero status one zero);
  unfinished = λ t asks. nothing_of t text old;
  told = λ is_one. inr (inr (inr (fault, [], may, alone, told_front (message_of fault) [] err_old err_new told)));
}
  where
    not_zero : (n : ℕ) → n ≡ 1 → n ≡ 0 → ⊥
    not_zero n is other = cc

    not_two : (n : ℕ) → n ≡ 1 → n ≡ 2 → ⊥
    not_two n is other = cc

    not_three : (n : ℕ) → n ≡ 1 → n ≡ 3 → ⊥
    not_three n is other = cc

-- an input that can't be read may end one of these words
pub input_may_end : (words : List Text) (t : Task) (text : List ℕ) (fault : Fault) → AskFor words t → IsOfInput (Some text) fault → MayEnd words (Some text) [] fault × IsAlone [] fault
input_may_end words t text (Line line) asks is = absurd is
input_may_end words t text Memory asks is = (tt, refl)
input_may_end words t text InputOutput asks is = (tt, refl)
input_may_end words t text Closed asks is = (tt, refl)
input_may_end words t text TooLong asks is = ((t, asks, is), refl)
input_may_end words t text (Rounds n) asks is = absurd is
input_may_end words t text (Wide n) asks is = absurd is
input_may_end words t text (Capture f) asks is = absurd is
input_may_end words t text (Descriptor f) asks is = absurd is

pub unread : (words : List Text) (t : Task) (input old err_old err_new : Option (List ℕ)) (fault : Fault) (status : ℕ)
    → status ≡ 1 → AskFor words t → IsOfInput input fault → AppendsSome (message_of fault) err_old err_new → TracesInput words input old old err_old err_new status
unread words t None old err_old err_new fault status one asks is told = λ half. tt
unread words t (Some text) old err_old err_new fault status one asks is told = λ half named.
    let may = input_may_end words t text fault asks is in ends_early words text old err_old err_new fault status one may.0 may.1 told

-- so may want of memory, whatever the words are
pub lacked : (words : List Text) (input old err_old err_new : Option (List ℕ)) (fault : Fault) (status : ℕ)
    → status ≡ 1 → fault ≡ Memory → AppendsSome (message_of fault) err_old err_new → TracesInput words input old old err_old err_new status
lacked words None old err_old err_new fault status one is told = λ half. tt
lacked words (Some text) old err_old err_new fault status one is told = λ half named.
    ends_early words text old err_old err_new fault status one (subst (MayEnd words (Some text) []) (sym is) tt) (subst (IsAlone []) (sym is) refl) told

-- what holds of a scenario's text, of which it is known that it names no file, holds of the input that has it
pub of_input : (words : List Text) (input : Option (List ℕ)) (text : List ℕ) (old new err_old err_new : Option (List ℕ)) (status : ℕ)
    → IfSome input (λ given. text ≡ given)
    → (((t : Task) → AskFor words t → is_half t ≡ false) → may_name_files text ≡ false → Traces words text old new err_old err_new status)
    → TracesInput words input old new err_old err_new status
of_input words None text old new err_old err_new status same traced = λ half. tt
of_input words (Some given) text old new err_old err_new status same traced = λ half named.
    subst (λ (t : List ℕ). Traces words t old new err_old err_new status) same (traced half (subst (λ (t : List ℕ). may_name_files t ≡ false) (sym same) named))
