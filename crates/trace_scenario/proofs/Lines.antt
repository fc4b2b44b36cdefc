-- What a line that is taken always says.
use Rattle.std.proofs.Common.{◌≡◌, ℕ, ◌≤◌, ◌==◌, nat_lt, Bool, true, false, List, [], ◌∷◌, length, Option, Some, None, refl}
use Rattle.std.specs.Prelude.{◌≢◌, IfSome, codes, if◌then◌else◌}
use Rattle.std.specs.List.{after_first, before_first, position_or_len}
use Rattle.std.specs.Option.{option_and_then, option_map}
use Rattle.std.specs.Result.{result_ok}
use Rattle.std.specs.Str.{bytes_eq}
use Rattle.usb_model.specs.declared.plan.Plan.TheVariants.{Return}
use Rattle.usb_model.specs.declared.verdict.Rule.{Rule}
use Rattle.usb_model.specs.declared.verdict.Rule.TheVariants.{Again, Free}
use Rattle.usb_model.specs.declared.status.StatusSet.{StatusSet}
use Rattle.usb_model.specs.declared.step.Step.{Step}
use Rattle.usb_model.specs.declared.step.Step.TheVariants as step
use Rattle.usb_model.specs.Text.{status_names}
use Rattle.usb_model.specs.World.Plans.{is_submission, once_only}
use Rattle.usb_descriptors.specs.Grammar.{reading}
use Rattle.trace_scenario.specs.declared.line.Line.{Line}
use Rattle.trace_scenario.specs.declared.line.Line.TheVariants as line
use Rattle.trace_scenario.specs.declared.verb.Verb.{Verb}
use Rattle.trace_scenario.specs.declared.verb.Verb.TheVariants as verb
use Rattle.usb_scripttext.specs.Script.{endpoint_answers_of}
use Rattle.usb_scripttext.specs.Words.{ascii_of}
use Rattle.trace_scenario.specs.Line.{body_of, device_line_of, feed_line, kind_of, line_by, line_of, line_of_text, script_line, submission, submit_of, transfer_of}
use Rattle.trace_scenario.specs.Step.{bare_of, cancel_of, claim_of, clear_of, close_of, expire_of, line_of_step, open_of, release_of, reset_of, return_of, serve_of, unplug_of}
use Rattle.trace_scenario.specs.Verb.{verb_of}
use Rattle.trace_scenario.specs.declared.option.Options.{Options}
use Rattle.trace_scenario.specs.Names.{union_of}
use Rattle.usb_scripttext.specs.Number.{address_of, bytes_of, device_of, last_device, u64_of, u8_of}
use Rattle.trace_scenario.specs.Handle.{handle_of}
use Rattle.trace_scenario.specs.Option.{again_of, flags_said, option_rest, option_value, options_of, rule_by, rule_of, rule_said, timeout_said}
use Rattle.usb_scripttext.specs.Prefix.{behind}
use Rattle.usb_scripttext.specs.Words.{words_in}
use Rattle.trace_scenario.specs.Runnable.{is_verdict}
use Rattle.usb_scripttext.proofs.Fits.{AreFit, IsScriptOf, if_and_then, if_and_then_of, if_map, if_map_of, if_tested, number_within, said_fit}

-- a rule that isn't Free
abbrev pub IsFixed : Rule → Type 0
IsFixed rule = rule ≢ Free

again_fixed : (on : StatusSet) (rounds : ℕ) → IsFixed (Again on rounds)
again_fixed on rounds e = cc

again_said : (word : List ℕ) → IfSome (again_of word) IsFixed
again_said word = by_test (nat_lt (position_or_len (λ b. b == 58) word) (length word))
  where
    by_test : (b : Bool) → IfSome (if b then option_and_then (λ bits. option_map (λ rounds. Again (record { 0 = bits }) rounds) (u64_of (after_first (λ b. b == 58) word))) (union_of status_names (before_first (λ b. b == 58) word)) else None) IsFixed
    by_test false = tt
    by_test true = if_and_then IsFixed (λ bits. option_map (λ rounds. Again (record { 0 = bits }) rounds) (u64_of (after_first (λ b. b == 58) word))) (union_of status_names (before_first (λ b. b == 58) word))
        (λ bits. if_map IsFixed (λ rounds. Again (record { 0 = bits }) rounds) (u64_of (after_first (λ b. b == 58) word)) (λ rounds. again_fixed (record { 0 = bits }) rounds))

rule_fixed : (word : List ℕ) → IfSome (rule_of word) IsFixed
unfolding rule_of
rule_fixed word = by_test (bytes_eq word (codes "stop"))
  where
    by_test : (b : Bool) → IfSome (if b then Some once_only else option_and_then again_of (behind (codes "again:") word)) IsFixed
    by_test true = again_fixed _ 0
    by_test false = if_and_then IsFixed again_of (behind (codes "again:") word) again_said

said_fixed : (o : Option (List ℕ)) → IfSome (rule_by o) IsFixed
said_fixed None = again_fixed _ 0
said_fixed (Some word) = rule_fixed word

-- so is that of the options
options_fixed : (words : List (List ℕ)) → IfSome (options_of words) (λ o. IsFixed o.rule)
unfolding options_of
options_fixed words =
    let behind_flags : List (List ℕ) = option_rest (codes "flags=") words in
    let behind_timeout : List (List ℕ) = option_rest (codes "timeout=") behind_flags in
    let behind_all : List (List ℕ) = option_rest (codes "then=") behind_timeout in
    if_and_then Fixed _ (flags_said words) (λ flags. if_and_then Fixed _ (timeout_said behind_flags) (λ timeout.
    if_and_then_of IsFixed Fixed (λ rule. if length behind_all == 0 then Some (record { flags = flags; timeout = timeout; rule = rule }) else None) (rule_said behind_timeout) (said_fixed (option_value (codes "then=") behind_timeout))
    (λ rule fixed. if_tested Fixed (length behind_all == 0) (record { flags = flags; timeout = timeout; rule = rule }) (λ none. fixed))))
  where
    Fixed : Options → Type 0
    Fixed o = IsFixed o.rule

-- what a line always says: one of four devices; a script, or answers behind one, that its endpoint may have; a rule that isn't Free; and as another piece neither a verdict nor a submission
abbrev pub SaysFit : Line → Type 0
SaysFit (line.Device number config) = number ≤ last_device
SaysFit (line.Script dev ep answers) = IsScriptOf ep answers
SaysFit (line.Feed dev ep answers) = IsScriptOf ep answers
SaysFit (line.Submit h request rule) = IsFixed rule
SaysFit (line.Piece piece) = (is_verdict piece ≡ false) × (is_submission piece ≡ false)

device_fits : (words : List (List ℕ)) → IfSome (device_line_of words) SaysFit
unfolding device_line_of
device_fits (number ∷ descriptor ∷ []) =
    if_and_then_of (λ n. n ≤ last_device) SaysFit (λ d. option_and_then (λ bytes. option_map (line.Device d) (result_ok (reading bytes))) (bytes_of descriptor)) (device_of number) (number_within last_device number)
    (λ d within. if_and_then SaysFit (λ bytes. option_map (line.Device d) (result_ok (reading bytes))) (bytes_of descriptor) (λ bytes. if_map SaysFit (line.Device d) (result_ok (reading bytes)) (λ config. within)))
device_fits [] = tt
device_fits (number ∷ []) = tt
device_fits (number ∷ descriptor ∷ more ∷ words) = tt

-- a script, and answers behind one
script_fits : (words : List (List ℕ)) → IfSome (option_map script_line (endpoint_answers_of words)) SaysFit
script_fits words = if_map_of AreFit SaysFit script_line (endpoint_answers_of words) (said_fit words) (λ said fit. fit)

feed_fits : (words : List (List ℕ)) → IfSome (option_map feed_line (endpoint_answers_of words)) SaysFit
feed_fits words = if_map_of AreFit SaysFit feed_line (endpoint_answers_of words) (said_fit words) (λ said fit. fit)

transfer_fits : (h ep : ℕ) (words : List (List ℕ)) → IfSome (transfer_of h ep words) SaysFit
unfolding transfer_of
transfer_fits h ep (kind ∷ body ∷ options) =
    if_and_then SaysFit _ (kind_of kind) (λ k. if_and_then SaysFit _ (body_of body) (λ b. if_map_of (λ o. IsFixed o.rule) SaysFit (λ o. submission h ep k b o) (options_of options) (options_fixed options) (λ o fixed. fixed)))
transfer_fits h ep [] = tt
transfer_fits h ep (kind ∷ []) = tt

submit_fits : (words : List (List ℕ)) → IfSome (submit_of words) SaysFit
unfolding submit_of
submit_fits (h ∷ ep ∷ words) = if_and_then SaysFit _ (handle_of h) (λ g. if_and_then SaysFit _ (address_of ep) (λ e. transfer_fits g e words))
submit_fits [] = tt
submit_fits (h ∷ []) = tt

-- a step of one word
one_word : {A : Type 0} (f : A → Step) (o : Option A) → ((x : A) → SaysFit (line_of_step (f x))) → IfSome (option_map (λ x. line_of_step (f x)) o) SaysFit
one_word f o fits = if_map SaysFit (λ x. line_of_step (f x)) o fits

-- and of two
two_words : {A B : Type 0} (f : A → B → Step) (o : Option A) (p : Option B) → ((x : A) (y : B) → SaysFit (line_of_step (f x y))) → IfSome (option_and_then (λ x. option_map (λ y. line_of_step (f x y)) p) o) SaysFit
two_words f o p fits = if_and_then SaysFit (λ x. option_map (λ y. line_of_step (f x y)) p) o (λ x. one_word (f x) p (fits x))

bare_fits : (s : Step) (words : List (List ℕ)) → SaysFit (line_of_step s) → IfSome (bare_of s words) SaysFit
unfolding bare_of
bare_fits s [] fits = fits
bare_fits s (word ∷ words) fits = tt

open_fits : (words : List (List ℕ)) → IfSome (open_of words) SaysFit
unfolding open_of
open_fits (h ∷ dev ∷ []) = two_words step.Open (handle_of h) (device_of dev) (λ x y. (refl, refl))
open_fits [] = tt
open_fits (h ∷ []) = tt
open_fits (h ∷ dev ∷ more ∷ words) = tt

close_fits : (words : List (List ℕ)) → IfSome (close_of words) SaysFit
unfolding close_of
close_fits (h ∷ []) = one_word step.Close (handle_of h) (λ x. (refl, refl))
close_fits [] = tt
close_fits (h ∷ more ∷ words) = tt

claim_fits : (words : List (List ℕ)) → IfSome (claim_of words) SaysFit
unfolding claim_of
claim_fits (h ∷ i ∷ []) = two_words step.Claim (handle_of h) (u8_of i) (λ x y. (refl, refl))
claim_fits [] = tt
claim_fits (h ∷ []) = tt
claim_fits (h ∷ i ∷ more ∷ words) = tt

release_fits : (words : List (List ℕ)) → IfSome (release_of words) SaysFit
unfolding release_of
release_fits (h ∷ i ∷ []) = two_words step.Release (handle_of h) (u8_of i) (λ x y. (refl, refl))
release_fits [] = tt
release_fits (h ∷ []) = tt
release_fits (h ∷ i ∷ more ∷ words) = tt

reset_fits : (words : List (List ℕ)) → IfSome (reset_of words) SaysFit
unfolding reset_of
reset_fits (h ∷ []) = one_word step.Reset (handle_of h) (λ x. (refl, refl))
reset_fits [] = tt
reset_fits (h ∷ more ∷ words) = tt

clear_fits : (words : List (List ℕ)) → IfSome (clear_of words) SaysFit
unfolding clear_of
clear_fits (h ∷ ep ∷ []) = two_words step.ClearHalt (handle_of h) (address_of ep) (λ x y. (refl, refl))
clear_fits [] = tt
clear_fits (h ∷ []) = tt
clear_fits (h ∷ ep ∷ more ∷ words) = tt

cancel_fits : (words : List (List ℕ)) → IfSome (cancel_of words) SaysFit
unfolding cancel_of
cancel_fits (h ∷ n ∷ []) = two_words step.Cancel (handle_of h) (u64_of n) (λ x y. (refl, refl))
cancel_fits [] = tt
cancel_fits (h ∷ []) = tt
cancel_fits (h ∷ n ∷ more ∷ words) = tt

expire_fits : (words : List (List ℕ)) → IfSome (expire_of words) SaysFit
unfolding expire_of
expire_fits (h ∷ n ∷ []) = two_words step.Expire (handle_of h) (u64_of n) (λ x y. (refl, refl))
expire_fits [] = tt
expire_fits (h ∷ []) = tt
expire_fits (h ∷ n ∷ more ∷ words) = tt

serve_fits : (words : List (List ℕ)) → IfSome (serve_of words) SaysFit
unfolding serve_of
serve_fits (dev ∷ ep ∷ []) = two_words step.Serve (device_of dev) (address_of ep) (λ x y. (refl, refl))
serve_fits [] = tt
serve_fits (dev ∷ []) = tt
serve_fits (dev ∷ ep ∷ more ∷ words) = tt

unplug_fits : (words : List (List ℕ)) → IfSome (unplug_of words) SaysFit
unfolding unplug_of
unplug_fits (dev ∷ []) = one_word step.Unplug (device_of dev) (λ x. (refl, refl))
unplug_fits [] = tt
unplug_fits (dev ∷ more ∷ words) = tt

return_fits : (words : List (List ℕ)) → IfSome (return_of words) SaysFit
unfolding return_of
return_fits (h ∷ n ∷ []) = if_and_then SaysFit (λ x. option_map (λ y. line.Piece (Return x y)) (u64_of n)) (handle_of h) (λ x. if_map SaysFit (λ y. line.Piece (Return x y)) (u64_of n) (λ y. (refl, refl)))
return_fits [] = tt
return_fits (h ∷ []) = tt
return_fits (h ∷ n ∷ more ∷ words) = tt

-- the line of any verb
verb_fits : (v : Verb) (words : List (List ℕ)) → IfSome (line_by v words) SaysFit
verb_fits verb.Device words = device_fits words
verb_fits verb.Script words = script_fits words
verb_fits verb.Feed words = feed_fits words
verb_fits verb.Submit words = submit_fits words
verb_fits verb.Open words = open_fits words
verb_fits verb.Close words = close_fits words
verb_fits verb.Claim words = claim_fits words
verb_fits verb.Release words = release_fits words
verb_fits verb.Reset words = reset_fits words
verb_fits verb.Clear words = clear_fits words
verb_fits verb.Cancel words = cancel_fits words
verb_fits verb.Expire words = expire_fits words
verb_fits verb.Serve words = serve_fits words
verb_fits verb.Command words = bare_fits step.Command words (refl, refl)
verb_fits verb.Deliver words = bare_fits step.Deliver words (refl, refl)
verb_fits verb.Take words = bare_fits step.Take words (refl, refl)
verb_fits verb.Return words = return_fits words
verb_fits verb.Unplug words = unplug_fits words

words_fit : (words : List (List ℕ)) → IfSome (line_of words) SaysFit
words_fit [] = tt
words_fit (word ∷ words) = if_and_then SaysFit (λ v. line_by v words) (verb_of word) (λ v. verb_fits v words)

-- any line of text
pub text_fits : (text : List ℕ) → IfSome (line_of_text text) SaysFit
text_fits text = if_and_then SaysFit (λ ascii. line_of (words_in ascii)) (ascii_of text) (λ ascii. words_fit (words_in ascii))
