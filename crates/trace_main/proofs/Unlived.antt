-- The lines of a text, looked through for the first that no handle's thread does.
use Rattle.std.proofs.Common.{◌≡◌, ℕ, ◌+◌, ◌<◌, ◌≤◌, ◌==◌, ◌&&◌, ◌||◌, Bool, true, false, List, [], ◌∷◌, ◌++◌, length, get_or, drop, Option, Some, None, Ok, refl, sym, ◌∙◌, ap, subst, if◌then◌else◌}
use Rattle.std.specs.Prelude.{IfSome, slice_get, slice_set}
use Rattle.std.specs.List.{list_any, onto_first, slice_split}
use Rattle.std.specs.Option.{option_and_then, option_map}
use Rattle.std.proofs.lemmas.Bool.{eqb-true, or_parts}
use Rattle.std.proofs.lemmas.List.{at_drop_more, at_drop_all}
use Rattle.std.proofs.lemmas.List.Folds.{list_any-append}
use Rattle.usb_model.specs.declared.plan.Plan.{Plan}
use Rattle.usb_model.specs.declared.plan.Plan.TheVariants.{Do}
use Rattle.usb_model.specs.declared.setup.DeviceSetup.{DeviceSetup}
use Rattle.usb_model.specs.declared.step.Step.TheVariants as step
use Rattle.usb_scripttext.specs.Devices.{device_with, new_device}
use Rattle.usb_scripttext.specs.Words.{is_ascii, says_nothing, words_in}
use Rattle.usb_scripttext.proofs.Fits.{if_and_then, if_map, if_tested}
use Rattle.trace_scenario.specs.declared.line.Line.{Line}
use Rattle.trace_scenario.specs.declared.line.Line.TheVariants as line
use Rattle.trace_scenario.specs.declared.scenario.Scenario.{Scenario}
use Rattle.trace_scenario.specs.Line.{line_of, line_of_text}
use Rattle.trace_scenario.specs.Scenario.{device_fed, nothing_said, scenario_from, scenario_of, taken_at, with_device, with_line, with_text}
use Rattle.trace_scenario.specs.Verb.{verb_of}
use Rattle.trace_main.specs.Lived.{first_unlived, is_unlived, is_unlived_piece}

-- one line of those that are left
pub unlived-more : (at : ℕ) (texts : List (List ℕ)) (i : ℕ) (text : List ℕ) → (i < length texts) × (text ≡ get_or texts i text)
    → first_unlived at (drop i texts) ≡ (if is_unlived (line_of_text text) then Some at else first_unlived (at + 1) (drop (i + 1) texts))
unfolding first_unlived
unlived-more at texts i text here =
    at_drop_more (first_unlived at) texts i text here.0
    ∙ ap (λ line. if is_unlived (line_of_text line) then Some at else first_unlived (at + 1) (drop (i + 1) texts)) (sym here.1)

-- none is left
pub unlived-end : (at : ℕ) (texts : List (List ℕ)) (i : ℕ) → length texts ≤ i → first_unlived at (drop i texts) ≡ None
unfolding first_unlived
unlived-end at texts i end = at_drop_all (first_unlived at) texts i end

-- no piece of the scenario's plan asks for such a thing
abbrev AllLived : Scenario → Type 0
AllLived s = list_any is_unlived_piece s.plan ≡ false

-- what of a line asks for nothing of the kind, where no piece of the plan behind it does
abbrev LivedLine : Scenario → Option Line → Scenario → Type 0
LivedLine s said t = AllLived t → AllLived s × (is_unlived said ≡ false)

-- a comment's first word is no verb
comment_lived : (bs : List ℕ) → is_unlived (line_of_text (35 ∷ bs)) ≡ false
unfolding verb_of
comment_lived bs = by_ascii (is_ascii (35 ∷ bs))
  where
    by_parts : (parts : List (List ℕ)) → is_unlived (line_of (onto_first 35 parts)) ≡ false
    by_parts [] = refl
    by_parts (part ∷ parts) = refl

    by_ascii : (b : Bool) → is_unlived (option_and_then (λ ascii. line_of (words_in ascii)) (if b then Some (35 ∷ bs) else None)) ≡ false
    by_ascii false = refl
    by_ascii true = by_parts (words_in bs)

-- what says nothing asks for nothing
nothing_lived : (text : List ℕ) → says_nothing text ≡ true → is_unlived (line_of_text text) ≡ false
unfolding verb_of
nothing_lived [] none = refl
nothing_lived (b ∷ bs) none = subst (λ (n : ℕ). is_unlived (line_of_text (n ∷ bs)) ≡ false) (sym (eqb-true b 35 none)) (comment_lived bs)

-- a plan with one more piece
piece_lived : (plan : List Plan) (piece : Plan) → list_any is_unlived_piece (plan ++ piece ∷ []) ≡ false → (list_any is_unlived_piece plan ≡ false) × (is_unlived_piece piece ≡ false)
piece_lived plan piece none =
    let parts = or_parts (list_any is_unlived_piece plan) (is_unlived_piece piece || false) (sym (list_any-append is_unlived_piece plan (piece ∷ [])) ∙ none) in
    (parts.0, (or_parts (is_unlived_piece piece) false parts.1).0)

-- with another device in the place of one the plan stays
device_lived : (s : Scenario) (said : Option Line) (dev : ℕ) (change : DeviceSetup → Option DeviceSetup) → is_unlived said ≡ false → IfSome (with_device change dev s) (LivedLine s said)
device_lived s said dev change other =
    if_and_then (LivedLine s said) (λ device. option_map (λ changed. record s { setup = slice_set s.setup dev changed }) (change device)) (slice_get s.setup dev)
    (λ device. if_map (LivedLine s said) (λ changed. record s { setup = slice_set s.setup dev changed }) (change device) (λ changed none. (none, other)))

-- with what one more line says
line_lived : (s : Scenario) (l : Line) → IfSome (with_line s l) (LivedLine s (Some l))
line_lived s (line.Device number config) =
    if_tested (LivedLine s (Some (line.Device number config))) ((length s.plan == 0) && (number == length s.setup)) (record s { setup = s.setup ++ new_device config ∷ [] }) (λ passed none. (none, refl))
line_lived s (line.Script dev ep answers) = by_test (length s.plan == 0)
  where
    by_test : (b : Bool) → IfSome (if b then with_device (device_with ep answers) dev s else None) (LivedLine s (Some (line.Script dev ep answers)))
    by_test false = tt
    by_test true = device_lived s (Some (line.Script dev ep answers)) dev (device_with ep answers) refl
line_lived s (line.Feed dev ep answers) = device_lived s (Some (line.Feed dev ep answers)) dev (device_fed ep answers) refl
line_lived s (line.Submit h request rule) = λ none. ((piece_lived s.plan (Do (step.Submit h request)) none).0, refl)
line_lived s (line.Piece piece) = piece_lived s.plan piece

-- with one more line of text
text_lived : (s : Scenario) (text : List ℕ) → IfSome (with_text s text) (LivedLine s (line_of_text text))
text_lived s text = by_test (says_nothing text) refl
  where
    by_line : (said : Option Line) → IfSome (option_and_then (with_line s) said) (LivedLine s said)
    by_line None = tt
    by_line (Some l) = line_lived s l

    by_test : (b : Bool) → says_nothing text ≡ b → IfSome (if b then Some s else option_and_then (with_line s) (line_of_text text)) (LivedLine s (line_of_text text))
    by_test true is = λ none. (none, nothing_lived text is)
    by_test false is = by_line (line_of_text text)

-- where no piece of the plan behind some lines asks for such a thing, none of these lines does, and none of the plan before
lines_lived : (at n : ℕ) (s t : Scenario) (texts : List (List ℕ)) → scenario_from at s texts ≡ Ok t → AllLived t → AllLived s × (first_unlived n texts ≡ None)
unfolding scenario_from first_unlived
lines_lived at n s t [] is none = let same : s ≡ t = cc in (subst AllLived (sym same) none, refl)
lines_lived at n s t (text ∷ texts) is none = by_line (with_text s text) (text_lived s text) is (λ u. lines_lived (at + 1) (n + 1) u t texts)
  where
    by_line : (o : Option Scenario) → IfSome o (LivedLine s (line_of_text text)) → taken_at at (λ u. scenario_from (at + 1) u texts) o ≡ Ok t
        → ((u : Scenario) → scenario_from (at + 1) u texts ≡ Ok t → AllLived t → AllLived u × (first_unlived (n + 1) texts ≡ None))
        → AllLived s × ((if is_unlived (line_of_text text) then Some n else first_unlived (n + 1) texts) ≡ None)
    by_line None lived is further = cc
    by_line (Some u) lived is further =
        let rest = further u is none in
        let here = lived rest.0 in
        (here.0, ap (λ (b : Bool). if b then Some n else first_unlived (n + 1) texts) here.1 ∙ rest.1)

-- a whole text whose plan has no such piece has no such line
pub text_without : (text : List ℕ) (s : Scenario) → scenario_of text ≡ Ok s → list_any is_unlived_piece s.plan ≡ false → first_unlived 1 (slice_split (λ b. b == 10) text) ≡ None
text_without text s is none = (lines_lived 1 1 nothing_said s (slice_split (λ b. b == 10) text) is none).1
