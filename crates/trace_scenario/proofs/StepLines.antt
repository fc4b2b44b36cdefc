-- Lines that say steps, one for each piece of the plan.
use Rattle.std.proofs.Common.{◌≡◌, ℕ, ◌+◌, ◌<◌, ◌≤◌, ◌==◌, nat_lt, Bool, true, false, ◌&&◌, ◌⊎◌, inl, inr, List, [], ◌∷◌, ◌++◌, length, get_or, drop, append_assoc, append-nil, Option, Some, None, Ok, refl, sym, ap, ◌∙◌, arith}
use Rattle.std.specs.Prelude.{IfSome, slice_get, slice_set, if◌then◌else◌}
use Rattle.std.specs.List.{slice_split}
use Rattle.std.specs.Option.{option_and_then, option_map}
use Rattle.std.proofs.lemmas.Bool.{ltb-false, ltb-true}
use Rattle.std.proofs.lemmas.List.{at_drop_all, at_drop_more, length_push}
use Rattle.usb_model.specs.declared.plan.Plan.TheVariants.{Do}
use Rattle.usb_model.specs.declared.setup.DeviceSetup.{DeviceSetup}
use Rattle.usb_model.specs.declared.step.Step.TheVariants as step
use Rattle.trace_scenario.specs.declared.line.Line.{Line}
use Rattle.trace_scenario.specs.declared.line.Line.TheVariants as line
use Rattle.trace_scenario.specs.Line.{line_of_text}
use Rattle.trace_scenario.specs.declared.scenario.Scenario.{Scenario}
use Rattle.trace_scenario.specs.Scenario.{device_fed, nothing_said, scenario_from, scenario_of, taken_at, with_device, with_line, with_text}
use Rattle.usb_scripttext.specs.Devices.{device_with, new_device}
use Rattle.usb_scripttext.specs.Words.{says_nothing}
use Rattle.trace_scenario.specs.StepLines.{has_grown, step_lines, step_lines_from, step_lines_past}
use Rattle.usb_scripttext.proofs.Fits.{if_and_then, if_map, if_tested}

-- the plan stays as long, or has one piece more
abbrev Grows : Scenario → Scenario → Type 0
Grows s t = (length t.plan ≡ length s.plan) ⊎ (length t.plan ≡ length s.plan + 1)

-- with another device in the place of one
device_grows : (s : Scenario) (dev : ℕ) (change : DeviceSetup → Option DeviceSetup) → IfSome (with_device change dev s) (Grows s)
device_grows s dev change =
    if_and_then (Grows s) (λ device. option_map (λ changed. record s { setup = slice_set s.setup dev changed }) (change device)) (slice_get s.setup dev)
    (λ device. if_map (Grows s) (λ changed. record s { setup = slice_set s.setup dev changed }) (change device) (λ changed. inl refl))

-- with what one more line says
line_grows : (s : Scenario) (l : Line) → IfSome (with_line s l) (Grows s)
line_grows s (line.Device number config) =
    if_tested (Grows s) ((length s.plan == 0) && (number == length s.setup)) (record s { setup = s.setup ++ new_device config ∷ [] }) (λ passed. inl refl)
line_grows s (line.Script dev ep answers) = by_test (length s.plan == 0)
  where
    by_test : (b : Bool) → IfSome (if b then with_device (device_with ep answers) dev s else None) (Grows s)
    by_test false = tt
    by_test true = device_grows s dev (device_with ep answers)
line_grows s (line.Feed dev ep answers) = device_grows s dev (device_fed ep answers)
line_grows s (line.Submit h request rule) = inr (length_push s.plan (Do (step.Submit h request)))
line_grows s (line.Piece piece) = inr (length_push s.plan piece)

-- with one more line of text
text_grows : (s : Scenario) (text : List ℕ) → IfSome (with_text s text) (Grows s)
text_grows s text = by_test (says_nothing text)
  where
    by_test : (b : Bool) → IfSome (if b then Some s else option_and_then (with_line s) (line_of_text text)) (Grows s)
    by_test true = inl refl
    by_test false = if_and_then (Grows s) (with_line s) (line_of_text text) (λ l. line_grows s l)

-- a plan that grew has one more line
one_more : (n m : ℕ) (b : Bool) (x : ℕ × List ℕ) (xs : List (ℕ × List ℕ)) → nat_lt n m ≡ b → (m ≡ n) ⊎ (m ≡ n + 1) → n + length (if b then x ∷ xs else xs) ≡ m + length xs
one_more n m true x xs is (inl same) = let less : n < m = ltb-true n m is in absurd (omega (arith, less, same))
one_more n m true x xs is (inr more) = omega (arith, more)
one_more n m false x xs is (inl same) = omega (arith, same)
one_more n m false x xs is (inr more) = let less : m ≤ n = ltb-false n m is in absurd (omega (arith, less, more))

-- as many lines as pieces
as_many : (at : ℕ) (s t : Scenario) (texts : List (List ℕ)) → scenario_from at s texts ≡ Ok t → length s.plan + length (step_lines_from at s texts) ≡ length t.plan
unfolding scenario_from step_lines_from
as_many at s t [] is = let same : s ≡ t = cc in omega (arith, ap (λ (u : Scenario). length u.plan) same)
as_many at s t (text ∷ texts) is = by_line (with_text s text) (text_grows s text) is (λ u. as_many (at + 1) u t texts)
  where
    by_line : (o : Option Scenario) → IfSome o (Grows s) → taken_at at (λ u. scenario_from (at + 1) u texts) o ≡ Ok t
        → ((u : Scenario) → scenario_from (at + 1) u texts ≡ Ok t → length u.plan + length (step_lines_from (at + 1) u texts) ≡ length t.plan)
        → length s.plan + length (step_lines_past at s text (λ u. step_lines_from (at + 1) u texts) o) ≡ length t.plan
    by_line None grows is further = cc
    by_line (Some u) grows is further =
        one_more (length s.plan) (length u.plan) (nat_lt (length s.plan) (length u.plan)) (at, text) (step_lines_from (at + 1) u texts) refl grows ∙ further u is

-- so it is of a whole text
pub line_each : (text : List ℕ) (t : Scenario) → scenario_of text ≡ Ok t → length (step_lines text) ≡ length t.plan
line_each text t is = omega (arith, as_many 1 nothing_said t (slice_split (λ b. b == 10) text) is)

-- a line that is put behind others, if it is to be, stands before the rest
put_behind : (b : Bool) (x : ℕ × List ℕ) (old rest : List (ℕ × List ℕ)) → (old ++ (if b then x ∷ [] else [])) ++ rest ≡ old ++ (if b then x ∷ rest else rest)
put_behind true x old rest = append_assoc old (x ∷ []) rest
put_behind false x old rest = ap (λ l. l ++ rest) (append-nil old)

-- the lines so far, and those from here on, with one line more
pub kept_more : (texts : List (List ℕ)) (i : ℕ) (text : List ℕ) (s t : Scenario) (old new all : List (ℕ × List ℕ)) (number before after : ℕ)
    → (i < length texts) × (text ≡ get_or texts i text) → with_text s text ≡ Some t → number ≡ i + 1 → before ≡ length s.plan → after ≡ length t.plan
    → new ≡ old ++ (if nat_lt before after then (number, text) ∷ [] else []) → old ++ step_lines_from (i + 1) s (drop i texts) ≡ all
    → new ++ step_lines_from (i + 1 + 1) t (drop (i + 1) texts) ≡ all
unfolding step_lines_from
kept_more texts i text s t old new all number before after here taken at was is put so_far =
    let rest : List (ℕ × List ℕ) = step_lines_from (i + 1 + 1) t (drop (i + 1) texts) in
    let further : Scenario → List (ℕ × List ℕ) = λ u. step_lines_from (i + 1 + 1) u (drop (i + 1) texts) in
    let left : step_lines_from (i + 1) s (drop i texts) ≡ (if has_grown s t then (i + 1, text) ∷ rest else rest) =
    at_drop_more (step_lines_from (i + 1) s) texts i text here.0
    ∙ (ap (λ line. step_lines_past (i + 1) s line further (with_text s line)) (sym here.1) ∙ ap (step_lines_past (i + 1) s text further) taken) in
    ap (λ l. l ++ rest) (rw (at, was, is) at put) ∙ (put_behind (has_grown s t) (i + 1, text) old rest ∙ (ap (λ l. old ++ l) (sym left) ∙ so_far))

-- at the end none is left
pub kept_all : (texts : List (List ℕ)) (i : ℕ) (s : Scenario) (old all : List (ℕ × List ℕ)) → length texts ≤ i → old ++ step_lines_from (i + 1) s (drop i texts) ≡ all → old ≡ all
unfolding step_lines_from
kept_all texts i s old all past so_far = sym (append-nil old) ∙ (sym (ap (λ l. old ++ l) (at_drop_all (step_lines_from (i + 1) s) texts i past)) ∙ so_far)
