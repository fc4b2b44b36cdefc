-- Each line leaves a scenario runnable.
use Rattle.std.proofs.Common.{◌≡◌, ℕ, zero, suc, ◌+◌, ◌≤◌, ◌==◌, nat_le, Bool, true, false, ◌&&◌, List, [], ◌∷◌, ◌++◌, length, length-append, length-set, Option, Some, None, Result, Ok, refl, sym, ap, ◌∙◌, subst, arith}
use Rattle.std.specs.Prelude.{IfOk, IfSome, count_by, slice_get, slice_set, unwrap_or, if◌then◌else◌}
use Rattle.std.specs.List.{list_all, slice_split}
use Rattle.std.specs.Option.{option_and_then, option_map}
use Rattle.std.proofs.lemmas.Bool.{and_from, and_parts, eqb-true, le-leb, leb-true}
use Rattle.std.proofs.lemmas.List.Sums.{sum_by-append}
use Rattle.usb_model.specs.declared.plan.Plan.{Plan}
use Rattle.usb_model.specs.declared.plan.Plan.TheVariants.{Do}
use Rattle.usb_model.specs.declared.response.Response.{Response}
use Rattle.usb_model.specs.declared.setup.Configuration.{Configuration}
use Rattle.usb_model.specs.declared.setup.DeviceSetup.{DeviceSetup}
use Rattle.usb_model.specs.declared.step.Step.TheVariants as step
use Rattle.usb_model.specs.Limits.{longest_script}
use Rattle.usb_model.specs.Setup.{endpoint_id, is_in}
use Rattle.usb_model.specs.World.Plans.{is_submission}
use Rattle.usb_device.specs.Scripts.{are_scripts_from, info_by, is_answer, is_script}
use Rattle.trace_scenario.specs.declared.line.Line.{Line}
use Rattle.trace_scenario.specs.declared.line.Line.TheVariants as line
use Rattle.trace_scenario.specs.Line.{line_of_text}
use Rattle.trace_scenario.specs.declared.scenario.Scenario.{Scenario}
use Rattle.usb_device.specs.Scripts.{CanBeMade}
use Rattle.trace_scenario.specs.Runnable.{IsRunnable, is_verdict}
use Rattle.trace_scenario.specs.Scenario.{device_fed, fits_behind, has_room, nothing_said, scenario_from, scenario_of, script_at, taken_at, with_device, with_line, with_text}
use Rattle.usb_scripttext.specs.Devices.{device_with, new_device, takes_script}
use Rattle.usb_scripttext.specs.Words.{says_nothing}
use Rattle.trace_scenario.proofs.Lines.{IsFixed, SaysFit, text_fits}
use Rattle.usb_scripttext.proofs.Fits.{IsScriptOf, if_and_then_of, if_map_of, if_tested}
use Rattle.usb_scripttext.proofs.Made.{IsThere, all_get, all_more, all_set, device_made, empty_fits, new_made, script_put, there}

-- what is said of each of some answers is said of them together
all_answers : (f : Response → Bool) (xs ys : List Response) → list_all f xs ≡ true → list_all f ys ≡ true → list_all f (xs ++ ys) ≡ true
all_answers f [] ys these those = those
all_answers f (x ∷ xs) ys these those =
    let parts = and_parts (f x) (list_all f xs) these in
    and_from (f x) (list_all f (xs ++ ys)) parts.0 (all_answers f xs ys parts.1 those)

-- the script that stands at an id may stand there
script_fit : (config : Configuration) (from : ℕ) (scripts : List (List Response)) (i : ℕ) → are_scripts_from config from scripts ≡ true → is_script (info_by config (from + i)) (script_at i scripts) ≡ true
unfolding are_scripts_from
script_fit config from [] i fit = empty_fits (info_by config (from + i))
script_fit config from (script ∷ scripts) zero fit =
    let parts = and_parts (is_script (info_by config from) script) (are_scripts_from config (from + 1) scripts) fit in
    let here : ◌≡◌ {A = ℕ} (from + 0) from = omega arith in
    ap (λ n. is_script (info_by config n) script) here ∙ parts.0
script_fit config from (script ∷ scripts) (suc i) fit =
    let parts = and_parts (is_script (info_by config from) script) (are_scripts_from config (from + 1) scripts) fit in
    let same : ◌≡◌ {A = ℕ} (from + suc i) (from + 1 + i) = omega arith in
    ap (λ n. is_script (info_by config n) (script_at i scripts)) same ∙ script_fit config (from + 1) scripts i parts.1

-- where answers fit behind a script, the whole is within the limit
room_within : (more : ℕ) (o : Option (List Response)) → fits_behind more o ≡ true → length (unwrap_or o []) + more ≤ longest_script
room_within more None fits = absurd cc
room_within more (Some script) fits = leb-true (length script + more) longest_script fits

-- a script with answers behind it may stand where it does
fed_stands : (config : Configuration) (ep : ℕ) (script answers : List Response) → takes_script config ep ≡ true → length script + length answers ≤ longest_script
    → is_script (info_by config (endpoint_id ep)) script ≡ true → IsScriptOf ep answers → is_script (info_by config (endpoint_id ep)) (script ++ answers) ≡ true
fed_stands config ep script answers takes room stands fits =
    let t : IsThere ep config.endpoints = there ep config.endpoints takes in
    let parts = and_parts (nat_le (length script) longest_script) (list_all (is_answer (is_in t.info.address)) script) (sym (ap (λ o. is_script o script) t.found) ∙ stands) in
    let long : length (script ++ answers) ≤ longest_script = omega (arith, length-append script answers, room) in
    ap (λ o. is_script o (script ++ answers)) t.found
    ∙ and_from (nat_le (length (script ++ answers)) longest_script) (list_all (is_answer (is_in t.info.address)) (script ++ answers)) (le-leb (length (script ++ answers)) longest_script long)
    (all_answers (is_answer (is_in t.info.address)) script answers parts.1 (ap (λ b. list_all (is_answer b) answers) t.direction ∙ fits.1))

-- a device with answers behind one of its scripts
fed_made : (ep : ℕ) (answers : List Response) (device : DeviceSetup) → IsScriptOf ep answers → CanBeMade device → IfSome (device_fed ep answers device) CanBeMade
fed_made ep answers device fits made =
    let script : List Response = script_at (endpoint_id ep) device.scripts in
    if_tested CanBeMade (takes_script device.config ep && has_room (endpoint_id ep) (length answers) device.scripts) (record device { scripts = slice_set device.scripts (endpoint_id ep) (script ++ answers) })
    (λ passed. let parts = and_parts (takes_script device.config ep) (has_room (endpoint_id ep) (length answers) device.scripts) passed in
    let from_0 : ◌≡◌ {A = ℕ} (0 + endpoint_id ep) (endpoint_id ep) = omega arith in
    let stands : is_script (info_by device.config (endpoint_id ep)) script ≡ true =
    sym (ap (λ n. is_script (info_by device.config n) script) from_0) ∙ script_fit device.config 0 device.scripts (endpoint_id ep) made.fit in
    let whole : is_script (info_by device.config (endpoint_id ep)) (script ++ answers) ≡ true =
    fed_stands device.config ep script answers parts.0 (room_within (length answers) (slice_get device.scripts (endpoint_id ep)) parts.1) stands fits in
    record {
      all = length-set device.scripts (endpoint_id ep) (script ++ answers) ∙ made.all;
      fit = script_put device.config 0 device.scripts (endpoint_id ep) (script ++ answers) made.fit (ap (λ n. is_script (info_by device.config n) (script ++ answers)) from_0 ∙ whole);
    })

-- how many submissions a plan has with one more piece
submissions_more : (plan : List Plan) (piece : Plan) → count_by is_submission (plan ++ piece ∷ []) ≡ count_by is_submission plan + (if is_submission piece then 1 else 0)
submissions_more plan piece = sum_by-append (λ p. if is_submission p then 1 else 0) plan (piece ∷ []) ∙ omega arith

-- with another device in the place of one
device_runnable : (s : Scenario) (dev : ℕ) (change : DeviceSetup → Option DeviceSetup) → IsRunnable s → ((device : DeviceSetup) → CanBeMade device → IfSome (change device) CanBeMade) → IfSome (with_device change dev s) IsRunnable
device_runnable s dev change r made =
    if_and_then_of CanBeMade IsRunnable (λ device. option_map (λ changed. record s { setup = slice_set s.setup dev changed }) (change device)) (slice_get s.setup dev) (all_get CanBeMade s.setup dev r.devices)
    (λ device can. if_map_of CanBeMade IsRunnable (λ changed. record s { setup = slice_set s.setup dev changed }) (change device) (made device can)
    (λ changed changed_made. record {
      few = subst (λ n. n ≤ 4) (sym (length-set s.setup dev changed)) r.few;
      devices = all_set CanBeMade s.setup dev changed r.devices changed_made;
      no_verdict = r.no_verdict;
      ruled = r.ruled;
      fixed = r.fixed;
    }))

-- with what one more line says
line_runnable : (s : Scenario) (l : Line) → IsRunnable s → SaysFit l → IfSome (with_line s l) IsRunnable
line_runnable s (line.Device number config) r fits =
    if_tested IsRunnable ((length s.plan == 0) && (number == length s.setup)) (record s { setup = s.setup ++ new_device config ∷ [] })
    (λ passed. let parts = and_parts (length s.plan == 0) (number == length s.setup) passed in
    let next : number ≡ length s.setup = eqb-true number (length s.setup) parts.1 in
    record {
      few = omega (arith, length-append s.setup (new_device config ∷ []), next, fits);
      devices = all_more CanBeMade s.setup (new_device config) r.devices (new_made config);
      no_verdict = r.no_verdict;
      ruled = r.ruled;
      fixed = r.fixed;
    })
line_runnable s (line.Script dev ep answers) r fits = by_test (length s.plan == 0)
  where
    by_test : (b : Bool) → IfSome (if b then with_device (device_with ep answers) dev s else None) IsRunnable
    by_test false = tt
    by_test true = device_runnable s dev (device_with ep answers) r (λ device made. device_made ep answers device fits made)
line_runnable s (line.Feed dev ep answers) r fits = device_runnable s dev (device_fed ep answers) r (λ device made. fed_made ep answers device fits made)
line_runnable s (line.Submit h request rule) r fits = record {
  few = r.few;
  devices = r.devices;
  no_verdict = all_more (λ piece. is_verdict piece ≡ false) s.plan (Do (step.Submit h request)) r.no_verdict refl;
  ruled = omega (arith, length-append s.rules (rule ∷ []), submissions_more s.plan (Do (step.Submit h request)), r.ruled);
  fixed = all_more IsFixed s.rules rule r.fixed fits;
}
line_runnable s (line.Piece piece) r fits = record {
  few = r.few;
  devices = r.devices;
  no_verdict = all_more (λ p. is_verdict p ≡ false) s.plan piece r.no_verdict fits.0;
  ruled = r.ruled ∙ sym (submissions_more s.plan piece ∙ (ap (λ (b : Bool). count_by is_submission s.plan + (if b then 1 else 0)) fits.1 ∙ omega arith));
  fixed = r.fixed;
}

-- with one more line of text
text_runnable : (s : Scenario) (text : List ℕ) → IsRunnable s → IfSome (with_text s text) IsRunnable
text_runnable s text r = by_test (says_nothing text)
  where
    by_test : (b : Bool) → IfSome (if b then Some s else option_and_then (with_line s) (line_of_text text)) IsRunnable
    by_test true = r
    by_test false = if_and_then_of SaysFit IsRunnable (with_line s) (line_of_text text) (text_fits text) (λ l fits. line_runnable s l r fits)

-- nothing is
nothing_runnable : IsRunnable nothing_said
nothing_runnable = record { few = omega arith; devices = tt; no_verdict = tt; ruled = refl; fixed = tt }

-- with all lines
lines_runnable : (at : ℕ) (s : Scenario) (texts : List (List ℕ)) → IsRunnable s → IfOk (scenario_from at s texts) IsRunnable
unfolding scenario_from
lines_runnable at s [] r = r
lines_runnable at s (text ∷ texts) r = by_line (with_text s text) (text_runnable s text r) (λ t runnable. lines_runnable (at + 1) t texts runnable)
  where
    by_line : (o : Option Scenario) → IfSome o IsRunnable → ((t : Scenario) → IsRunnable t → IfOk (scenario_from (at + 1) t texts) IsRunnable) → IfOk (taken_at at (λ t. scenario_from (at + 1) t texts) o) IsRunnable
    by_line None known further = tt
    by_line (Some t) known further = further t known

-- any scenario of a text is runnable
pub scenarios_runnable : (text : List ℕ) (s : Scenario) → scenario_of text ≡ Ok s → IsRunnable s
scenarios_runnable text s is = subst (λ (r : Result Scenario ℕ). IfOk r IsRunnable) is (lines_runnable 1 nothing_said (slice_split (λ b. b == 10) text) nothing_runnable)
