-- Answers that are fed are as if they had stood in the script.
use Rattle.std.proofs.Common.{◌≡◌, ℕ, zero, suc, ◌+◌, ◌<◌, ◌≤◌, ◌==◌, nat_le, nat_lt, Bool, true, false, ◌&&◌, List, [], ◌∷◌, ◌++◌, length, length-append, length-set, Option, Some, None, refl, sym, ap, ◌∙◌, subst, arith}
use Rattle.std.specs.Prelude.{IfSome, slice_get, slice_set, unwrap_or, if◌then◌else◌}
use Rattle.std.specs.List.{AllByRecursion}
use Rattle.std.specs.Option.{option_and_then, option_map}
use Rattle.std.proofs.lemmas.Bool.{and_parts, eqb-false, eqb-true, le-leb, ltb-false, ltb-true}
use Rattle.usb_model.specs.declared.response.Response.{Response}
use Rattle.usb_model.specs.declared.setup.Configuration.{Configuration}
use Rattle.usb_model.specs.declared.setup.DeviceSetup.{DeviceSetup}
use Rattle.usb_model.specs.Limits.{longest_script}
use Rattle.usb_model.specs.Setup.{endpoint_id}
use Rattle.trace_scenario.specs.declared.line.Line.{Line}
use Rattle.trace_scenario.specs.declared.line.Line.TheVariants as line
use Rattle.trace_scenario.specs.declared.scenario.Scenario.{Scenario}
use Rattle.trace_scenario.specs.Feeds.{IsFedAlone, IsFedLater, LeavesAlone, Says, has_answers_of}
use Rattle.trace_scenario.specs.Line.{line_of_text}
use Rattle.usb_scripttext.specs.Devices.{device_with, empty_scripts, is_empty_script, is_free, new_device, takes_script}
use Rattle.usb_device.specs.Scripts.{endpoint_ids}
use Rattle.trace_scenario.specs.Scenario.{fits_behind, has_room, nothing_said, scenario_from, scenario_of, script_at, taken_at, with_device, with_line, with_text}
use Rattle.usb_scripttext.specs.Words.{says_nothing}
use Rattle.trace_scenario.proofs.Lines.{SaysFit, text_fits}
use Rattle.usb_scripttext.proofs.Made.{long_empty}

-- an item that was found is found in a longer list too
found_behind : {A : Type 0} (xs ys : List A) (i : ℕ) (x : A) → slice_get xs i ≡ Some x → slice_get (xs ++ ys) i ≡ Some x
found_behind [] ys i x found = cc
found_behind (y ∷ xs) ys zero x found = found
found_behind (y ∷ xs) ys (suc i) x found = found_behind xs ys i x found

-- and is put there as in the list
put_behind : {A : Type 0} (xs ys : List A) (i : ℕ) (x y : A) → slice_get xs i ≡ Some x → slice_set (xs ++ ys) i y ≡ slice_set xs i y ++ ys
put_behind [] ys i x y found = cc
put_behind (z ∷ xs) ys zero x y found = refl
put_behind (z ∷ xs) ys (suc i) x y found = ap (λ l. z ∷ l) (put_behind xs ys i x y found)

-- what was put is found
found_put : {A : Type 0} (xs : List A) (i : ℕ) (x y : A) → slice_get xs i ≡ Some x → slice_get (slice_set xs i y) i ≡ Some y
found_put [] i x y found = cc
found_put (z ∷ xs) zero x y found = refl
found_put (z ∷ xs) (suc i) x y found = found_put xs i x y found

-- elsewhere all is as it was
found_elsewhere : {A : Type 0} (xs : List A) (i j : ℕ) (y : A) → ¬ (i ≡ j) → slice_get (slice_set xs i y) j ≡ slice_get xs j
found_elsewhere [] i j y other = refl
found_elsewhere (z ∷ xs) zero zero y other = absurd (other refl)
found_elsewhere (z ∷ xs) zero (suc j) y other = refl
found_elsewhere (z ∷ xs) (suc i) zero y other = refl
found_elsewhere (z ∷ xs) (suc i) (suc j) y other = found_elsewhere xs i j y (λ e. other (ap suc e))

-- what is put twice in a place is the second
put_twice : {A : Type 0} (xs : List A) (i : ℕ) (x y : A) → slice_set (slice_set xs i x) i y ≡ slice_set xs i y
put_twice [] i x y = refl
put_twice (z ∷ xs) zero x y = refl
put_twice (z ∷ xs) (suc i) x y = ap (λ l. z ∷ l) (put_twice xs i x y)

-- two places are filled in any order
put_both : {A : Type 0} (xs : List A) (i j : ℕ) (x y : A) → ¬ (i ≡ j) → slice_set (slice_set xs i x) j y ≡ slice_set (slice_set xs j y) i x
put_both [] i j x y other = refl
put_both (z ∷ xs) zero zero x y other = absurd (other refl)
put_both (z ∷ xs) zero (suc j) x y other = refl
put_both (z ∷ xs) (suc i) zero x y other = refl
put_both (z ∷ xs) (suc i) (suc j) x y other = ap (λ l. z ∷ l) (put_both xs i j x y (λ e. other (ap suc e)))

-- a device with answers behind the script of an id
abbrev fed : ℕ → List Response → DeviceSetup → DeviceSetup
fed id more device = record device { scripts = slice_set device.scripts id (script_at id device.scripts ++ more) }

-- whether an endpoint of a device may be fed these answers
abbrev may_be_fed : ℕ → List Response → DeviceSetup → Bool
may_be_fed ep more device = takes_script device.config ep && has_room (endpoint_id ep) (length more) device.scripts

-- a scenario with such a device in its place
abbrev fed_at : ℕ → ℕ → List Response → DeviceSetup → Scenario → Scenario
fed_at dev ep more device s = record s { setup = slice_set s.setup dev (fed (endpoint_id ep) more device) }

-- answers are taken: by which device
record IsTaken (dev ep : ℕ) (more : List Response) (s : Scenario) : Type 0 where
  device : DeviceSetup
  found : slice_get s.setup dev ≡ Some device
  may : may_be_fed ep more device ≡ true

-- what answers make of a scenario that takes them
taken : (dev ep : ℕ) (more : List Response) (s : Scenario) (t : IsTaken dev ep more s) → with_line s (line.Feed dev ep more) ≡ Some (fed_at dev ep more t.device s)
taken dev ep more s t = rw (t.found, t.may) refl

-- a script or answers, by what they ask of the script that is there, and what they make of it
abbrev changed_by : (Option (List Response) → Bool) → (Option (List Response) → List Response) → ℕ → DeviceSetup → Option DeviceSetup
changed_by test make ep device =
    if takes_script device.config ep && test (slice_get device.scripts (endpoint_id ep))
    then Some (record device { scripts = slice_set device.scripts (endpoint_id ep) (make (slice_get device.scripts (endpoint_id ep))) })
    else None

-- what becomes of a device that takes answers, and of the device with these answers
abbrev DeviceGoesOn : ℕ → List Response → Option DeviceSetup → Option DeviceSetup → Type 0
DeviceGoesOn ep more None with_more = with_more ≡ None
DeviceGoesOn ep more (Some y) with_more = (with_more ≡ Some (fed (endpoint_id ep) more y)) × (may_be_fed ep more y ≡ true)

-- another endpoint's script may be changed before or behind
other_script : (test : Option (List Response) → Bool) (make : Option (List Response) → List Response) (ep e : ℕ) (more : List Response) (device : DeviceSetup)
    → ¬ (endpoint_id ep ≡ endpoint_id e) → may_be_fed ep more device ≡ true
    → DeviceGoesOn ep more (changed_by test make e device) (changed_by test make e (fed (endpoint_id ep) more device))
other_script test make ep e more device apart may = by_test (takes_script device.config e && test (slice_get device.scripts (endpoint_id e))) refl
  where
    here : slice_get (slice_set device.scripts (endpoint_id ep) (script_at (endpoint_id ep) device.scripts ++ more)) (endpoint_id e) ≡ slice_get device.scripts (endpoint_id e)
    here = found_elsewhere device.scripts (endpoint_id ep) (endpoint_id e) (script_at (endpoint_id ep) device.scripts ++ more) apart

    by_test : (b : Bool) → (takes_script device.config e && test (slice_get device.scripts (endpoint_id e))) ≡ b → DeviceGoesOn ep more
        (if b then Some (record device { scripts = slice_set device.scripts (endpoint_id e) (make (slice_get device.scripts (endpoint_id e))) }) else None)
        (changed_by test make e (fed (endpoint_id ep) more device))
    by_test false is = rw (here, is) refl
    by_test true is =
        let new : List Response = make (slice_get device.scripts (endpoint_id e)) in
        let there : slice_get (slice_set device.scripts (endpoint_id e) new) (endpoint_id ep) ≡ slice_get device.scripts (endpoint_id ep) =
        found_elsewhere device.scripts (endpoint_id e) (endpoint_id ep) new (λ same. apart (sym same)) in (
          rw (here, is, there) (ap (λ scripts. Some (record device { scripts = scripts })) (put_both device.scripts (endpoint_id ep) (endpoint_id e) (script_at (endpoint_id ep) device.scripts ++ more) new apart)),
          rw there may,
        )

-- what becomes of a scenario that takes answers, and of the scenario with these answers
abbrev GoesOn : ℕ → ℕ → List Response → Option Scenario → Option Scenario → Type 0
GoesOn dev ep more None with_more = with_more ≡ None
GoesOn dev ep more (Some u) with_more = (t : IsTaken dev ep more u) × (with_more ≡ Some (fed_at dev ep more t.device u))

-- a change of the device that takes answers
same_device : (dev ep : ℕ) (more : List Response) (s : Scenario) (t : IsTaken dev ep more s) (change : DeviceSetup → Option DeviceSetup)
    → DeviceGoesOn ep more (change t.device) (change (fed (endpoint_id ep) more t.device))
    → GoesOn dev ep more (with_device change dev s) (with_device change dev (fed_at dev ep more t.device s))
same_device dev ep more s t change goes = rw (t.found, put) (by_change (change t.device) (change (fed (endpoint_id ep) more t.device)) goes)
  where
    put : slice_get (slice_set s.setup dev (fed (endpoint_id ep) more t.device)) dev ≡ Some (fed (endpoint_id ep) more t.device)
    put = found_put s.setup dev t.device (fed (endpoint_id ep) more t.device) t.found

    by_change : (o with_more : Option DeviceSetup) → DeviceGoesOn ep more o with_more
        → GoesOn dev ep more (option_map (λ changed. record s { setup = slice_set s.setup dev changed }) o)
        (option_map (λ changed. record s { setup = slice_set (slice_set s.setup dev (fed (endpoint_id ep) more t.device)) dev changed }) with_more)
    by_change None with_more goes = rw goes refl
    by_change (Some y) with_more goes = (
      record { device = y; found = found_put s.setup dev t.device y t.found; may = goes.1 },
      rw goes.0 (ap (λ setup. Some (record s { setup = setup }))
          (put_twice s.setup dev (fed (endpoint_id ep) more t.device) (fed (endpoint_id ep) more y) ∙ sym (put_twice s.setup dev y (fed (endpoint_id ep) more y)))),
    )

-- a change of another device
other_device : (dev ep d : ℕ) (more : List Response) (s : Scenario) (t : IsTaken dev ep more s) (change : DeviceSetup → Option DeviceSetup)
    → ¬ (dev ≡ d)
    → GoesOn dev ep more (with_device change d s) (with_device change d (fed_at dev ep more t.device s))
other_device dev ep d more s t change apart =
    rw (found_elsewhere s.setup dev d (fed (endpoint_id ep) more t.device) apart) (by_device (slice_get s.setup d))
  where
    by_change : (o : Option DeviceSetup)
        → GoesOn dev ep more (option_map (λ changed. record s { setup = slice_set s.setup d changed }) o)
        (option_map (λ changed. record s { setup = slice_set (slice_set s.setup dev (fed (endpoint_id ep) more t.device)) d changed }) o)
    by_change None = refl
    by_change (Some y) = (
      record { device = t.device; found = found_elsewhere s.setup d dev y (λ same. apart (sym same)) ∙ t.found; may = t.may },
      ap (λ setup. Some (record s { setup = setup })) (put_both s.setup dev d (fed (endpoint_id ep) more t.device) y apart),
    )

    by_device : (o : Option DeviceSetup)
        → GoesOn dev ep more (option_and_then (λ device. option_map (λ changed. record s { setup = slice_set s.setup d changed }) (change device)) o)
        (option_and_then (λ device. option_map (λ changed. record s { setup = slice_set (slice_set s.setup dev (fed (endpoint_id ep) more t.device)) d changed }) (change device)) o)
    by_device None = refl
    by_device (Some device) = by_change (change device)

-- a script or answers that aren't of this endpoint
script_goes_on : (test : Option (List Response) → Bool) (make : Option (List Response) → List Response) (dev ep d e : ℕ) (more : List Response) (s : Scenario) (t : IsTaken dev ep more s)
    → ((d == dev) && (endpoint_id e == endpoint_id ep)) ≡ false
    → GoesOn dev ep more (with_device (changed_by test make e) d s) (with_device (changed_by test make e) d (fed_at dev ep more t.device s))
script_goes_on test make dev ep d e more s t other = by_test (d == dev) refl other
  where
    by_test : (b : Bool) → (d == dev) ≡ b → (b && (endpoint_id e == endpoint_id ep)) ≡ false
        → GoesOn dev ep more (with_device (changed_by test make e) d s) (with_device (changed_by test make e) d (fed_at dev ep more t.device s))
    by_test false is other = other_device dev ep d more s t (changed_by test make e) (λ same. eqb-false d dev is (sym same))
    by_test true is other =
        subst (λ n. GoesOn dev ep more (with_device (changed_by test make e) n s) (with_device (changed_by test make e) n (fed_at dev ep more t.device s))) (sym (eqb-true d dev is))
        (same_device dev ep more s t (changed_by test make e) (other_script test make ep e more t.device (λ same. eqb-false (endpoint_id e) (endpoint_id ep) other (sym same)) t.may))

-- under the same test both go on
goes_on_under : (dev ep : ℕ) (more : List Response) (b : Bool) (o with_more : Option Scenario) → GoesOn dev ep more o with_more
    → GoesOn dev ep more (if b then o else None) (if b then with_more else None)
goes_on_under dev ep more true o with_more goes = goes
goes_on_under dev ep more false o with_more goes = refl

-- what one more line says may be said before or behind answers of an endpoint that it leaves alone
line_goes_on : (dev ep : ℕ) (more : List Response) (s : Scenario) (t : IsTaken dev ep more s) (l : Line) → has_answers_of dev (endpoint_id ep) l ≡ false
    → GoesOn dev ep more (with_line s l) (with_line (fed_at dev ep more t.device s) l)
line_goes_on dev ep more s t (line.Device number config) alone =
    rw (length-set s.setup dev (fed (endpoint_id ep) more t.device)) (by_test ((length s.plan == 0) && (number == length s.setup)))
  where
    by_test : (b : Bool) → GoesOn dev ep more (if b then Some (record s { setup = s.setup ++ new_device config ∷ [] }) else None)
        (if b then Some (record s { setup = slice_set s.setup dev (fed (endpoint_id ep) more t.device) ++ new_device config ∷ [] }) else None)
    by_test false = refl
    by_test true = (
      record { device = t.device; found = found_behind s.setup (new_device config ∷ []) dev t.device t.found; may = t.may },
      ap (λ setup. Some (record s { setup = setup })) (sym (put_behind s.setup (new_device config ∷ []) dev t.device (fed (endpoint_id ep) more t.device) t.found)),
    )
line_goes_on dev ep more s t (line.Script d e answers) alone =
    goes_on_under dev ep more (length s.plan == 0) (with_device (device_with e answers) d s) (with_device (device_with e answers) d (fed_at dev ep more t.device s))
    (script_goes_on is_empty_script (λ script. answers) dev ep d e more s t alone)
line_goes_on dev ep more s t (line.Feed d e answers) alone = script_goes_on (fits_behind (length answers)) (λ script. unwrap_or script [] ++ answers) dev ep d e more s t alone
line_goes_on dev ep more s t (line.Submit h request rule) alone = (record { device = t.device; found = t.found; may = t.may }, refl)
line_goes_on dev ep more s t (line.Piece piece) alone = (record { device = t.device; found = t.found; may = t.may }, refl)

-- so may one more line of text
text_goes_on : (dev ep : ℕ) (more : List Response) (s : Scenario) (t : IsTaken dev ep more s) (text : List ℕ) → LeavesAlone dev ep text
    → GoesOn dev ep more (with_text s text) (with_text (fed_at dev ep more t.device s) text)
text_goes_on dev ep more s t text alone = by_test (says_nothing text)
  where
    by_line : (o : Option Line) → IfSome o (λ l. has_answers_of dev (endpoint_id ep) l ≡ false)
        → GoesOn dev ep more (option_and_then (with_line s) o) (option_and_then (with_line (fed_at dev ep more t.device s)) o)
    by_line None alone = refl
    by_line (Some l) alone = line_goes_on dev ep more s t l alone

    by_test : (b : Bool) → GoesOn dev ep more (if b then Some s else option_and_then (with_line s) (line_of_text text))
        (if b then Some (fed_at dev ep more t.device s) else option_and_then (with_line (fed_at dev ep more t.device s)) (line_of_text text))
    by_test true = (t, refl)
    by_test false = by_line (line_of_text text) alone

-- a line that says something
said : (s : Scenario) (text : List ℕ) (l : Line) → Says text l → with_text s text ≡ with_line s l
said s text l says = rw (says.0, says.1) refl

-- answers that stand behind some lines may stand before them
fed_before : (dev ep : ℕ) (more : List Response) (feed : List ℕ) (after : List (List ℕ)) → Says feed (line.Feed dev ep more)
    → (at : ℕ) (s : Scenario) (t : IsTaken dev ep more s) (between : List (List ℕ)) → AllByRecursion (LeavesAlone dev ep) between
    → scenario_from at s (between ++ feed ∷ after) ≡ scenario_from at (fed_at dev ep more t.device s) (between ++ [] ∷ after)
unfolding scenario_from
fed_before dev ep more feed after says at s t [] alone =
    ap (taken_at at (λ u. scenario_from (at + 1) u after)) (said s feed (line.Feed dev ep more) says ∙ taken dev ep more s t)
fed_before dev ep more feed after says at s t (text ∷ between) alone =
    by_line (with_text s text) (with_text (fed_at dev ep more t.device s) text) (text_goes_on dev ep more s t text alone.0)
    (λ u v. fed_before dev ep more feed after says (at + 1) u v between alone.1)
  where
    by_line : (o with_more : Option Scenario) → GoesOn dev ep more o with_more
        → ((u : Scenario) (v : IsTaken dev ep more u) → scenario_from (at + 1) u (between ++ feed ∷ after) ≡ scenario_from (at + 1) (fed_at dev ep more v.device u) (between ++ [] ∷ after))
        → taken_at at (λ u. scenario_from (at + 1) u (between ++ feed ∷ after)) o ≡ taken_at at (λ u. scenario_from (at + 1) u (between ++ [] ∷ after)) with_more
    by_line None with_more goes further = sym (ap (taken_at at (λ u. scenario_from (at + 1) u (between ++ [] ∷ after))) goes)
    by_line (Some u) with_more goes further = further u goes.0 ∙ sym (ap (taken_at at (λ u. scenario_from (at + 1) u (between ++ [] ∷ after))) goes.1)

-- behind the same lines, lines that say the same say the same
behind_lines : (one other : List (List ℕ)) → ((at : ℕ) (s : Scenario) → scenario_from at s one ≡ scenario_from at s other)
    → (at : ℕ) (s : Scenario) (before : List (List ℕ)) → scenario_from at s (before ++ one) ≡ scenario_from at s (before ++ other)
unfolding scenario_from
behind_lines one other same at s [] = same at s
behind_lines one other same at s (text ∷ before) = by_line (with_text s text) (λ t. behind_lines one other same (at + 1) t before)
  where
    by_line : (o : Option Scenario) → ((t : Scenario) → scenario_from (at + 1) t (before ++ one) ≡ scenario_from (at + 1) t (before ++ other))
        → taken_at at (λ t. scenario_from (at + 1) t (before ++ one)) o ≡ taken_at at (λ t. scenario_from (at + 1) t (before ++ other)) o
    by_line None further = refl
    by_line (Some t) further = further t

-- where a script is put, answers may be put behind it, if both are within the limit, and then it is the script of all
script_then_more : (dev ep : ℕ) (known later : List Response) (s : Scenario) → length (known ++ later) ≤ longest_script
    → GoesOn dev ep later (with_line s (line.Script dev ep known)) (with_line s (line.Script dev ep (known ++ later)))
script_then_more dev ep known later s within =
    goes_on_under dev ep later (length s.plan == 0) (with_device (device_with ep known) dev s) (with_device (device_with ep (known ++ later)) dev s)
    (by_device (slice_get s.setup dev) refl)
  where
    fits : nat_le (length known + length later) longest_script ≡ true
    fits = le-leb (length known + length later) longest_script (omega (arith, length-append known later, within))

    room : (scripts : List (List Response)) (id : ℕ) → is_free id scripts ≡ true → slice_get (slice_set scripts id known) id ≡ Some known
    room scripts id free = by_script (slice_get scripts id) refl free
      where
        by_script : (o : Option (List Response)) → slice_get scripts id ≡ o → is_empty_script o ≡ true → slice_get (slice_set scripts id known) id ≡ Some known
        by_script None is free = cc
        by_script (Some script) is free = found_put scripts id script known is

    by_test : (device : DeviceSetup) → slice_get s.setup dev ≡ Some device → (takes free : Bool) → takes_script device.config ep ≡ takes → is_free (endpoint_id ep) device.scripts ≡ free
        → GoesOn dev ep later
        (option_map (λ changed. record s { setup = slice_set s.setup dev changed }) (if takes && free then Some (record device { scripts = slice_set device.scripts (endpoint_id ep) known }) else None))
        (option_map (λ changed. record s { setup = slice_set s.setup dev changed }) (if takes && free then Some (record device { scripts = slice_set device.scripts (endpoint_id ep) (known ++ later) }) else None))
    by_test device found false free t f = refl
    by_test device found true false t f = refl
    by_test device found true true t f =
        let begun : DeviceSetup = record device { scripts = slice_set device.scripts (endpoint_id ep) known } in
        let there : slice_get (slice_set device.scripts (endpoint_id ep) known) (endpoint_id ep) ≡ Some known = room device.scripts (endpoint_id ep) f in
        let whole : slice_set (slice_set device.scripts (endpoint_id ep) known) (endpoint_id ep) (known ++ later) ≡ slice_set device.scripts (endpoint_id ep) (known ++ later) =
        put_twice device.scripts (endpoint_id ep) known (known ++ later) in (
          record { device = begun; found = found_put s.setup dev device begun found; may = rw (t, there, fits) refl },
          rw (there, whole) (ap (λ setup. Some (record s { setup = setup })) (sym (put_twice s.setup dev begun (record device { scripts = slice_set device.scripts (endpoint_id ep) (known ++ later) })))),
        )

    by_device : (o : Option DeviceSetup) → slice_get s.setup dev ≡ o → GoesOn dev ep later
        (option_and_then (λ device. option_map (λ changed. record s { setup = slice_set s.setup dev changed }) (device_with ep known device)) o)
        (option_and_then (λ device. option_map (λ changed. record s { setup = slice_set s.setup dev changed }) (device_with ep (known ++ later) device)) o)
    by_device None is = refl
    by_device (Some device) is = by_test device is (takes_script device.config ep) (is_free (endpoint_id ep) device.scripts) refl refl

-- a script that a line says is within the limit
script_within : (text : List ℕ) (dev ep : ℕ) (answers : List Response) → Says text (line.Script dev ep answers) → length answers ≤ longest_script
script_within text dev ep answers says = (subst (λ o. IfSome o SaysFit) says.1 (text_fits text)).0

-- the lines behind two that go on alike
lines_go_on : (dev ep : ℕ) (more : List Response) (feed : List ℕ) (between after : List (List ℕ)) → Says feed (line.Feed dev ep more) → AllByRecursion (LeavesAlone dev ep) between
    → (at : ℕ) (o with_more : Option Scenario) → GoesOn dev ep more o with_more
    → taken_at at (λ u. scenario_from (at + 1) u (between ++ feed ∷ after)) o ≡ taken_at at (λ u. scenario_from (at + 1) u (between ++ [] ∷ after)) with_more
lines_go_on dev ep more feed between after says alone at None with_more goes = sym (ap (taken_at at (λ u. scenario_from (at + 1) u (between ++ [] ∷ after))) goes)
lines_go_on dev ep more feed between after says alone at (Some u) with_more goes =
    fed_before dev ep more feed after says (at + 1) u goes.0 between alone ∙ sym (ap (taken_at at (λ u. scenario_from (at + 1) u (between ++ [] ∷ after))) goes.1)

-- answers behind a script line
pub fed_later : (text other : List ℕ) → IsFedLater text other → scenario_of text ≡ scenario_of other
unfolding scenario_from
fed_later text other f =
    let one : List (List ℕ) = f.script ∷ (f.between ++ f.feed ∷ f.after) in
    let two : List (List ℕ) = f.whole ∷ (f.between ++ [] ∷ f.after) in
    ap (scenario_from 1 nothing_said) f.lines ∙ (behind_lines one two same 1 nothing_said f.before ∙ sym (ap (scenario_from 1 nothing_said) f.others))
  where
    same : (at : ℕ) (s : Scenario) → scenario_from at s (f.script ∷ (f.between ++ f.feed ∷ f.after)) ≡ scenario_from at s (f.whole ∷ (f.between ++ [] ∷ f.after))
    same at s =
        rw (said s f.script (line.Script f.dev f.ep f.known) f.says_script, said s f.whole (line.Script f.dev f.ep (f.known ++ f.later)) f.says_whole)
        (lines_go_on f.dev f.ep f.later f.feed f.between f.after f.says_feed f.alone at (with_line s (line.Script f.dev f.ep f.known)) (with_line s (line.Script f.dev f.ep (f.known ++ f.later)))
        (script_then_more f.dev f.ep f.known f.later s (script_within f.whole f.dev f.ep (f.known ++ f.later) f.says_whole)))

-- what stands behind a list is found there
found_last : {A : Type 0} (xs : List A) (x : A) → slice_get (xs ++ x ∷ []) (length xs) ≡ Some x
found_last [] x = refl
found_last (y ∷ xs) x = found_last xs x

-- each script of a new device is empty
found_empty : (n i : ℕ) → i < n → slice_get (empty_scripts n) i ≡ Some []
unfolding empty_scripts
found_empty zero i low = absurd (omega (arith, low))
found_empty (suc n) i low = by_place (nat_lt i n) refl (found_empty n i)
  where
    by_place : (b : Bool) → nat_lt i n ≡ b → (i < n → slice_get (empty_scripts n) i ≡ Some []) → slice_get (empty_scripts n ++ [] ∷ []) i ≡ Some []
    by_place true is further = found_behind (empty_scripts n) ([] ∷ []) i [] (further (ltb-true i n is))
    by_place false is further =
        let last : length (empty_scripts n) ≡ i = long_empty n ∙ omega (arith, low, ltb-false i n is) in
        subst (λ k. slice_get (empty_scripts n ++ [] ∷ []) k ≡ Some []) last (found_last (empty_scripts n) [])

-- an id of an endpoint
id_within : (ep : ℕ) → endpoint_id ep < endpoint_ids
id_within ep = grind arith

-- the first answers of a device that stands last are its script
new_then_more : (config : Configuration) (ep : ℕ) (answers : List Response) (s : Scenario) → takes_script config ep ≡ true → length answers ≤ longest_script → (length s.plan == 0) ≡ true
    → let u : Scenario = record s { setup = s.setup ++ new_device config ∷ [] } in GoesOn (length s.setup) ep answers (Some u) (with_line u (line.Script (length s.setup) ep answers))
new_then_more config ep answers s takes within none =
    let found : slice_get (s.setup ++ new_device config ∷ []) (length s.setup) ≡ Some (new_device config) = found_last s.setup (new_device config) in
    let empty : slice_get (empty_scripts endpoint_ids) (endpoint_id ep) ≡ Some [] = found_empty endpoint_ids (endpoint_id ep) (id_within ep) in
    let fits : nat_le (0 + length answers) longest_script ≡ true = le-leb (0 + length answers) longest_script (omega (arith, within)) in
    (record { device = new_device config; found = found; may = rw (takes, empty, fits) refl }, rw (none, found, takes, empty) refl)

-- answers of an endpoint without a script line
pub fed_alone : (text other : List ℕ) → IsFedAlone text other → scenario_of text ≡ scenario_of other
unfolding scenario_from
fed_alone text other f =
    let one : List (List ℕ) = f.device ∷ ([] ∷ (f.between ++ f.feed ∷ f.after)) in
    let two : List (List ℕ) = f.device ∷ (f.script ∷ (f.between ++ [] ∷ f.after)) in
    ap (scenario_from 1 nothing_said) f.lines ∙ (behind_lines one two same 1 nothing_said f.before ∙ sym (ap (scenario_from 1 nothing_said) f.others))
  where
    behind_device : (at : ℕ) (s : Scenario) (b : Bool) → ((length s.plan == 0) && (f.dev == length s.setup)) ≡ b
        → taken_at at (λ u. scenario_from (at + 1) u ([] ∷ (f.between ++ f.feed ∷ f.after))) (if b then Some (record s { setup = s.setup ++ new_device f.config ∷ [] }) else None)
        ≡ taken_at at (λ u. scenario_from (at + 1) u (f.script ∷ (f.between ++ [] ∷ f.after))) (if b then Some (record s { setup = s.setup ++ new_device f.config ∷ [] }) else None)
    behind_device at s false is = refl
    behind_device at s true is =
        let parts = and_parts (length s.plan == 0) (f.dev == length s.setup) is in
        let u : Scenario = record s { setup = s.setup ++ new_device f.config ∷ [] } in
        let next : length s.setup ≡ f.dev = sym (eqb-true f.dev (length s.setup) parts.1) in
        let goes : GoesOn f.dev f.ep f.answers (Some u) (with_line u (line.Script f.dev f.ep f.answers)) =
        subst (λ n. GoesOn n f.ep f.answers (Some u) (with_line u (line.Script n f.ep f.answers))) next (new_then_more f.config f.ep f.answers s f.takes (script_within f.script f.dev f.ep f.answers f.says_script) parts.0) in
        rw (said u f.script (line.Script f.dev f.ep f.answers) f.says_script)
        (lines_go_on f.dev f.ep f.answers f.feed f.between f.after f.says_feed f.alone (at + 1) (Some u) (with_line u (line.Script f.dev f.ep f.answers)) goes)

    same : (at : ℕ) (s : Scenario) → scenario_from at s (f.device ∷ ([] ∷ (f.between ++ f.feed ∷ f.after))) ≡ scenario_from at s (f.device ∷ (f.script ∷ (f.between ++ [] ∷ f.after)))
    same at s = rw (said s f.device (line.Device f.dev f.config) f.says_device) (behind_device at s ((length s.plan == 0) && (f.dev == length s.setup)) refl)
