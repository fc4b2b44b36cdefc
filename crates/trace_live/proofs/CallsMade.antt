-- Of a run in which each handle made its lines: the calls of a plan stand in it, and beside them what the workers made.
use Rattle.std.proofs.Common.{◌≡◌, ◌<◌, ◌+◌, ◌==◌, ◌&&◌, ℕ, suc, Bool, true, false, true≢false, not, inl, List, [], ◌∷◌, ◌++◌, length, map, filter, get_or, cond, Option, Some, None, refl, sym, ap, ◌∙◌, subst, arith}
use Rattle.std.specs.Prelude.{All}
use Rattle.std.specs.List.{list_all}
use Rattle.std.specs.Option.{option_map_or}
use Rattle.std.proofs.lemmas.Bool.{eqb-true}
use Rattle.std.proofs.lemmas.List.{length-map, nil_from_length}
use Rattle.usb_model.specs.declared.plan.Plan.{Plan}
use Rattle.usb_model.specs.declared.reply.Returned.{Returned}
use Rattle.usb_model.specs.declared.step.Step.{Step}
use Rattle.usb_model.specs.declared.step.Step.TheVariants as step
use Rattle.usb_model.specs.declared.verdict.Verdict.{Verdict}
use Rattle.usb_model.specs.Setup.{Setup}
use Rattle.usb_recorder.specs.declared.place.Place.{Place}
use Rattle.usb_journal.specs.Booked.{steps_of}
use Rattle.usb_journal.specs.Seen.{caller_of}
use Rattle.usb_library.specs.Calls.{Calling, Knows, ShowsEvents, ShowsPending}
use Rattle.usb_workers.specs.Rounds.{Controls, Handles}
use Rattle.usb_workers.specs.Life.{Drives, Each, LivedBy, Returns}
use Rattle.trace_threads.specs.Calls.{HasCalls, calls_by, handle_of, is_call_of, is_lived, steps_in}
use Rattle.trace_live.specs.Lines.{ArePlanned, has_steps}
use Rattle.trace_live.proofs.Parts.{Covers, Empty, Lone, joined, joined-empty}
use Rattle.trace_live.proofs.Shares.{Owns, all_passing, empty_dealt, empty_had, joined_dealt, joined_had, lone_dealt, lone_empty, lone_had, passing, second_has}
use Rattle.trace_live.proofs.Workers.{Passes_no_work, Passes_none, controls, handles, is_answer, rounds}

-- a step is one handle's call at most
apart : (g h : ℕ) (s : Step) → is_call_of g s ≡ true → is_call_of h s ≡ true → g ≡ h
apart g h s of_g of_h = by_handle (handle_of s) of_g of_h
  where
    by_handle : (o : Option ℕ) → option_map_or (λ x. x == g) o false ≡ true → option_map_or (λ x. x == h) o false ≡ true → g ≡ h
    by_handle None a b = absurd (true≢false (sym a))
    by_handle (Some x) a b = sym (eqb-true x g a) ∙ eqb-true x h b

-- no worker makes one, nor what nobody makes here
calls_silent : (h : ℕ) → Passes_none (is_call_of h)
calls_silent h = record { work = record { serve = λ dev ep. refl; command = refl }; deliver = refl; take = refl; answer = λ g n v. refl }

abbrev unlived : Step → Bool
unlived s = not (is_lived s)

unlived_silent : Passes_none unlived
unlived_silent = record { work = record { serve = λ dev ep. refl; command = refl }; deliver = refl; take = refl; answer = λ g n v. refl }

-- a handle's call is no such thing
call_lives : (h : ℕ) (s : Step) → is_call_of h s ≡ true → unlived s ≡ false
call_lives h (step.Expire g n) e = absurd (true≢false (sym e))
call_lives h (step.Unplug dev) e = absurd (true≢false (sym e))
call_lives h (step.Open g dev) e = refl
call_lives h (step.Close g) e = refl
call_lives h (step.Claim g i) e = refl
call_lives h (step.Release g i) e = refl
call_lives h (step.Reset g) e = refl
call_lives h (step.ClearHalt g ep) e = refl
call_lives h (step.Submit g request) e = refl
call_lives h (step.Cancel g n) e = refl
call_lives h (step.Serve dev ep) e = refl
call_lives h step.Command e = refl
call_lives h step.Deliver e = refl
call_lives h step.Take e = refl
call_lives h (step.Answer g n v) e = refl

-- nor is it a verdict
call_tells_none : (h : ℕ) (s : Step) → is_call_of h s ≡ true → is_answer s ≡ false
call_tells_none h (step.Answer g n v) e = absurd (true≢false (sym e))
call_tells_none h (step.Expire g n) e = refl
call_tells_none h (step.Unplug dev) e = refl
call_tells_none h (step.Open g dev) e = refl
call_tells_none h (step.Close g) e = refl
call_tells_none h (step.Claim g i) e = refl
call_tells_none h (step.Release g i) e = refl
call_tells_none h (step.Reset g) e = refl
call_tells_none h (step.ClearHalt g ep) e = refl
call_tells_none h (step.Submit g request) e = refl
call_tells_none h (step.Cancel g n) e = refl
call_tells_none h (step.Serve dev ep) e = refl
call_tells_none h step.Command e = refl
call_tells_none h step.Deliver e = refl
call_tells_none h step.Take e = refl

work_tells_none : Passes_no_work is_answer
work_tells_none = record { serve = λ dev ep. refl; command = refl }

all_live : (steps : List Step) → filter unlived steps ≡ [] → list_all is_lived steps ≡ true
all_live [] e = refl
all_live (s ∷ steps) e = by_life (is_lived s) e (all_live steps)
  where
    some_there : {A : Type 0} {y : A} {ys : List A} → ¬ (y ∷ ys ≡ [])
    some_there e = true≢false (ap has_one e)
      where
        has_one : {A : Type 0} → List A → Bool
        has_one [] = false
        has_one (y ∷ ys) = true

    by_life : (b : Bool) → cond (not b) (s ∷ filter unlived steps) (filter unlived steps) ≡ [] → (filter unlived steps ≡ [] → list_all is_lived steps ≡ true) → (b && list_all is_lived steps) ≡ true
    by_life true e further = further e
    by_life false e further = absurd (some_there e)

only_empty : (l : List Step) → has_steps l ≡ false → l ≡ []
only_empty l e = nil_from_length l (eqb-true (length l) 0 (was_true (length l == 0) e))
  where
    was_true : (b : Bool) → not b ≡ false → b ≡ true
    was_true true e = refl
    was_true false e = absurd (true≢false e)

-- what is said of each of the callers
owns : (journal : List Place) (cs : List Calling) → All (Knows journal) cs → Owns caller_of (λ c. c.number) (λ c. c.own) (λ (p : Place). p.step) journal cs
owns journal [] knows = tt
owns journal (c ∷ cs) knows = ((knows 0 c (omega arith)).own, owns journal cs (λ k d lt. knows (suc k) d (omega (arith, lt))))

-- which of a caller's steps pass
abbrev passes_of : (Step → Bool) → Calling → List Step
passes_of test c = passing caller_of (λ (x : Calling). x.number) (λ (x : Calling). x.own) (λ (p : Place). p.step) test c

-- each driver made its lines
module _ {X : Type 0} (ended : X → Type 0) (makes : List Step → Setup → Calling → Calling → X → Type 0)
    (all_made : (lines : List Step) (setup : Setup) (old new : Calling) (left : X) → makes lines setup old new left → ended left → steps_of new.own ≡ steps_of old.own ++ lines) (setup : Setup) where
  homes_made : (test : Step → Bool) (drivers : List (List Step)) (homes : List (Returns X)) → Each (Drives makes setup) drivers homes → ((k : ℕ) (x : X) → k < length homes → ended (get_or (map (λ (h : Returns X). h.left) homes) k x))
      → map (passes_of test) (map (λ (h : Returns X). h.caller) homes) ≡ map (filter test) drivers
  unfolding Each
  homes_made test [] [] drives ends = refl
  homes_made test (d ∷ ds) (h ∷ hs) drives ends =
      let first = drives.0.0 in
      let made = all_made d setup first h.caller h.left drives.0.2 (ends 0 h.left (omega arith)) in
      ap (λ l. filter test l ∷ map (passes_of test) (map (λ (h : Returns X). h.caller) hs)) (made ∙ ap (λ l. steps_of l ++ d) drives.0.1)
      ∙ ap (λ l. filter test d ∷ l) (homes_made test ds hs drives.1 (λ k x lt. ends (suc k) x (omega (arith, lt))))
  homes_made test [] (h ∷ hs) drives ends = absurd drives
  homes_made test (d ∷ ds) [] drives ends = absurd drives

  module _ (may : Calling → Returned → Verdict → Type 0) (journal : List Place) (drivers : List (List Step)) (left : List X) (lacked : Bool) (lived : LivedBy may makes setup journal drivers left lacked) (ends : All ended left) where
    abbrev callers : List Calling
    callers = lived.controller ∷ lived.events ∷ map (λ (h : Returns X). h.caller) lived.homes

    homes_end : (k : ℕ) (x : X) → k < length lived.homes → ended (get_or (map (λ (h : Returns X). h.left) lived.homes) k x)
    homes_end k x lt = subst (λ l. ended (get_or l k x)) lived.leaves (ends k x (subst (λ n. k < n) (sym (ap length lived.leaves ∙ length-map lived.homes (λ (h : Returns X). h.left))) lt))

    quiet_controller : (test : Step → Bool) → Passes_no_work test → passes_of test lived.controller ≡ []
    quiet_controller test silent =
        rounds setup test (ShowsPending setup) (Controls setup) (controls setup test silent) lived.controls.0 lived.controller lived.controls.2.rounds (ap (λ l. filter test (steps_of l)) lived.controls.1)

    quiet_events : (test : Step → Bool) → Passes_none test → passes_of test lived.events ≡ []
    quiet_events test silent =
        rounds setup test (ShowsEvents setup) (Handles setup may) (handles setup test silent may) lived.handles.0 lived.events lived.handles.2.rounds (ap (λ l. filter test (steps_of l)) lived.handles.1)

    -- what passes in the run is what passes of the lines, where one handle at most has some
    passes_in : (test : Step → Bool) → Passes_none test → Lone (map (filter test) drivers) → filter test (steps_of journal) ≡ joined (map (filter test) drivers)
    passes_in test silent few =
        let c = quiet_controller test silent.work in
        let e = quiet_events test silent in
        let h = homes_made test drivers lived.homes lived.drives homes_end in
        all_passing caller_of (λ (x : Calling). x.number) (λ (x : Calling). x.own) (λ (p : Place). p.step) test journal callers (owns journal callers lived.all.knows) lived.all.numbers lived.all.counted
        (inl (c, inl (e, subst Lone (sym h) few)))
        ∙ (ap (λ l. l ++ joined (map (passes_of test) (lived.events ∷ map (λ (h : Returns X). h.caller) lived.homes))) c
        ∙ (ap (λ l. l ++ joined (map (passes_of test) (map (λ (h : Returns X). h.caller) lived.homes))) e ∙ ap joined h))

    -- and a verdict is told by nobody but the worker that handles events
    pub answers_are : (plan : List Plan) → ArePlanned drivers plan → Covers caller_of (λ (p : Place). is_answer p.step) (λ p. caller_of p == lived.events.number) journal
    answers_are plan planned =
        let all = planned.0 in
        let each : (i : ℕ) → i < length all → get_or all i [] ≡ calls_by (0 + i) (steps_in plan) = λ i lt. planned.1.each i (subst (λ n. i < n) planned.1.all lt) ∙ ap (λ n. calls_by n (steps_in plan)) (let at : i ≡ 0 + i = omega arith in at) in
        let none = empty_had is_answer has_steps only_empty all (empty_dealt is_call_of apart is_answer call_tells_none (steps_in plan) 0 all each) in
        second_has caller_of (λ (x : Calling). x.number) (λ (x : Calling). x.own) (λ (p : Place). p.step) is_answer journal lived.controller lived.events (map (λ (h : Returns X). h.caller) lived.homes)
        (owns journal callers lived.all.knows) lived.all.numbers lived.all.counted
        (quiet_controller is_answer work_tells_none, subst Empty (sym (homes_made is_answer drivers lived.homes lived.drives homes_end)) (subst (λ ds. Empty (map (filter is_answer) ds)) (sym planned.2) none))

    -- so the calls of the plan are those of the run
    pub has_calls : (plan : List Plan) → ArePlanned drivers plan → HasCalls plan (steps_of journal)
    has_calls plan planned =
        let all = planned.0 in
        let dealt = planned.1 in
        let each : (i : ℕ) → i < length all → get_or all i [] ≡ calls_by (0 + i) (steps_in plan) = λ i lt. dealt.each i (subst (λ n. i < n) dealt.all lt) ∙ ap (λ n. calls_by n (steps_in plan)) (let at : i ≡ 0 + i = omega arith in at) in record {
          calls = λ h lt.
              passes_in (is_call_of h) (calls_silent h) (subst (λ ds. Lone (map (filter (is_call_of h)) ds)) (sym planned.2) (lone_had (is_call_of h) has_steps only_empty all (lone_dealt is_call_of apart h (steps_in plan) 0 all each)))
              ∙ (ap (λ ds. joined (map (filter (is_call_of h)) ds)) planned.2
              ∙ (joined_had (is_call_of h) has_steps only_empty all ∙ joined_dealt is_call_of apart h (steps_in plan) 0 all (omega arith) (subst (λ n. h < 0 + n) (sym dealt.all) lt) each));
          others =
              let none = empty_had unlived has_steps only_empty all (empty_dealt is_call_of apart unlived call_lives (steps_in plan) 0 all each) in
              all_live (steps_of journal)
              (passes_in unlived unlived_silent (subst (λ ds. Lone (map (filter unlived) ds)) (sym planned.2) (lone_empty unlived has_steps only_empty (map (filter unlived) (filter has_steps all)) none))
              ∙ (ap (λ ds. joined (map (filter unlived) ds)) planned.2 ∙ joined-empty (map (filter unlived) (filter has_steps all)) none));
        }
