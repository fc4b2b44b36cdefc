-- An answer waits for what had been taken when it came, and for no more.
use Rattle.std.proofs.Common.{◌≡◌, ℕ, ◌+◌, ◌-◌, ◌^◌, ◌<◌, ◌≤◌, ◌==◌, Bool, true, false, List, [], ◌∷◌, ◌++◌, Option, Some, None, length, min, refl, ap, sym, ◌∙◌, subst, arith}
use Rattle.std.specs.Prelude.{nat_lt, nat_le, not, ◌&&◌, ◌||◌, cond, take, if◌then◌else◌}
use Rattle.std.specs.List.{AllByRecursion, filter}
use Rattle.std.specs.Option.{unwrap_or}
use Rattle.std.proofs.lemmas.Bool.{eqb-true, ltb-false}
use Rattle.usb_model.specs.declared.setup.EndpointInfo.{EndpointInfo}
use Rattle.usb_model.specs.Limits.{longest_script}
use Rattle.usb_model.specs.Setup.{is_in}
use Rattle.trace_recorded.specs.declared.endpoint.RecordedEndpoint.{RecordedEndpoint}
use Rattle.trace_recorded.specs.declared.event.RecordedEvent.{RecordedEvent}
use Rattle.trace_recorded.specs.declared.event.RecordedType.{RecordedType}
use Rattle.trace_recorded.specs.declared.event.RecordedType.TheVariants.{Submission, Callback, SubmissionError}
use Rattle.trace_recorded.specs.declared.submission.RecordedSubmission.{RecordedSubmission}
use Rattle.trace_recorded.specs.declared.transfer.RecordedTransfer.{RecordedTransfer}
use Rattle.trace_recorded.specs.declared.waits.Source.TheVariants as source
use Rattle.trace_recorded.specs.declared.waits.TakenCount.{TakenCount}
use Rattle.trace_recorded.specs.declared.waits.Wait.{Wait}
use Rattle.trace_recorded.specs.declared.waits.Waits.{Waits}
use Rattle.trace_recorded.specs.Answers.{answers_of, packets_acknowledged}
use Rattle.trace_recorded.specs.Endpoints.{counted, ends_halt_by, is_behind_stall, is_own, is_scripted, is_too_large, is_withdrawn, no_answers, submitted, transfer_of, with_answers, with_callback, with_counts, with_end_of, with_event, with_noted, with_own_by, with_places, with_transfer, with_turn}
use Rattle.trace_recorded.specs.Folds.{after}
use Rattle.trace_recorded.specs.Tables.{value_at, with_value, without}
use Rattle.trace_recorded.specs.WaitLaws.{AnswersWait, AreAwaited, AreReached, AreTold, IsTold, MayCome, WaitsFor}
use Rattle.trace_recorded.specs.Waits.{is_awaited, source_number, told_at, told_of, with_wait, with_waits}
use Rattle.trace_recorded.proofs.ByKey.{put_apart, put_here, taken_apart}

-- what holds of all in joined lists
joined : {X : Type 0} (P : X → Type 0) (xs ys : List X) → AllByRecursion P xs → AllByRecursion P ys → AllByRecursion P (xs ++ ys)
joined P [] ys one other = other
joined P (x ∷ xs) ys one other = (one.0, joined P xs ys one.1 other)

front : {X : Type 0} (P : X → Type 0) (xs ys : List X) → AllByRecursion P (xs ++ ys) → AllByRecursion P xs
front P [] ys all = tt
front P (x ∷ xs) ys all = (all.0, front P xs ys all.1)

back : {X : Type 0} (P : X → Type 0) (xs ys : List X) → AllByRecursion P (xs ++ ys) → AllByRecursion P ys
back P [] ys all = all
back P (x ∷ xs) ys all = back P xs ys all.1

-- what one more wait is for
record Waited (place : ℕ) (t : TakenCount) (waits behind : Waits) : Type 0 where
  pub told : AreTold place behind
  pub reached : (took : ℕ → ℕ) → MayCome behind.lines place took → MayCome waits.lines place took × (t.count ≤ took (source_number t.source))
  pub comes : (took : ℕ → ℕ) → MayCome waits.lines place took → t.count ≤ took (source_number t.source) → MayCome behind.lines place took

one_wait : (place : ℕ) (t : TakenCount) (waits : Waits) → AreTold place waits → Waited place t waits (with_wait place t waits)
unfolding with_wait
one_wait place t waits told = by_test (nat_lt (told_of t.source waits) t.count) refl
  where
    line : Wait
    line = record { place = place; source = t.source; count = t.count }

    own : ℕ
    own = source_number t.source

    more : Waits
    more = record { told = with_value own t.count (without own waits.told); lines = waits.lines ++ line ∷ [] }

    is_reached : (took : ℕ → ℕ) → Wait → Type 0
    is_reached took w = w.place ≤ place → w.count ≤ took (source_number w.source)

    of_more : (took : ℕ → ℕ) → MayCome more.lines place took → t.count ≤ took own
    of_more took may = (back (is_reached took) waits.lines (line ∷ []) may).0 (omega arith)

    told_more : (took : ℕ → ℕ) (number : ℕ) → MayCome more.lines place took → (b : Bool) → (number == own) ≡ b → told_at number more ≤ took number
    told_more took number may true is =
        let same : number ≡ own = eqb-true number own is in
        let here : told_at own more ≡ t.count = ap (λ (v : Option ℕ). unwrap_or v 0) (put_here own t.count (without own waits.told)) in
        subst (λ (q : ℕ). told_at q more ≤ took q) (sym same) (omega (arith, here, of_more took may))
    told_more took number may false is =
        let apart : told_at number more ≡ told_at number waits = ap (λ (v : Option ℕ). unwrap_or v 0) (put_apart number own t.count (without own waits.told) is ∙ taken_apart number own waits.told is) in
        omega (arith, apart, told took (front (is_reached took) waits.lines (line ∷ []) may) number)

    by_test : (b : Bool) → nat_lt (told_of t.source waits) t.count ≡ b → Waited place t waits (if b then more else waits)
    by_test true is = record {
      told = λ took may number. told_more took number may (number == own) refl;
      reached = λ took may. (front (is_reached took) waits.lines (line ∷ []) may, of_more took may);
      comes = λ took may is. joined (is_reached took) waits.lines (line ∷ []) may ((λ le. is), tt);
    }
    by_test false is = record {
      told = told;
      reached = λ took may. (may, omega (arith, ltb-false (told_of t.source waits) t.count is, told took may own));
      comes = λ took may is. may;
    }

-- and of several
record Folded (place : ℕ) (taken : List TakenCount) (waits behind : Waits) : Type 0 where
  pub told : AreTold place behind
  pub reached : (took : ℕ → ℕ) → MayCome behind.lines place took → MayCome waits.lines place took × AreReached taken took
  pub comes : (took : ℕ → ℕ) → MayCome waits.lines place took → AreReached taken took → MayCome behind.lines place took

all_wait : (place : ℕ) (taken : List TakenCount) (waits : Waits) → AreTold place waits → Folded place taken waits (after (with_wait place) waits taken)
unfolding after
all_wait place [] waits told = record { told = told; reached = λ took may. (may, tt); comes = λ took may all. may }
all_wait place (t ∷ taken) waits told =
    let one : Waited place t waits (with_wait place t waits) = one_wait place t waits told in
    let rest : Folded place taken (with_wait place t waits) (after (with_wait place) (with_wait place t waits) taken) = all_wait place taken (with_wait place t waits) one.told in
    record {
      told = rest.told;
      reached = λ took may. let behind = rest.reached took may in let first = one.reached took behind.0 in (first.0, (first.1, behind.1));
      comes = λ took may all. rest.comes took (one.comes took may all.0) all.1;
    }

waits_for : (place : ℕ) (own : TakenCount) (taken : List TakenCount) (waits : Waits) → AreTold place waits → WaitsFor place own taken waits
waits_for place own taken waits told =
    let one : Waited place own waits (with_wait place own waits) = one_wait place own waits told in
    let rest : Folded place taken (with_wait place own waits) (with_waits place own taken waits) = all_wait place taken (with_wait place own waits) one.told in
    record {
      told = rest.told;
      reached = λ took may. let behind = rest.reached took may in let first = one.reached took behind.0 in (first.0, (first.1, behind.1));
      comes = λ took may all. rest.comes took (one.comes took may all.0) all.1;
    }

-- what is told at a place is told at a later one
sooner : (lines : List Wait) (place later : ℕ) (took : ℕ → ℕ) → place ≤ later → MayCome lines later took → MayCome lines place took
sooner [] place later took le may = tt
sooner (w ∷ ws) place later took le may = ((λ within. may.0 (omega (arith, le, within))), sooner ws place later took le may.1)

stays_later : (place later : ℕ) (waits : Waits) → place ≤ later → AreTold place waits → AreTold later waits
stays_later place later waits le told = λ took may number. told took (sooner waits.lines place later took le may) number

-- over an event
at_places : (taken : List TakenCount) (count : ℕ) (x : RecordedEndpoint) → IsTold x → IsTold (with_places taken count x)
at_places taken count x h = by_test (not (is_in x.info.address) || ((count == 0) || nat_le longest_script x.count))
  where
    by_test : (b : Bool) → IsTold (if b then x else record x { waits = with_waits x.count (record { source = source.Endpoint x.info.address; count = x.withdrawn; frame = 0 }) taken x.waits })
    by_test true = h
    by_test false = record { counted = h.counted; told = (waits_for x.count (record { source = source.Endpoint x.info.address; count = x.withdrawn; frame = 0 }) taken x.waits h.told).told }

at_answers : (size clears frame : ℕ) (t : RecordedTransfer) (x : RecordedEndpoint) → IsTold x → IsTold (with_answers size clears frame t x)
at_answers size clears frame t x h =
    let more : ℕ = length (answers_of size t) in
    let bounded : counted x.count more < 2 ^ 64 = omega arith in
    let grows : x.count ≤ counted x.count more = omega (arith, h.counted) in
    record { counted = bounded; told = stays_later x.count (counted x.count more) x.waits grows h.told }

at_counts : (size : ℕ) (t : RecordedTransfer) (count : ℕ) (x : RecordedEndpoint) → IsTold x → IsTold (with_counts size t count x)
at_counts size t count x h = by_test (is_in x.info.address) (is_withdrawn t.end && (count == 0))
  where
    by_test : (b c : Bool) → IsTold (if b then (if c then record x { withdrawn = counted x.withdrawn 1 } else x) else record x { acknowledged = counted x.acknowledged (packets_acknowledged size t) })
    by_test true true = record { counted = h.counted; told = h.told }
    by_test true false = h
    by_test false c = record { counted = h.counted; told = h.told }

at_transfer : (taken : List TakenCount) (clears frame : ℕ) (t : RecordedTransfer) (x : RecordedEndpoint) → IsTold x → IsTold (with_transfer taken clears frame t x)
unfolding with_transfer
at_transfer taken clears frame t x h = by_test (is_too_large t) (is_behind_stall clears t x)
  where
    by_test : (b c : Bool) → IsTold (if b then record x { left_out = with_noted frame 1 x.left_out } else if c then x else with_turn taken clears frame t x)
    by_test true c = record { counted = h.counted; told = h.told }
    by_test false true = h
    by_test false false =
        let count : ℕ = length (answers_of x.info.packet_size t) in
        at_counts x.info.packet_size t count (with_answers x.info.packet_size clears frame t (with_places taken count x))
        (at_answers x.info.packet_size clears frame t (with_places taken count x) (at_places taken count x h))

at_end : (o : Option RecordedSubmission) (taken : List TakenCount) (event : RecordedEvent) (x : RecordedEndpoint) → IsTold x → IsTold (with_end_of o taken event x)
at_end (Some s) taken event x h = at_transfer (filter (is_awaited x.info.address s.frame) taken) s.clears event.frame (transfer_of x.info s event) x h
at_end None taken event x h = by_test event.is_counted
  where
    by_test : (b : Bool) → IsTold (if b then with_callback taken (submitted event x) event x else x)
    by_test true = at_transfer (filter (is_awaited x.info.address event.frame) taken) (submitted event x).clears event.frame (transfer_of x.info (submitted event x) event) x h
    by_test false = h

at_own : (type : RecordedType) (taken : List TakenCount) (event : RecordedEvent) (x : RecordedEndpoint) → IsTold x → IsTold (with_own_by type taken event x)
at_own Submission taken event x h = record { counted = h.counted; told = h.told }
at_own Callback taken event x h =
    at_end (value_at event.id x.waiting) taken event (record x { waiting = without event.id x.waiting }) (record { counted = h.counted; told = h.told })
at_own SubmissionError taken event x h = record { counted = h.counted; told = h.told }

at_event : (taken : List TakenCount) (event : RecordedEvent) (x : RecordedEndpoint) → IsTold x → IsTold (with_event taken event x)
unfolding with_event
at_event taken event x h = by_test (ends_halt_by event.event_type x.info event.setup) (is_scripted x.info && is_own x.info event)
  where
    by_test : (b c : Bool) → IsTold (if b then record x { clears = counted x.clears 1 } else if c then with_own_by event.event_type taken event x else x)
    by_test true c = record { counted = h.counted; told = h.told }
    by_test false true = at_own event.event_type taken event x h
    by_test false false = h

-- of those that are waited for among all, each is reached
reached_all : (p : TakenCount → Bool) (took : ℕ → ℕ) (taken : List TakenCount) → AreReached (filter p taken) took → AllByRecursion (λ (t : TakenCount). p t ≡ true → t.count ≤ took (source_number t.source)) taken
reached_all p took [] reached = tt
reached_all p took (t ∷ ts) reached = by_test (p t) refl reached (reached_all p took ts)
  where
    all : List TakenCount → Type 0
    all ts = AllByRecursion (λ (t : TakenCount). p t ≡ true → t.count ≤ took (source_number t.source)) ts

    by_test : (b : Bool) → p t ≡ b → AreReached (cond b (t ∷ filter p ts) (filter p ts)) took → (AreReached (filter p ts) took → all ts) → all (t ∷ ts)
    by_test true is reached rest = ((λ awaited. reached.0), rest reached.1)
    by_test false is reached rest = ((λ awaited. let both : false ≡ true = sym is ∙ awaited in absurd cc), rest reached)

pub answers_wait : AnswersWait
answers_wait = record {
  first = λ info. record { counted = omega arith; told = λ took may number. omega arith };
  next = at_event;
  waits = λ own taken x h. waits_for x.count own taken x.waits h.told;
  others = λ own taken since x h took may.
      let awaited : List TakenCount = filter (is_awaited x.info.address since) taken in
      reached_all (is_awaited x.info.address since) took taken ((waits_for x.count own awaited x.waits h.told).reached took may).1.1;
}
