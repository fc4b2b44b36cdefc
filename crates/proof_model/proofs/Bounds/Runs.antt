-- Over every run: what waits for an endpoint is bounded, and so is how often a transfer was submitted before.
use Rattle.std.proofs.Common.{Bool, List, Option, Some, [], ap, append-nil, arith, false, inl, inr, length, length-append, refl, subst, sym, true, ℕ, ◌++◌, ◌+◌, ◌<◌, ◌==◌, ◌∙◌, ◌∷◌, ◌≡◌, ◌≤◌, ◌⊎◌}
use Rattle.std.specs.Prelude.{◌||◌, if◌then◌else◌, is_some}
use Rattle.std.specs.List.{AllByRecursion, count_by, list_any}
use Rattle.std.proofs.lemmas.Bool.{cases_lt, eqb-true}
use Rattle.std.proofs.lemmas.List.Sums.{count_by-le-length}
use Rattle.usb_model.specs.declared.endpoint.Endpoint.{Endpoint}
use Rattle.usb_model.specs.declared.endpoint_effect.EndpointEffect.{EndpointEffect}
use Rattle.usb_model.specs.declared.effect.Effect.{Effect}
use Rattle.usb_model.specs.declared.handle.Handle.{Handle}
use Rattle.usb_model.specs.declared.item.Item.{Item}
use Rattle.usb_model.specs.declared.request.Request.{Request}
use Rattle.usb_model.specs.declared.result.InCallback.{InCallback}
use Rattle.usb_model.specs.declared.result.TransferResult.{TransferResult}
use Rattle.usb_model.specs.declared.step.Step.{Step}
use Rattle.usb_model.specs.Coherence.{IsCoherent}
use Rattle.usb_model.specs.Endpoint.{fresh, live_numbers}
use Rattle.usb_model.specs.Fitness.{IsWell, errands_of, events_of}
use Rattle.usb_model.specs.Laws.Bounds.{KeepsBounds, line_at}
use Rattle.usb_model.specs.Laws.Cut.{times}
use Rattle.usb_model.specs.Laws.Places.{numbers_at}
use Rattle.usb_model.specs.Machine.Calls.{callback_of}
use Rattle.usb_model.specs.Machine.Turns.{effect, machine_after, take_effect, takes_result}
use Rattle.usb_model.specs.Machine.{Machine, at_endpoint, device_of, endpoint_at, is_gone, is_result_at, new_machine}
use Rattle.usb_model.specs.Setup.{Setup, packet_size_of}
use Rattle.usb_model.specs.World.Shared.{past_first}
use Rattle.usb_model.specs.World.{World, machine_of, new_world, turn, world_from}
use Rattle.proof_model.proofs.Bounds.Items.{KeepsItems, OfItem, OfResult, keeps_work}
use Rattle.proof_model.proofs.Bounds.Paused.{PausesWait, acts_wait}
use Rattle.proof_model.proofs.Bounds.Waits.{few_waits}
use Rattle.proof_model.proofs.Calls.{each_without, work_callbacks}
use Rattle.proof_model.proofs.Machines.Acts.{IsNewOrGone, Rests, acts, acts_at, end_set, rests_at, works_elsewhere}
use Rattle.proof_model.proofs.Machines.Deeds.{IsDone, IsRest, IsUnused, IsSubmission, IsWork, again, again_with, anew, asks_it, claims, claims_again, clears, closes, commands, delivers, only_rests, opens, releases, resets, serves, stays, stops, submits, takes, works}
use Rattle.proof_model.proofs.Machines.Done.{is_done}
use Rattle.proof_model.proofs.Machines.Well.{first_news, fit_at}
use Rattle.proof_model.proofs.Places.Exact.{exact_ask, exact_command, exact_deliver, exact_serve}
use Rattle.proof_model.proofs.Places.Placed.{IsPlaced, called_by, callback_numbers, lives_rest, takes_no_result}
use Rattle.proof_model.proofs.Places.Runs.{IsKept, kept_at, kept_new, kept_step}
use Rattle.proof_model.proofs.Handles.Isolation.{IsEither, effect_to, new_machine_of, turn_to}
use Rattle.proof_model.proofs.Lists.Pieces.{same_name}
use Rattle.proof_model.proofs.Lists.Parts.{IsPart, each_append, each_here, each_part, each_weaker, part_count, skips, whole}
use Rattle.proof_model.proofs.Lists.Times.{count-append, count-cons}
use Rattle.proof_model.proofs.Work.Lines.{lives-push, lives_short}
use Rattle.std.proofs.lemmas.Option.{same_Some}

-- a transfer of this endpoint, with its number and its round
abbrev IsOf : ℕ → ℕ → Request → ℕ → Type 0
IsOf ep n request round = (request.ep ≡ ep) × (round ≤ n)

-- a transfer whose endpoint the machine has
abbrev HasHome : Machine → ℕ → Request → ℕ → Type 0
HasHome m n request round = is_some (endpoint_at m request.ep) ≡ true

-- of a transfer in its callback
abbrev pub OfCallback : (ℕ → Request → ℕ → Type 0) → InCallback → Type 0
OfCallback P x = P x.n x.request x.round

-- what holds of every machine
record IsWithin (m : Machine) : Type 0 where
  items : (ep : ℕ) → AllByRecursion (OfItem (IsOf ep)) (line_at (endpoint_at m ep))
  results : AllByRecursion (λ r. r.round ≤ r.n) m.results
  in_callbacks : AllByRecursion (λ x. x.round ≤ x.n) m.handle.in_callbacks
  few : (ep : ℕ) → count_by (is_result_at ep) m.results + length (numbers_at (endpoint_at m ep)) ≤ 16
  -- the endpoint of a result, and of a transfer in its callback, is there
  results_home : AllByRecursion (OfResult (HasHome m)) m.results
  callbacks_home : AllByRecursion (OfCallback (HasHome m)) m.handle.in_callbacks

-- a new endpoint has no transfers
new_items : (P : Item → Type 0) (setup : Setup) (ep : ℕ) (o : Option Endpoint) → IsNewOrGone setup ep o → AllByRecursion P (line_at o)
unfolding fresh
new_items P setup ep o (inl e) = rw e tt
new_items P setup ep o (inr e) = rw e.1 tt

-- what holds of each entry by two things that do
each_both : {A : Type 0} (P Q R : A → Type 0) (xs : List A) → ((x : A) → P x → Q x → R x) → AllByRecursion P xs → AllByRecursion Q xs → AllByRecursion R xs
each_both P Q R [] f p q = tt
each_both P Q R (x ∷ xs) f p q = (f x p.0 q.0, each_both P Q R xs f p.1 q.1)

-- where no work is done, the transfers of an endpoint stay, or are gone
pub rest_items : (P : Item → Type 0) (setup : Setup) (ep : ℕ) (m m' : Machine) (step : Step) → Rests setup ep m m' step → AllByRecursion P (line_at (endpoint_at m ep)) → AllByRecursion P (line_at (endpoint_at m' ep))
rest_items P setup ep m m' step (inl s) a = subst (λ o. AllByRecursion P (line_at o)) (sym s.end) a
rest_items P setup ep m m' step (inr r) a = new_items P setup ep (endpoint_at m' ep) r.end

-- the same list is a part
part_same : {A : Type 0} (xs ys : List A) → xs ≡ ys → IsPart xs ys
part_same xs ys e = subst (λ l. IsPart l ys) (sym e) (whole ys)

-- and no result is made
pub rest_part : (setup : Setup) (h : ℕ) (m : Machine) (step : Step) (done : Effect) → IsRest setup h m step done → IsPart (machine_after setup m step done).results m.results
unfolding machine_after take_effect
rest_part setup h m step done (stays bare t) = part_same _ m.results (ap (λ l. l ++ []) t.results ∙ append-nil m.results)
rest_part setup h m step done (claims_again g i) = part_same _ m.results (append-nil m.results)
rest_part setup h m step done (stops g k x in_call) = part_same _ m.results (append-nil m.results)
rest_part setup h m step done (opens g dev none) = part_same _ m.results (append-nil m.results)
rest_part setup h m step done (closes g idle) = part_same _ m.results (append-nil m.results)
rest_part setup h m step done (claims g i opened free) = part_same _ m.results (append-nil m.results)
rest_part setup h m step done (releases g i idle) = part_same _ m.results (append-nil m.results)
rest_part setup h m step done (resets g idle) = part_same _ m.results (append-nil m.results)
rest_part setup h m step done (takes x xs is) = subst (λ l. IsPart (past_first true l ++ []) l) (sym is) (skips (part_same (xs ++ []) xs (append-nil xs)))

-- a result that is taken goes into its callback as it is
pub rest_callbacks : (P : ℕ → Request → ℕ → Type 0) (setup : Setup) (h : ℕ) (m : Machine) (step : Step) (done : Effect) → IsRest setup h m step done → AllByRecursion (OfResult P) m.results → AllByRecursion (OfCallback P) m.handle.in_callbacks → AllByRecursion (OfCallback P) done.handle.in_callbacks
unfolding take_effect
rest_callbacks P setup h m step done (stops g k x in_call) rs cs = each_without (OfCallback P) x.n m.handle.in_callbacks cs
rest_callbacks P setup h m step done (takes x xs is) rs cs =
    each_append (OfCallback P) m.handle.in_callbacks (record { n = x.n; request = x.request; round = x.round; status = x.status } ∷ []) cs ((subst (AllByRecursion (OfResult P)) is rs).0, tt)
rest_callbacks P setup h m step done (stays bare t) rs cs = cs
rest_callbacks P setup h m step done (claims_again g i) rs cs = cs
rest_callbacks P setup h m step done (opens g dev none) rs cs = cs
rest_callbacks P setup h m step done (closes g idle) rs cs = cs
rest_callbacks P setup h m step done (claims g i opened free) rs cs = cs
rest_callbacks P setup h m step done (releases g i idle) rs cs = cs
rest_callbacks P setup h m step done (resets g idle) rs cs = cs

-- of each entry of a list some entry has its key: itself
each_found : {A : Type 0} (key : A → ℕ) (xs : List A) → AllByRecursion (λ x. list_any (λ y. key y == key x) xs ≡ true) xs
each_found key [] = tt
each_found key (x ∷ xs) = (rw (same_name (key x)) refl, each_weaker (λ y. list_any (λ z. key z == key y) xs ≡ true) (λ y. list_any (λ z. key z == key y) (x ∷ xs) ≡ true) xs (λ y found. by_test (key x == key y) (list_any (λ z. key z == key y) xs) found) (each_found key xs))
  where
    by_test : (b c : Bool) → c ≡ true → (b || c) ≡ true
    by_test true c found = refl
    by_test false c found = found

-- where an endpoint stays, is new, or is gone and has nothing, what has a home has one still
rest_homes : {A : Type 0} (setup : Setup) (m m' : Machine) (step : Step) (home : A → ℕ) (xs : List A) → ((ep : ℕ) → Rests setup ep m m' step) → ((ep : ℕ) → IsUnused ep m → is_some (endpoint_at m ep) ≡ true → list_any (λ x. home x == ep) xs ≡ false)
    → AllByRecursion (λ x. is_some (endpoint_at m (home x)) ≡ true) xs → AllByRecursion (λ x. is_some (endpoint_at m' (home x)) ≡ true) xs
rest_homes setup m m' step home xs rests none homes =
    each_both (λ x. list_any (λ y. home y == home x) xs ≡ true) (λ x. is_some (endpoint_at m (home x)) ≡ true) (λ x. is_some (endpoint_at m' (home x)) ≡ true) xs (λ x found there. by_rest (home x) found there (rests (home x))) (each_found home xs) homes
  where
    by_rest : (ep : ℕ) → list_any (λ y. home y == ep) xs ≡ true → is_some (endpoint_at m ep) ≡ true → Rests setup ep m m' step → is_some (endpoint_at m' ep) ≡ true
    by_rest ep found there (inl same) = ap (λ o. is_some o) same.end ∙ there
    by_rest ep found there (inr r) = let gone : list_any (λ x. home x == ep) xs ≡ false = none ep r.idle.unused there in absurd (cc (gone, found))

-- what the handle is after a step
handle_after : (P : List InCallback → Type 0) (setup : Setup) (m : Machine) (step : Step) (done : Effect) → P done.handle.in_callbacks → P (machine_after setup m step done).handle.in_callbacks
unfolding machine_after
handle_after P setup m step done p = p

-- and what work leaves of it
handle_of : (P : List InCallback → Type 0) (handle : Handle) (dev ep : ℕ) (d : EndpointEffect) → P handle.in_callbacks → P (at_endpoint handle dev ep d).handle.in_callbacks
unfolding at_endpoint
handle_of P handle dev ep d p = p

-- the results after work
results_after : (setup : Setup) (m : Machine) (step : Step) (handle : Handle) (dev ep : ℕ) (d : EndpointEffect) → takes_result step ≡ false → (machine_after setup m step (at_endpoint handle dev ep d)).results ≡ m.results ++ d.results
unfolding machine_after at_endpoint
results_after setup m step handle dev ep d none = ap (λ b. past_first b m.results ++ d.results) none

-- a step without work
within_rest : (setup : Setup) (h : ℕ) (m : Machine) (step : Step) (done : Effect) → IsWell setup m → IsRest setup h m step done → IsWithin m → IsWithin (machine_after setup m step done)
within_rest setup h m step done well rest w = record {
  items = λ ep. rest_items (OfItem (IsOf ep)) setup ep m (machine_after setup m step done) step (rests_at setup h m step done ep well rest) (w.items ep);
  results = each_part (λ r. r.round ≤ r.n) (rest_part setup h m step done rest) w.results;
  in_callbacks = callbacks;
  few = λ ep. omega (arith, w.few ep, part_count (is_result_at ep) (rest_part setup h m step done rest), ap length (lives_rest setup ep m (machine_after setup m step done) step (rests_at setup h m step done ep well rest)));
  results_home = each_part (OfResult (HasHome m')) (rest_part setup h m step done rest) results;
  callbacks_home = handle_after (AllByRecursion (OfCallback (HasHome m'))) setup m step done (rest_callbacks (HasHome m') setup h m step done rest results in_callbacks);
}
  where
    m' : Machine
    m' = machine_after setup m step done

    callbacks : AllByRecursion (λ x. x.round ≤ x.n) m'.handle.in_callbacks
    callbacks = handle_after (AllByRecursion (λ x. x.round ≤ x.n)) setup m step done (rest_callbacks (λ n request round. round ≤ n) setup h m step done rest w.results w.in_callbacks)

    rests : (ep : ℕ) → Rests setup ep m m' step
    rests ep = rests_at setup h m step done ep well rest

    results : AllByRecursion (OfResult (HasHome m')) m.results
    results = rest_homes setup m m' step (λ r. r.request.ep) m.results rests (λ ep unused there. (unused there).0) w.results_home

    in_callbacks : AllByRecursion (OfCallback (HasHome m')) m.handle.in_callbacks
    in_callbacks = rest_homes setup m m' step (λ x. x.request.ep) m.handle.in_callbacks rests (λ ep unused there. (unused there).1) w.callbacks_home

-- the transfer found in its callback is one of those
pub callback_each : (P : InCallback → Type 0) (k : ℕ) (xs : List InCallback) (x : InCallback) → AllByRecursion P xs → callback_of k xs ≡ Some x → P x
unfolding callback_of
callback_each P k [] x a e = absurd cc
callback_each P k (y ∷ ys) x a e = by_test (y.n == k) e (callback_each P k ys x a.1)
  where
    by_test : (b : Bool) → (if b then Some y else callback_of k ys) ≡ Some x → (callback_of k ys ≡ Some x → P x) → P x
    by_test true q rest = subst P (same_Some y x q) a.0
    by_test false q rest = rest q

-- a number in a callback was given
callbacks_given : (m : Machine) (called : List ℕ) → IsPlaced m called → AllByRecursion (λ x. x.n < m.handle.next_number) m.handle.in_callbacks
callbacks_given m called p = each_weaker (λ x. 0 < times x.n (callback_numbers m.handle.in_callbacks)) (λ x. x.n < m.handle.next_number) m.handle.in_callbacks (λ x here. by_order x here (cases_lt x.n m.handle.next_number)) (each_here (λ x. x.n) m.handle.in_callbacks)
  where
    by_order : (x : InCallback) → 0 < times x.n (callback_numbers m.handle.in_callbacks) → (x.n < m.handle.next_number) ⊎ (m.handle.next_number ≤ x.n) → x.n < m.handle.next_number
    by_order x here (inl lt) = lt
    by_order x here (inr le) = absurd (omega (arith, here, (p.not_given x.n le).in_no_callback))

-- so a transfer that is submitted again has a round of at most its new number
round_below : (m : Machine) (step : Step) (left : Handle) (request : Request) (round : ℕ) → AllByRecursion (λ x. x.round ≤ x.n) m.handle.in_callbacks → AllByRecursion (λ x. x.n < m.handle.next_number) m.handle.in_callbacks → IsSubmission m.handle step left request round → round ≤ m.handle.next_number
round_below m step left request round rounds given (anew g r) = omega arith
round_below m step left request round rounds given (again g k x in_call) =
    omega (arith, callback_each (λ y. y.round ≤ y.n) k m.handle.in_callbacks x rounds in_call, callback_each (λ y. y.n < m.handle.next_number) k m.handle.in_callbacks x given in_call)
round_below m step left request round rounds given (again_with g k bytes x in_call) =
    omega (arith, callback_each (λ y. y.round ≤ y.n) k m.handle.in_callbacks x rounds in_call, callback_each (λ y. y.n < m.handle.next_number) k m.handle.in_callbacks x given in_call)

-- work leaves at most 16 results and transfers in progress
work_few : (setup : Setup) (m : Machine) (ep : ℕ) (e : Endpoint) (step : Step) (handle : Handle) (d : EndpointEffect) → IsWell setup m → endpoint_at m ep ≡ Some e → IsWork setup m ep e step handle d
    → count_by (is_result_at ep) m.results + length (live_numbers e.line) ≤ 16 → count_by (is_result_at ep) m.results + (length d.results + length (live_numbers d.endpoint.line)) ≤ 16
work_few setup m ep e step handle d well here (serves dev) few = omega (arith, few, (exact_serve (packet_size_of setup (device_of m) ep) (is_gone m) e).count)
work_few setup m ep e step handle d well here (commands o os is) few = omega (arith, few, (exact_command (packet_size_of setup (device_of m) ep) ep e o e.state).count)
work_few setup m ep e step handle d well here (delivers event ns is) few =
    omega (arith, few, (exact_deliver (packet_size_of setup (device_of m) ep) ep (is_gone m) e event _ _ (subst (λ l. IsCoherent e (errands_of ep m.orders) l) (first_news ep event m.news ns is).0 (fit_at setup m ep e well here).coherent)).count)
work_few setup m ep e step handle d well here (asks_it {ask = ask} n i is at free) few = omega (arith, few, (exact_ask e n ask).count)
work_few setup m ep e step handle d well here (submits {request = request} {round = round} is at fine room) few =
    omega (arith, room, lives_short e.line, ap length (lives-push e.line m.handle.next_number request round), length-append (live_numbers e.line) (m.handle.next_number ∷ []))
work_few setup m ep e step handle d well here (clears g empty) few = omega (arith, few)

-- results of one endpoint are none of another
none_elsewhere : (ep at : ℕ) (rs : List TransferResult) → (ep == at) ≡ false → AllByRecursion (OfResult (IsOf ep)) rs → count_by (is_result_at at) rs ≡ 0
none_elsewhere ep at [] other a = refl
none_elsewhere ep at (r ∷ rs) other a =
    let differ : (r.request.ep == at) ≡ false = ap (λ k. k == at) a.0.0 ∙ other in
    count-cons (is_result_at at) r rs ∙ (ap (λ (b : Bool). (if b then 1 else 0) + count_by (is_result_at at) rs) differ ∙ (let none : 0 + count_by (is_result_at at) rs ≡ 0 = omega (arith, none_elsewhere ep at rs other a.1) in none))

-- work at an endpoint
within_work : (setup : Setup) (m : Machine) (called : List ℕ) (ep : ℕ) (e : Endpoint) (step : Step) (handle : Handle) (d : EndpointEffect) → IsKept setup m called → endpoint_at m ep ≡ Some e → IsWork setup m ep e step handle d → IsWithin m
    → IsWithin (machine_after setup m step (at_endpoint handle (device_of m) ep d))
within_work setup m called ep e step handle d kept here work w = record {
  items = λ at. items_at at (ep == at) refl;
  results = subst (AllByRecursion (λ r. r.round ≤ r.n)) (sym results_are) (each_append (λ r. r.round ≤ r.n) m.results d.results w.results (each_weaker (OfResult (IsOf ep)) (λ r. r.round ≤ r.n) d.results (λ r p. p.1) k.results));
  in_callbacks = handle_after (AllByRecursion (λ x. x.round ≤ x.n)) setup m step done callbacks;
  few = λ at. few_at at (ep == at) refl;
  results_home = subst (AllByRecursion (OfResult (HasHome m'))) (sym results_are)
      (each_append (OfResult (HasHome m')) m.results d.results (each_weaker (OfResult (HasHome m)) (OfResult (HasHome m')) m.results (λ r there. stays_home r.request.ep (ep == r.request.ep) refl there) w.results_home)
      (each_weaker (OfResult (IsOf ep)) (OfResult (HasHome m')) d.results (λ r p. subst (λ i. is_some (endpoint_at m' i) ≡ true) (sym p.0) home) k.results));
  callbacks_home = handle_after (AllByRecursion (OfCallback (HasHome m'))) setup m step done
      (handle_of (AllByRecursion (OfCallback (HasHome m'))) handle (device_of m) ep d
      (work_callbacks setup m ep e step handle d (OfCallback (HasHome m')) work (each_weaker (OfCallback (HasHome m)) (OfCallback (HasHome m')) m.handle.in_callbacks (λ x there. stays_home x.request.ep (ep == x.request.ep) refl there) w.callbacks_home)));
}
  where
    done : Effect
    done = at_endpoint handle (device_of m) ep d

    m' : Machine
    m' = machine_after setup m step done

    k : KeepsItems (IsOf ep) d
    k = keeps_work (IsOf ep) setup m ep e step handle d work
        (λ left request round is at. (at, round_below m step left request round w.in_callbacks (callbacks_given m called kept.placed) is))
        (subst (λ o. AllByRecursion (OfItem (IsOf ep)) (line_at o)) here (w.items ep))

    home : is_some (endpoint_at m' ep) ≡ true
    home = ap (λ o. is_some o) (end_set setup m ep e step handle d here work)

    stays_home : (at : ℕ) (b : Bool) → (ep == at) ≡ b → is_some (endpoint_at m at) ≡ true → is_some (endpoint_at m' at) ≡ true
    stays_home at true is there = subst (λ i. is_some (endpoint_at m' i) ≡ true) (eqb-true ep at is) home
    stays_home at false other there = ap (λ o. is_some o) (works_elsewhere setup m step handle d ep e work at other).end ∙ there

    results_are : m'.results ≡ m.results ++ d.results
    results_are = results_after setup m step handle (device_of m) ep d (takes_no_result setup m ep e step handle d work)

    callbacks : AllByRecursion (λ x. x.round ≤ x.n) done.handle.in_callbacks
    callbacks = handle_of (AllByRecursion (λ x. x.round ≤ x.n)) handle (device_of m) ep d (work_callbacks setup m ep e step handle d (λ x. x.round ≤ x.n) work w.in_callbacks)

    items_at : (at : ℕ) (b : Bool) → (ep == at) ≡ b → AllByRecursion (OfItem (IsOf at)) (line_at (endpoint_at m' at))
    items_at at true is = subst (λ i. AllByRecursion (OfItem (IsOf i)) (line_at (endpoint_at m' i))) (eqb-true ep at is) (subst (λ o. AllByRecursion (OfItem (IsOf ep)) (line_at o)) (sym (end_set setup m ep e step handle d here work)) k.items)
    items_at at false other = subst (λ o. AllByRecursion (OfItem (IsOf at)) (line_at o)) (sym (works_elsewhere setup m step handle d ep e work at other).end) (w.items at)

    few_at : (at : ℕ) (b : Bool) → (ep == at) ≡ b → count_by (is_result_at at) m'.results + length (numbers_at (endpoint_at m' at)) ≤ 16
    few_at at true is =
        subst (λ i. count_by (is_result_at i) m'.results + length (numbers_at (endpoint_at m' i)) ≤ 16) (eqb-true ep at is)
        (omega (
          arith,
          work_few setup m ep e step handle d kept.well here work (subst (λ o. count_by (is_result_at ep) m.results + length (numbers_at o) ≤ 16) here (w.few ep)),
          ap (count_by (is_result_at ep)) results_are,
          count-append (is_result_at ep) m.results d.results,
          count_by-le-length (is_result_at ep) d.results,
          ap (λ o. length (numbers_at o)) (end_set setup m ep e step handle d here work),
        ))
    few_at at false other =
        omega (
          arith,
          w.few at,
          ap (count_by (is_result_at at)) results_are,
          count-append (is_result_at at) m.results d.results,
          none_elsewhere ep at d.results other k.results,
          ap (λ o. length (numbers_at o)) (works_elsewhere setup m step handle d ep e work at other).end,
        )

-- any step
within_done : (setup : Setup) (h : ℕ) (m : Machine) (called : List ℕ) (step : Step) (done : Effect) → IsKept setup m called → IsDone setup h m step done → IsWithin m → IsWithin (machine_after setup m step done)
within_done setup h m called step done kept (only_rests rest) w = within_rest setup h m step done kept.well rest w
within_done setup h m called step done kept (works {handle = handle} {d = d} ep e here work) w = within_work setup m called ep e step handle d kept here work w

-- and that a transfer waits where a pause is told
record IsBounded (m : Machine) : Type 0 where
  within : IsWithin m
  pauses : (ep : ℕ) → PausesWait (events_of ep m.news) (line_at (endpoint_at m ep))

-- any step keeps it
bounded_step : (setup : Setup) (h : ℕ) (m : Machine) (called : List ℕ) (step : Step) → IsKept setup m called → IsBounded m → IsBounded (machine_after setup m step (effect setup h m step))
bounded_step setup h m called step kept b =
    let done : Effect = effect setup h m step in
    let is : IsDone setup h m step done = is_done setup h m step kept.well in
    record {
      within = within_done setup h m called step done kept is b.within;
      pauses = λ ep. acts_wait setup ep m (machine_after setup m step done) step kept.well (acts_at setup m (machine_after setup m step done) step (acts setup h m step done kept.well is) ep) (b.pauses ep);
    }

-- of a machine that was never opened
bounded_new : IsBounded new_machine
unfolding new_machine
bounded_new = record {
  within = record { items = λ ep. tt; results = tt; in_callbacks = tt; few = λ ep. omega arith; results_home = tt; callbacks_home = tt };
  pauses = λ ep p. p;
}

-- over a run from a world on
bounded_from : (setup : Setup) (h : ℕ) (w : World) (steps : List Step) (called : List ℕ) → IsKept setup (machine_of setup h w) called → IsBounded (machine_of setup h w) → IsBounded (machine_of setup h (world_from setup w steps))
unfolding world_from
bounded_from setup h w [] called k b = b
bounded_from setup h w (step ∷ steps) called k b = by_turn (turn_to setup h w step) (bounded_from setup h (turn setup w step).world steps)
  where
    later : World
    later = (turn setup w step).world

    Later : Type 0
    Later = (before : List ℕ) → IsKept setup (machine_of setup h later) before → IsBounded (machine_of setup h later) → IsBounded (machine_of setup h (world_from setup later steps))

    by_turn : IsEither setup h w step (turn setup w step) → Later → IsBounded (machine_of setup h (world_from setup later steps))
    by_turn (inl own) rest =
        let now : List ℕ = called ++ called_by (effect_to setup h w step).reply in
        rest now (subst (λ m. IsKept setup m now) (sym own.3) (kept_step setup h (machine_of setup h w) step called k))
        (subst IsBounded (sym own.3) (bounded_step setup h (machine_of setup h w) called step k b))
    by_turn (inr nothing) rest = rest called (subst (λ m. IsKept setup m called) (sym nothing.1) k) (subst IsBounded (sym nothing.1) b)

-- the machine where any run ends
bounded_at : (setup : Setup) (steps : List Step) (h : ℕ) → IsBounded (machine_of setup h (world_from setup (new_world setup) steps))
bounded_at setup steps h = bounded_from setup h (new_world setup) steps [] (subst (λ m. IsKept setup m []) (sym (new_machine_of setup h)) (kept_new setup)) (subst IsBounded (sym (new_machine_of setup h)) bounded_new)

-- there the endpoint of each transfer in its callback is the handle's
pub callbacks_home : (setup : Setup) (steps : List Step) (h : ℕ) → AllByRecursion (λ x. is_some (endpoint_at (machine_of setup h (world_from setup (new_world setup) steps)) x.request.ep) ≡ true) (machine_of setup h (world_from setup (new_world setup) steps)).handle.in_callbacks
callbacks_home setup steps h = (bounded_at setup steps h).within.callbacks_home

-- where any run ends
pub keeps_bounds : (setup : Setup) (steps : List Step) (h : ℕ) → KeepsBounds setup steps h
keeps_bounds setup steps h =
    let m : Machine = machine_of setup h (world_from setup (new_world setup) steps) in
    let well : IsWell setup m = (kept_at setup h steps).well in
    let b : IsBounded m = bounded_at setup steps h in
    let few : (ep : ℕ) → (length (line_at (endpoint_at m ep)) ≤ 16) × (length (errands_of ep m.orders) ≤ 1) × (length (events_of ep m.news) ≤ 17) =
    λ ep. few_waits (endpoint_at m ep) (errands_of ep m.orders) (events_of ep m.news) (well.fits ep) (b.pauses ep) in
    record {
      rounds_in_line = λ ep. each_weaker (OfItem (IsOf ep)) (λ x. x.round ≤ x.n) (line_at (endpoint_at m ep)) (λ x p. p.1) (b.within.items ep);
      rounds_of_results = b.within.results;
      rounds_in_callbacks = b.within.in_callbacks;
      line = λ ep. (few ep).0;
      orders = λ ep. (few ep).1;
      news = λ ep. (few ep).2;
      results = b.within.few;
    }
