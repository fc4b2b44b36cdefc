-- Which transfers of a line have ended: those whose ends the handle's events tell.
use Rattle.std.proofs.Common.{◌≡◌, ℕ, ◌+◌, ◌≤◌, ◌<◌, ◌==◌, ◌⊎◌, inl, inr, Bool, true, false, List, [], ◌∷◌, ◌++◌, Option, Some, None, ap, ap₂, arith, map, refl, sym, ◌∙◌}
use Rattle.std.specs.Prelude.{◌&&◌, ◌||◌, not, if◌then◌else◌}
use Rattle.std.specs.List.{AllByRecursion, filter, flat_map, list_any}
use Rattle.std.proofs.lemmas.Bool.{cases_lt, eqb-true, ne_eqb}
use Rattle.std.proofs.lemmas.List.Folds.{list_any-append}
use Rattle.usb_model.specs.declared.errand.Errand.{Errand}
use Rattle.usb_model.specs.declared.endpoint.Endpoint.{Endpoint}
use Rattle.usb_model.specs.declared.endpoint.EndpointState.{EndpointState}
use Rattle.usb_model.specs.declared.item.Item.{Item}
use Rattle.usb_model.specs.declared.item.ItemState.{ItemState}
use Rattle.usb_model.specs.declared.item.ItemState.TheVariants.{Blank, Served, Waiting}
use Rattle.usb_model.specs.declared.news.Event.{Event}
use Rattle.usb_model.specs.declared.news.Event.TheVariants.{Finished, Paused, Settled}
use Rattle.usb_model.specs.declared.news.News.{News}
use Rattle.usb_model.specs.declared.order.Order.{Order}
use Rattle.usb_model.specs.declared.result.TransferResult.{TransferResult}
use Rattle.usb_model.specs.Coherence.{Coheres, IsPhase, ServedFirst, ended, event_by, first_by, move_ran, move_waits, reset_ran, reset_waits, runs, served_events, stop_failed, stop_ran, stop_ran_paused, stop_waits, stop_waits_halted}
use Rattle.usb_model.specs.Endpoint.{is_blank, is_blank_state, live_numbers}
use Rattle.usb_model.specs.Fitness.{events_of}
use Rattle.usb_model.specs.Laws.Cut.{times}
use Rattle.usb_model.specs.Laws.Places.{InOnePlace, KeepsPlaces, numbers_at, numbers_called}
use Rattle.usb_model.specs.Machine.{endpoint_at}
use Rattle.usb_model.specs.Setup.{Setup}
use Rattle.usb_model.specs.World.{World, machine_of, new_world, world_from}
use Rattle.usb_model.specs.World.Journal.{entries}
use Rattle.usb_core.specs.Public.{number_in}
use Rattle.trace_left.specs.declared.left.Left.{Left}
use Rattle.trace_left.specs.declared.left.Left.TheVariants.{At}
use Rattle.trace_left.specs.declared.left.Thing.TheVariants.{HasEnded, Waits}
use Rattle.trace_left.specs.Gathered.{by_events, is_end_of, line_read}
use Rattle.trace_left.specs.Left.{event_left, order_left, result_left, thing_of, transfers_left}
use Rattle.proof_model.proofs.Places.Runs.{keeps_places}
use Rattle.proof_model.proofs.Lists.Pieces.{same_name}
use Rattle.proof_model.proofs.Lists.Times.{times-cons, times_here}
use Rattle.trace_left.proofs.Turns.{IsReached}

-- whether an event tells that the transfer of this number ended
abbrev pub is_finished : ℕ → Event → Bool
is_finished n (Finished k code) = k == n
is_finished n (Paused k) = false
is_finished n (Settled errand ok) = false

-- of a handle's events those of an endpoint tell it
pub told_there : (h ep n : ℕ) (xs : List News) → list_any (is_end_of ep n) (map (event_left h) xs) ≡ list_any (is_finished n) (events_of ep xs)
told_there h ep n [] = refl
told_there h ep n (x ∷ xs) = by_test (told_there h ep n xs) (x.ep == ep) refl
  where
    at : (b : Bool) (v : Event) → x.event ≡ v → (x.ep == ep) ≡ b → is_end_of ep n (event_left h x) ≡ b && is_finished n v
    at b (Finished k code) is here = rw is (ap (λ c. c && (k == n)) here)
    at true (Paused k) is here = rw is refl
    at false (Paused k) is here = rw is refl
    at true (Settled errand ok) is here = rw is refl
    at false (Settled errand ok) is here = rw is refl

    by_test : list_any (is_end_of ep n) (map (event_left h) xs) ≡ list_any (is_finished n) (events_of ep xs) → (b : Bool) → (x.ep == ep) ≡ b
        → list_any (is_end_of ep n) (map (event_left h) (x ∷ xs)) ≡ list_any (is_finished n) (events_of ep (x ∷ xs))
    by_test rest true here = rw here (ap₂ (λ c d. c || d) (at true x.event refl here) rest)
    by_test rest false here = rw here (ap₂ (λ c d. c || d) (at false x.event refl here) rest)

-- no order does
pub no_order_tells : (h ep n : ℕ) (xs : List Order) → list_any (is_end_of ep n) (map (order_left h) xs) ≡ false
no_order_tells h ep n [] = refl
no_order_tells h ep n (x ∷ xs) = no_order_tells h ep n xs

-- and no result
pub no_result_tells : (h ep n : ℕ) (xs : List TransferResult) → list_any (is_end_of ep n) (map (result_left h) xs) ≡ false
no_result_tells h ep n [] = refl
no_result_tells h ep n (x ∷ xs) = no_result_tells h ep n xs

-- what is told behind the ends of the served items is no end
tail_tells_none : (n : ℕ) (s : EndpointState) (er : Option Errand) (os : List Errand) (es tail : List Event) → IsPhase s er os es tail → list_any (is_finished n) tail ≡ false
tail_tells_none n s er os es tail (runs g) = refl
tail_tells_none n s er os es tail (ended g) = refl
tail_tells_none n s er os es tail (stop_waits g) = refl
tail_tells_none n s er os es tail (stop_waits_halted g) = refl
tail_tells_none n s er os es tail (stop_ran g) = refl
tail_tells_none n s er os es tail (stop_ran_paused g) = refl
tail_tells_none n s er os es tail (stop_failed g) = refl
tail_tells_none n s er os es tail reset_waits = refl
tail_tells_none n s er os es tail reset_ran = refl
tail_tells_none n s er os es tail move_waits = refl
tail_tells_none n s er os es tail move_ran = refl

-- so an endpoint's news tell the ends of its served items, and no other
pub only_served : (n : ℕ) (line : List Item) (s : EndpointState) (er : Option Errand) (os : List Errand) (ns : List Event) → Coheres line s er os ns → list_any (is_finished n) ns ≡ list_any (is_finished n) (served_events line)
only_served n line s er os ns c =
    ap (list_any (is_finished n)) c.news ∙ (list_any-append (is_finished n) (served_events line) c.tail ∙ (ap (λ b. list_any (is_finished n) (served_events line) || b) (tail_tells_none n s er os (served_events line) c.tail c.phase) ∙ or_false (list_any (is_finished n) (served_events line))))
  where
    or_false : (b : Bool) → (b || false) ≡ b
    or_false true = refl
    or_false false = refl

-- t: which numbers' ends are told. The end of a served transfer is, and that of one that waits isn't
abbrev told_by : (t : ℕ → Bool) → ℕ → ItemState → Type 0
told_by t n Waiting = t n ≡ false
told_by t n (Served code) = t n ≡ true
told_by t n Blank = Unit {0}

abbrev pub AreTold : (t : ℕ → Bool) → List Item → Type 0
AreTold t line = AllByRecursion (λ x. told_by t x.n x.state) line

-- where none is served none is told
none_told : (line : List Item) → served_events line ≡ [] → AreTold (λ n. false) line
unfolding served_events
none_told [] none = tt
none_told (x ∷ xs) none = by_state (none_told xs) x.state none
  where
    by_state : (served_events xs ≡ [] → AreTold (λ n. false) xs) → (s : ItemState) → event_by x.n s (served_events xs) ≡ [] → told_by (λ n. false) x.n s × AreTold (λ n. false) xs
    by_state rest Waiting none = (refl, rest none)
    by_state rest (Served code) none = absurd cc
    by_state rest Blank none = (tt, rest none)

-- one end more is told, of a number that isn't in progress there
one_told_more : (k : ℕ) (t : ℕ → Bool) (line : List Item) → times k (live_numbers line) ≡ 0 → AreTold t line → AreTold (λ n. (k == n) || t n) line
unfolding live_numbers
one_told_more k t [] apart told = tt
one_told_more k t (x ∷ xs) apart told = by_state (λ none. one_told_more k t xs none told.1) x.state apart told.0
  where
    differ : times k (x.n ∷ live_numbers xs) ≡ 0 → k ≡ x.n → ⊥
    differ none same = omega (arith, none, times_here k x.n (live_numbers xs) (sym same))

    less : times k (x.n ∷ live_numbers xs) ≡ 0 → times k (live_numbers xs) ≡ 0
    less none = omega (arith, none, times-cons k x.n (live_numbers xs))

    or_true : (b : Bool) → (b || true) ≡ true
    or_true true = refl
    or_true false = refl

    by_state : (times k (live_numbers xs) ≡ 0 → AreTold (λ n. (k == n) || t n) xs) → (s : ItemState) → times k (if is_blank_state s then live_numbers xs else x.n ∷ live_numbers xs) ≡ 0 → told_by t x.n s
        → told_by (λ n. (k == n) || t n) x.n s × AreTold (λ n. (k == n) || t n) xs
    by_state rest Waiting none is = (ap₂ (λ b c. b || c) (ne_eqb k x.n (differ none)) is, rest (less none))
    by_state rest (Served code) none is = (ap (λ c. (k == x.n) || c) is ∙ or_true (k == x.n), rest (less none))
    by_state rest Blank none is = (tt, rest none)

-- in a line whose numbers differ, and whose served stand before those that wait, each is told as it is
pub each_told : (line : List Item) → ServedFirst line → ((n : ℕ) → times n (live_numbers line) ≤ 1) → AreTold (λ n. list_any (is_finished n) (served_events line)) line
unfolding served_events live_numbers
each_told [] first few = tt
each_told (x ∷ xs) first few = by_state (each_told xs) x.state first few
  where
    told : List Event → ℕ → Bool
    told es n = list_any (is_finished n) es

    by_state : (ServedFirst xs → ((n : ℕ) → times n (live_numbers xs) ≤ 1) → AreTold (told (served_events xs)) xs) → (s : ItemState) → first_by s xs (ServedFirst xs) → ((n : ℕ) → times n (if is_blank_state s then live_numbers xs else x.n ∷ live_numbers xs) ≤ 1)
        → told_by (told (event_by x.n s (served_events xs))) x.n s × AreTold (told (event_by x.n s (served_events xs))) xs
    by_state rest Waiting none few = rw none (refl, none_told xs none)
    by_state rest (Served code) first few = (
      ap (λ b. b || list_any (is_finished x.n) (served_events xs)) (same_name x.n),
      one_told_more x.n (told (served_events xs)) xs (omega (arith, few x.n, times_here x.n x.n (live_numbers xs) refl)) (rest first (λ n. omega (arith, few n, times-cons n x.n (live_numbers xs)))),
    )
    by_state rest Blank first few = (tt, rest first few)

-- what was read of a line is, by what waits of the handle, what is left of it
pub line_by_events : (own : List Left) (h ep : ℕ) (t : ℕ → Bool) (line : List Item) → ((n : ℕ) → list_any (is_end_of ep n) own ≡ t n) → AreTold t line → map (by_events own) (line_read h ep line) ≡ transfers_left h ep line
line_by_events own h ep t [] tells told = refl
line_by_events own h ep t (x ∷ xs) tells told = by_state (line_by_events own h ep t xs tells told.1) x.state refl told.0
  where
    by_state : map (by_events own) (line_read h ep xs) ≡ transfers_left h ep xs → (s : ItemState) → x.state ≡ s → told_by t x.n s → map (by_events own) (line_read h ep (x ∷ xs)) ≡ transfers_left h ep (x ∷ xs)
    by_state rest Waiting is at = rw (is, tells x.n ∙ at) (ap (λ l. At h ep (Waits x.n) ∷ l) rest)
    by_state rest (Served code) is at = rw (is, tells x.n ∙ at) (ap (λ l. At h ep (HasEnded x.n) ∷ l) rest)
    by_state rest Blank is at = rw is rest

-- a number stands once at most in the line of an endpoint
pub stands_once : (setup : Setup) (w : World) (h ep n : ℕ) → IsReached setup w → times n (numbers_at (endpoint_at (machine_of setup h w) ep)) ≤ 1
stands_once setup w h ep n (steps, is) = rw is (by_order (cases_lt n (machine_of setup h v).handle.next_number))
  where
    v : World
    v = world_from setup (new_world setup) steps

    kept : KeepsPlaces setup steps h
    kept = keeps_places setup steps h

    given : InOnePlace n (machine_of setup h v) (numbers_called (entries setup steps h)) → times n (numbers_at (endpoint_at (machine_of setup h v) ep)) ≤ 1
    given one = by_home (one.home == ep) refl
      where
        by_home : (b : Bool) → (one.home == ep) ≡ b → times n (numbers_at (endpoint_at (machine_of setup h v) ep)) ≤ 1
        by_home true same = let at : ep ≡ one.home = sym (eqb-true one.home ep same) in rw at (omega (arith, one.once))
        by_home false other = omega (arith, one.nowhere_else ep other)

    by_order : (n < (machine_of setup h v).handle.next_number) ⊎ ((machine_of setup h v).handle.next_number ≤ n) → times n (numbers_at (endpoint_at (machine_of setup h v) ep)) ≤ 1
    by_order (inl low) = given (kept.given n low)
    by_order (inr high) = omega (arith, (kept.not_given n high).not_in_progress ep)
