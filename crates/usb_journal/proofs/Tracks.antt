-- The timers of a handle go with its transfers: over any step.
use Rattle.std.proofs.Common.{◌≡◌, ◌∙◌, ◌==◌, ◌++◌, ◌+◌, ◌<◌, ◌≤◌, ℕ, suc, Bool, true, false, List, [], ◌∷◌, Some, ap, append-nil, append_assoc, arith, inl, inr, map, refl, subst, sym, ◌⊎◌}
use Rattle.std.specs.Prelude.{◌&&◌, if◌then◌else◌}
use Rattle.std.specs.List.{AllByRecursion}
use Rattle.std.proofs.lemmas.Bool.{cases_lt, eqb-false, eqb-true}
use Rattle.std.proofs.lemmas.List.{map-append}
use Rattle.std.proofs.lemmas.Option.{same_Some}
use Rattle.usb_model.specs.declared.effect.Effect.{Effect}
use Rattle.usb_model.specs.declared.request.Request.{Request}
use Rattle.usb_model.specs.declared.result.InCallback.{InCallback}
use Rattle.usb_model.specs.declared.result.TransferResult.{TransferResult}
use Rattle.usb_model.specs.declared.step.Step.{Step}
use Rattle.usb_model.specs.Laws.Cut.{times}
use Rattle.usb_model.specs.Machine.Calls.{callback_of, without}
use Rattle.usb_model.specs.Machine.Turns.{machine_after}
use Rattle.usb_model.specs.Machine.{Machine}
use Rattle.usb_model.specs.Setup.{Setup}
use Rattle.usb_model.specs.World.{is_its}
use Rattle.usb_model.specs.World.Due.{Dated, below, given_at, is_number}
use Rattle.proof_model.proofs.Bounds.Runs.{OfCallback, callback_each}
use Rattle.proof_model.proofs.Machines.Deeds.{IsDone}
use Rattle.proof_model.proofs.Places.Placed.{IsPlaced, callback_numbers}
use Rattle.proof_model.proofs.Places.Runs.{IsKept}
use Rattle.proof_model.proofs.Lists.Parts.{each_append, each_weaker}
use Rattle.proof_model.proofs.Lists.Pieces.{same_name}
use Rattle.proof_model.proofs.Lists.Times.{each_apart, times-append, times-cons}
use Rattle.proof_model.proofs.Work.Lines.{result_numbers}
use Rattle.usb_journal.specs.declared.timer.Timer.{Timer}
use Rattle.usb_journal.proofs.Known.{Known, callbacks_after, known_weaker}
use Rattle.usb_journal.proofs.Owns.{Left, left_look, look}

-- the timeout of a transfer is found among all timers, now and later
abbrev pub HasTime : List Timer → ℕ → Request → ℕ → Type 0
HasTime all n request round = (more : List Timer) → look n (all ++ more) ≡ request.timeout

-- a timer says the timeout and the moment that its number has
pub record IsFound (h : ℕ) (all : List Timer) (book : List Dated) (t : Timer) : Type 0 where
  pub name : t.h ≡ h
  pub time : (more : List Timer) → look t.n (all ++ more) ≡ t.timeout
  pub moment : (more : List Dated) → given_at h t.n (book ++ more) ≡ t.given

-- its transfer was called back, and is in no callback any more
pub record IsOver (m : Machine) (called : List ℕ) (t : Timer) : Type 0 where
  pub was_called : 1 ≤ times t.n called
  pub no_callback : AllByRecursion (λ x. x.n ≡ t.n → ⊥) m.handle.in_callbacks

-- ts: the timers that are kept of handle h. All that were ever made are of its numbers, in order; what isn't kept is over
pub record Tracks (setup : Setup) (h : ℕ) (m : Machine) (ts : List Timer) (book : List Dated) : Type 0 where
  pub called : List ℕ
  pub kept : IsKept setup m called
  pub all : List Timer
  pub numbers : map (λ t. t.n) all ≡ below m.handle.next_number
  pub found : AllByRecursion (IsFound h all book) all
  pub new_time : (n : ℕ) (more : List Timer) → m.handle.next_number ≤ n → look n (all ++ more) ≡ look n more
  pub new_moment : (n : ℕ) (more : List Dated) → m.handle.next_number ≤ n → given_at h n (book ++ more) ≡ given_at h n more
  pub known : Known (HasTime all) m
  pub left : Left (IsOver m called) ts all

-- whether a place gives the handle this number
abbrev pub gives : ℕ → ℕ → Dated → Bool
gives h n x = is_its h x.place.entry.owner && is_number n x.place.entry.reply

-- nothing is said of anything
each_tt : {A : Type 0} (xs : List A) → AllByRecursion (λ x. Unit {0}) xs
each_tt [] = tt
each_tt (x ∷ xs) = (tt, each_tt xs)

-- a number that is in no list is none of it
none_of : {A : Type 0} (number : A → ℕ) (k : ℕ) (xs : List A) → times k (map number xs) ≡ 0 → AllByRecursion (λ x. number x ≡ k → ⊥) xs
none_of number k xs none = each_apart (λ x. Unit {0}) (λ x. number x ≡ k → ⊥) number k xs none (λ x differ _. differ) (each_tt xs)

-- a transfer that was called back has no result that waits
no_result : (m : Machine) (called : List ℕ) (k : ℕ) → IsPlaced m called → 1 ≤ times k called → times k (result_numbers m.results) ≡ 0
no_result m called k p some = by_order (cases_lt k m.handle.next_number)
  where
    by_order : (k < m.handle.next_number) ⊎ (m.handle.next_number ≤ k) → times k (result_numbers m.results) ≡ 0
    by_order (inl lt) = omega (arith, (p.given k lt).once, some)
    by_order (inr le) = absurd (omega (arith, (p.not_given k le).uncalled, some))

-- what is over stays over
pub over_after : (setup : Setup) (h : ℕ) (m : Machine) (step : Step) (done : Effect) (called more : List ℕ) → IsDone setup h m step done → IsPlaced m called → (t : Timer) → IsOver m called t → IsOver (machine_after setup m step done) (called ++ more) t
over_after setup h m step done called more is p t o = record {
  was_called = omega (arith, o.was_called, times-append t.n called more);
  no_callback = callbacks_after (λ n request round. n ≡ t.n → ⊥) setup h m step done is (none_of (λ (r : TransferResult). r.n) t.n m.results (no_result m called t.n p o.was_called)) o.no_callback;
}

-- the callback that is found has the number
found_number : (k : ℕ) (xs : List InCallback) (x : InCallback) → callback_of k xs ≡ Some x → x.n ≡ k
unfolding callback_of
found_number k [] x e = absurd cc
found_number k (y ∷ ys) x e = by_test (y.n == k) refl e (found_number k ys x)
  where
    by_test : (b : Bool) → (y.n == k) ≡ b → (if b then Some y else callback_of k ys) ≡ Some x → (callback_of k ys ≡ Some x → x.n ≡ k) → x.n ≡ k
    by_test true is q rest = ap (λ (z : InCallback). z.n) (sym (same_Some y x q)) ∙ eqb-true y.n k is
    by_test false is q rest = rest q

-- and is one of those in callbacks
found_times : (k : ℕ) (xs : List InCallback) (x : InCallback) → callback_of k xs ≡ Some x → 1 ≤ times k (callback_numbers xs)
unfolding callback_of
found_times k [] x e = absurd cc
found_times k (y ∷ ys) x e = by_test (y.n == k) refl e (found_times k ys x)
  where
    by_test : (b : Bool) → (y.n == k) ≡ b → (if b then Some y else callback_of k ys) ≡ Some x → (callback_of k ys ≡ Some x → 1 ≤ times k (callback_numbers ys)) → 1 ≤ times k (callback_numbers (y ∷ ys))
    by_test true is q rest = let one : ◌≡◌ {A = ℕ} (if y.n == k then 1 else 0) 1 = ap (λ (b : Bool). if b then 1 else 0) is in omega (arith, times-cons k y.n (callback_numbers ys), one)
    by_test false is q rest = omega (arith, rest q, times-cons k y.n (callback_numbers ys))

-- no callback of its number is left behind it
none_without : (k : ℕ) (xs : List InCallback) → AllByRecursion (λ x. x.n ≡ k → ⊥) (without k xs)
unfolding without
none_without k [] = tt
none_without k (x ∷ xs) = by_test (x.n == k) refl (none_without k xs)
  where
    by_test : (b : Bool) → (x.n == k) ≡ b → AllByRecursion (λ y. y.n ≡ k → ⊥) (without k xs) → AllByRecursion (λ y. y.n ≡ k → ⊥) (if b then without k xs else x ∷ without k xs)
    by_test true is rest = rest
    by_test false is rest = (eqb-false x.n k is, rest)

-- a transfer whose callback ended is over
pub stop_over : (m m' : Machine) (called more : List ℕ) (k : ℕ) (x : InCallback) → IsPlaced m called → callback_of k m.handle.in_callbacks ≡ Some x → m'.handle.in_callbacks ≡ without x.n m.handle.in_callbacks → (t : Timer) → (t.n == k) ≡ true → IsOver m' (called ++ more) t
stop_over m m' called more k x p found left t is = record {
  was_called = subst (λ n. 1 ≤ times n (called ++ more)) (sym same) (omega (arith, times-append k called more, was_called));
  no_callback = subst (AllByRecursion (λ y. y.n ≡ t.n → ⊥)) (sym left) (subst (λ n. AllByRecursion (λ y. y.n ≡ n → ⊥) (without x.n m.handle.in_callbacks)) (found_number k m.handle.in_callbacks x found ∙ sym same) (none_without x.n m.handle.in_callbacks));
}
  where
    same : t.n ≡ k
    same = eqb-true t.n k is

    by_order : (k < m.handle.next_number) ⊎ (m.handle.next_number ≤ k) → 1 ≤ times k called
    by_order (inl lt) = omega (arith, (p.given k lt).in_callback, found_times k m.handle.in_callbacks x found)
    by_order (inr le) = absurd (omega (arith, (p.not_given k le).in_no_callback, found_times k m.handle.in_callbacks x found))

    was_called : 1 ≤ times k called
    was_called = by_order (cases_lt k m.handle.next_number)

-- a timer that is found stays so
found_later : (h : ℕ) (all later : List Timer) (book after : List Dated) (t : Timer) → IsFound h all book t → IsFound h (all ++ later) (book ++ after) t
found_later h all later book after t f = record {
  name = f.name;
  time = λ more. ap (look t.n) (append_assoc all later more) ∙ f.time (later ++ more);
  moment = λ more. ap (given_at h t.n) (append_assoc book after more) ∙ f.moment (after ++ more);
}

-- a place that gives the handle nothing
given_past : (h n : ℕ) (x : Dated) (more : List Dated) → gives h n x ≡ false → given_at h n (x ∷ more) ≡ given_at h n more
given_past h n x more none = ap (λ (b : Bool). if b then x.moment else given_at h n more) none

module _ (setup : Setup) (h : ℕ) (m m' : Machine) (ts ts' : List Timer) (book : List Dated) (x : Dated) where
  -- a step that gives no number
  pub quiet : (t : Tracks setup h m ts book) (called : List ℕ) → IsKept setup m' called → m'.handle.next_number ≡ m.handle.next_number → Known (HasTime t.all) m' → Left (IsOver m' called) ts' t.all → ((n : ℕ) → gives h n x ≡ false) → Tracks setup h m' ts' (book ++ x ∷ [])
  quiet t called kept next known left none = record {
    called = called;
    kept = kept;
    all = t.all;
    numbers = t.numbers ∙ ap below (sym next);
    found = each_weaker (IsFound h t.all book) (IsFound h t.all (book ++ x ∷ [])) t.all (λ y f. record { name = f.name; time = f.time; moment = λ more. ap (given_at h y.n) (append_assoc book (x ∷ []) more) ∙ f.moment (x ∷ more) }) t.found;
    new_time = λ n more le. t.new_time n more (omega (arith, le, next));
    new_moment = λ n more le. ap (given_at h n) (append_assoc book (x ∷ []) more) ∙ (t.new_moment n (x ∷ more) (omega (arith, le, next)) ∙ given_past h n x more (none n));
    known = known;
    left = left;
  }

  -- a step that gives the next number, with this timer
  pub given : (t : Tracks setup h m ts book) (called : List ℕ) (y : Timer) → IsKept setup m' called → m'.handle.next_number ≡ m.handle.next_number + 1 → y.h ≡ h → y.n ≡ m.handle.next_number → y.given ≡ x.moment → Known (HasTime (t.all ++ y ∷ [])) m'
      → Left (IsOver m' called) ts' (t.all ++ y ∷ []) → ((n : ℕ) → gives h n x ≡ (m.handle.next_number == n)) → Tracks setup h m' ts' (book ++ x ∷ [])
  given t called y kept next name number moment known left its = record {
    called = called;
    kept = kept;
    all = all;
    numbers = map-append (λ (z : Timer). z.n) t.all (y ∷ []) ∙ (ap (λ l. l ++ y.n ∷ []) t.numbers ∙ (ap (λ k. below m.handle.next_number ++ k ∷ []) number ∙ ap below (let same : suc m.handle.next_number ≡ m'.handle.next_number = omega (arith, next) in same)));
    found = each_append (IsFound h all (book ++ x ∷ [])) t.all (y ∷ []) (each_weaker (IsFound h t.all book) (IsFound h all (book ++ x ∷ [])) t.all (λ z f. found_later h t.all (y ∷ []) book (x ∷ []) z f) t.found) (new, tt);
    new_time = λ n more le. ap (look n) (append_assoc t.all (y ∷ []) more) ∙ (t.new_time n (y ∷ more) (omega (arith, le, next)) ∙ ap (λ (b : Bool). if b then y.timeout else look n more) (ap (λ k. k == n) number ∙ apart n (omega (arith, le, next))));
    new_moment = λ n more le. ap (given_at h n) (append_assoc book (x ∷ []) more) ∙ (t.new_moment n (x ∷ more) (omega (arith, le, next)) ∙ given_past h n x more (its n ∙ apart n (omega (arith, le, next))));
    known = known;
    left = left;
  }
    where
      all : List Timer
      all = t.all ++ y ∷ []

      apart : (n : ℕ) → m.handle.next_number < n → (m.handle.next_number == n) ≡ false
      apart n lt = by_test (m.handle.next_number == n) refl
        where
          by_test : (b : Bool) → (m.handle.next_number == n) ≡ b → b ≡ false
          by_test true is = absurd (omega (arith, lt, eqb-true m.handle.next_number n is))
          by_test false is = refl

      here : (y.n == m.handle.next_number) ≡ true
      here = ap (λ k. k == m.handle.next_number) number ∙ same_name m.handle.next_number

      new : IsFound h all (book ++ x ∷ []) y
      new = record {
        name = name;
        time = λ more. subst (λ n. look n (all ++ more) ≡ y.timeout) (sym number)
            (ap (look m.handle.next_number) (append_assoc t.all (y ∷ []) more) ∙ (t.new_time m.handle.next_number (y ∷ more) (omega arith) ∙ ap (λ (b : Bool). if b then y.timeout else look m.handle.next_number more) here));
        moment = λ more. subst (λ n. given_at h n ((book ++ x ∷ []) ++ more) ≡ y.given) (sym number)
            (ap (given_at h m.handle.next_number) (append_assoc book (x ∷ []) more) ∙ (t.new_moment m.handle.next_number (x ∷ more) (omega arith) ∙ (ap (λ (b : Bool). if b then x.moment else given_at h m.handle.next_number more) (its m.handle.next_number ∙ same_name m.handle.next_number) ∙ sym moment)));
      }

-- the timeout that is kept of a transfer in its callback is its own
pub callback_time : (setup : Setup) (h : ℕ) (m : Machine) (ts : List Timer) (book : List Dated) (t : Tracks setup h m ts book) (k : ℕ) (x : InCallback) → callback_of k m.handle.in_callbacks ≡ Some x → look k ts ≡ x.request.timeout
callback_time setup h m ts book t k x found =
    left_look k (λ y o. apart y o) t.left ∙ (ap (look k) (sym (append-nil t.all)) ∙ subst (λ n. look n (t.all ++ []) ≡ x.request.timeout) (found_number k m.handle.in_callbacks x found) (callback_each (OfCallback (HasTime t.all)) k m.handle.in_callbacks x t.known.in_callbacks found []))
  where
    apart : (y : Timer) → IsOver m t.called y → (y.n == k) ≡ false
    apart y o = by_test (y.n == k) refl
      where
        by_test : (b : Bool) → (y.n == k) ≡ b → b ≡ false
        by_test true is = absurd (callback_each (λ z. z.n ≡ y.n → ⊥) k m.handle.in_callbacks x o.no_callback found (found_number k m.handle.in_callbacks x found ∙ sym (eqb-true y.n k is)))
        by_test false is = refl

-- timeouts stay known
pub times_later : (all : List Timer) (y : Timer) (m : Machine) → Known (HasTime all) m → Known (HasTime (all ++ y ∷ [])) m
times_later all y m = known_weaker (HasTime all) (HasTime (all ++ y ∷ [])) m (λ n request round p more. ap (look n) (append_assoc all (y ∷ []) more) ∙ p (y ∷ more))

-- a submission's timer has its timeout
pub new_has_time : (setup : Setup) (h : ℕ) (m : Machine) (ts : List Timer) (book : List Dated) (t : Tracks setup h m ts book) (y : Timer) (request : Request) (round : ℕ) → y.n ≡ m.handle.next_number → y.timeout ≡ request.timeout → HasTime (t.all ++ y ∷ []) m.handle.next_number request round
new_has_time setup h m ts book t y request round number time more =
    ap (look m.handle.next_number) (append_assoc t.all (y ∷ []) more) ∙ (t.new_time m.handle.next_number (y ∷ more) (omega arith)
    ∙ (ap (λ (b : Bool). if b then y.timeout else look m.handle.next_number more) (ap (λ k. k == m.handle.next_number) number ∙ same_name m.handle.next_number) ∙ time))
