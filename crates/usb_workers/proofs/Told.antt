-- How the workers' calls are told of: a step, a resubmission, a result that is taken out.
use Rattle.std.proofs.Common.{◌≡◌, ◌<◌, ◌≤◌, ◌^◌, ◌+◌, ◌++◌, ◌∷◌, [], List, drop, get_or, length, map, ℕ, zero, suc, arith, Bool, true, false, Option, Some, None, Result, Ok, Err, refl, ap, sym, ◌∙◌, subst, inl, inr}
use Rattle.std.specs.Prelude.{◌⊎◌, IfErr, IfOk, IfSome, OnErr, if◌then◌else◌, is_err, is_ok, replicate}
use Rattle.usb_model.specs.declared.entry.Entry.{Entry}
use Rattle.usb_model.specs.declared.reply.Returned.{Returned}
use Rattle.usb_model.specs.declared.step.Step.{Step}
use Rattle.usb_model.specs.declared.step.Step.TheVariants.{Answer, Deliver, Serve, Take}
use Rattle.usb_model.specs.declared.verdict.Verdict.{Verdict}
use Rattle.usb_model.specs.declared.verdict.Verdict.TheVariants.{Stop}
use Rattle.usb_model.specs.declared.verdict.Rule.{Rule}
use Rattle.usb_model.specs.Numbers.{is_stop}
use Rattle.usb_model.specs.Setup.{Setup}
use Rattle.usb_core.specs.Callbacks.{Fits}
use Rattle.usb_core.specs.Public.{called_entry, does_something}
use Rattle.usb_core.specs.declared.results.Taken.{Taken}
use Rattle.usb_core.specs.declared.submission.SubmitError.{SubmitError}
use Rattle.usb_journal.specs.declared.rows.Outgoing.{Outgoing}
use Rattle.usb_journal.specs.declared.rows.Row.{Row}
use Rattle.usb_journal.specs.Booked.{answer_entry, world_where}
use Rattle.usb_journal.specs.Seen.{Receipted}
use Rattle.usb_library.specs.Calls.{Calling, Makes, MakesRow, misses, row_entries}
use Rattle.refine_core.proofs.Counts.{count_append, count_one}
use Rattle.std.proofs.Math.Seq.{drop-append_seam}
use Rattle.usb_recorder.specs.declared.place.Place.{Place}
use Rattle.usb_journal.specs.Booked.{entries_of}
use Rattle.usb_workers.specs.Rounds.{AreCounted, DeliversIf, DeliversRow, Does, Ends, MayAnswer, Resubmits, ServesRow, Takes, Tells, TellsAll, called_in, is_accepted, is_called, missed_by}
use Rattle.usb_workers.specs.Rounds as R

-- memory wasn't refused yet
pub not_missed : (c : Calling) → c ≡ missed_by 0 c
unfolding missed_by
not_missed c = refl

-- the entries of results that go out
called_returned : {P : Type 0} (taken : List (Taken P)) → map (λ t. called_entry (Some t.returned)) taken ≡ map (λ x. called_entry (Some x)) (map (λ t. t.returned) taken)
called_returned [] = refl
called_returned (t ∷ ts) = ap (λ l. called_entry (Some t.returned) ∷ l) (called_returned ts)

-- what holds of a callback holds of it as it comes back
pub same_holds : {C : Type 0} (P : C → Type 0) (c : C) (back : Option C) → IfSome back (λ d. d ≡ c) → P c → IfSome back P
same_holds P c None same holds = tt
same_holds P c (Some d) same holds = subst P (sym same) holds

-- a verdict that is what was answered, or Stop, is Stop where Stop was answered
pub stops_too : {A : Type 0} (v answered : Verdict) → (v ≡ answered) ⊎ ((v ≡ Stop) × A) → answered ≡ Stop → v ≡ Stop
stops_too v answered (inl same) stop = same ∙ stop
stops_too v answered (inr over) stop = over.0

-- what a callback answers may be told, or Stop where more were called than may answer as they like
pub may_be_told : {C : Type 0} (rounds : ℕ) (suits : C → ℕ → Type 0) (may : C → Returned → Verdict → Type 0) (rule : C → Rule) (old : Calling) (x : Returned) (callback : C) (v answered : Verdict) → suits callback x.h → may callback x answered
    → Fits (rule callback) x answered → (called : ℕ) → called < called_in old.own → (v ≡ answered) ⊎ ((v ≡ Stop) × (rounds ≤ called)) → MayAnswer rounds suits may rule old x v
may_be_told rounds suits may rule old x callback v answered its answers fits called more (inl same) = inl (callback, its, subst (may callback x) (sym same) answers, subst (Fits (rule callback) x) (sym same) fits)
may_be_told rounds suits may rule old x callback v answered its answers fits called more (inr over) = inr (over.0, omega (arith, over.1, more))

module _ (setup : Setup) where
  -- a step is made, or memory is refused to it
  pub does_either : {X E : Type 0} (step : Step) (old new : Calling) (x : Result X E) (receipt : X → Receipted)
      → IfOk x (λ a. Makes setup step old new (receipt a)) → OnErr x (new ≡ misses old) → Does setup step old new
  does_either step old new (Ok a) receipt m e = R.Does.made (receipt a) m
  does_either step old new (Err x) receipt m e = R.Does.missed e

  accepted_is : {G P : Type 0} (h : ℕ) (x : Result ℕ (SubmitError G P)) (r : Receipted) → r.entry.entry ≡ answer_entry h x → (left : Bool) → left ≡ is_err x → (left ≡ false → is_accepted r.entry.entry.reply ≡ true) × (left ≡ true → is_accepted r.entry.entry.reply ≡ false)
  accepted_is h (Ok n) r e left l = (λ _. ap (λ (y : Entry). is_accepted y.reply) e, λ t. absurd (cc))
  accepted_is h (Err u) r e left l = (λ f. absurd (cc), λ _. ap (λ (y : Entry). is_accepted y.reply) e)

  by_left : (h n : ℕ) (v : Verdict) (old new : Calling) (r : Receipted) (left : Bool) → is_stop v ≡ false → Makes setup (Answer h n v) old new r
      → (left ≡ false → is_accepted r.entry.entry.reply ≡ true) × (left ≡ true → is_accepted r.entry.entry.reply ≡ false) → Resubmits setup h n v left old new
  by_left h n v old new r true asks m a = R.Resubmits.refused asks refl r m (a.1 refl)
  by_left h n v old new r false asks m a = R.Resubmits.accepted asks refl r m (a.0 refl)

  -- a resubmission has its place, or memory is refused to it
  pub resubmits_either : {X E G P : Type 0} (h n : ℕ) (v : Verdict) (old new : Calling) (x : Result X E) (receipt : X → Receipted) (number : X → Result ℕ (SubmitError G P)) (back : E → Type 0) (left : Bool) → is_stop v ≡ false
      → IfOk x (λ a. Makes setup (Answer h n v) old new (receipt a)) → IfOk x (λ a. (receipt a).entry.entry ≡ answer_entry h (number a)) → IfErr x back → ((e : E) → back e → new ≡ misses old)
      → IfOk x (λ a. left ≡ is_err (number a)) → OnErr x (left ≡ true) → Resubmits setup h n v left old new
  resubmits_either h n v old new (Ok a) receipt number back left asks m entry missed pick known lacked = by_left h n v old new (receipt a) left asks m (accepted_is h (number a) (receipt a) entry left known)
  resubmits_either h n v old new (Err x) receipt number back left asks m entry missed pick known lacked = R.Resubmits.missed asks lacked (pick x missed)

  -- the end is told, after so many refusals of memory
  pub ends_told : {X E : Type 0} (h n k : ℕ) (old mid new : Calling) (x : Result X E) (receipt : X → Receipted) → mid ≡ missed_by k old → IfOk x (λ a. Makes setup (Answer h n Stop) mid new (receipt a)) → is_ok x ≡ true → Ends setup h n old new
  ends_told h n k old mid new (Ok a) receipt is m t = R.Ends.told k (receipt a) (subst (λ c. Makes setup (Answer h n Stop) c new (receipt a)) is m)
  ends_told h n k old mid new (Err e) receipt is m t = absurd (cc)

  -- or memory is refused once more
  pub once_more : {X E : Type 0} (k : ℕ) (old mid new : Calling) (x : Result X E) → mid ≡ missed_by k old → OnErr x (new ≡ misses mid) → is_ok x ≡ false → new ≡ missed_by (suc k) old
  unfolding missed_by
  once_more k old mid new (Ok a) is m t = absurd (cc)
  once_more k old mid new (Err e) is m t = m ∙ ap misses is

  -- packets in a row are made, or memory is refused
  pub serves_either : {E : Type 0} (dev ep most : ℕ) (old new : Calling) (x : Result Row E) → IfOk x (λ row. MakesRow setup (replicate row.count (Serve dev ep)) old row new) → IfOk x (λ row. (0 < row.count) × (row.count ≤ most)) → OnErr x (new ≡ misses old)
      → ServesRow setup dev ep old new
  serves_either dev ep most old new (Ok row) m some e = R.ServesRow.made row some.0 m
  serves_either dev ep most old new (Err x) m some e = R.ServesRow.missed e

  -- events in a row are handled, of which at least one was wanted; or memory is refused
  pub delivers_either : {E : Type 0} (most : ℕ) (old new : Calling) (x : Result Row E) → 0 < most → IfOk x (λ row. MakesRow setup (replicate row.count Deliver) old row new)
      → IfOk x (λ row. row.count < most → does_something setup (world_where setup new.seen) Deliver ≡ false) → OnErr x (new ≡ misses old) → DeliversRow setup old new
  delivers_either most old new (Ok row) some m ends e = R.DeliversRow.made row (λ none. ends (omega (arith, none, some))) m
  delivers_either most old new (Err x) some m ends e = R.DeliversRow.missed e

  -- where no result is in a row none waits: that memory was refused behind it is only told of a row of some
  none_waits : (most : ℕ) (new : Calling) (x : Outgoing) → 0 < most → (x.lacked ≡ false → x.row.count < most → does_something setup (world_where setup new.seen) Take ≡ false)
      → (x.lacked ≡ true → (0 < x.row.count) × (x.row.count < most) × (does_something setup (world_where setup new.seen) Take ≡ true)) → x.row.count ≡ 0 → does_something setup (world_where setup new.seen) Take ≡ false
  none_waits most new x some ends lacks none = by_lacked x.lacked refl
    where
      by_lacked : (lacked : Bool) → x.lacked ≡ lacked → does_something setup (world_where setup new.seen) Take ≡ false
      by_lacked false is = ends is (omega (arith, none, some))
      by_lacked true is = absurd (omega (arith, none, (lacks is).0))

  -- the oldest results go out in a row, of which at least one was wanted; or memory is refused to the first
  pub takes_either : {E P : Type 0} (most : ℕ) (old new : Calling) (taken : List (Taken P)) (x : Result Outgoing E) → 0 < most → IfOk x (λ o. MakesRow setup (replicate o.row.count Take) old o.row new)
      → IfOk x (λ o. row_entries o.row new ≡ map (λ t. called_entry (Some t.returned)) taken) → IfOk x (λ o. o.lacked ≡ false → o.row.count < most → does_something setup (world_where setup new.seen) Take ≡ false)
      → IfOk x (λ o. o.lacked ≡ true → (0 < o.row.count) × (o.row.count < most) × (does_something setup (world_where setup new.seen) Take ≡ true)) → OnErr x ((new ≡ misses old) × (taken ≡ [])) → Takes setup (map (λ t. t.returned) taken) old new
  takes_either most old new taken (Ok o) some m entries ends lacks e = R.Takes.out o.row (none_waits most new o some ends lacks) m (entries ∙ called_returned taken)
  takes_either most old new taken (Err x) some m entries ends lacks e = R.Takes.missed (ap (map (λ t. t.returned)) e.1) e.0

  -- one verdict more is told
  pub tells_more : (may : Calling → Returned → Verdict → Type 0) (xs : List Returned) (x : Returned) (v : Verdict) (old mid new : Calling) → TellsAll setup may xs old mid → may mid x v → Tells setup x.h x.n v mid new → TellsAll setup may (xs ++ x ∷ []) old new
  tells_more may [] x v old mid new all fits tells = (new, v, subst (λ c. may c x v) all fits, subst (λ c. Tells setup x.h x.n v c new) all tells, refl)
  tells_more may (y ∷ ys) x v old mid new all fits tells = (all.0, all.1, all.2, all.3, tells_more may ys x v all.0 mid new all.4 fits tells)

  -- a resubmission leaves what is counted counted
  pub still_counted : (refused h n : ℕ) (v : Verdict) (left : Bool) (old new : Calling) → Resubmits setup h n v left old new → AreCounted refused old → AreCounted refused new
  still_counted refused h n v left old new (R.Resubmits.asks_none stop it is) counted = (omega (arith, ap (λ (c : Calling). c.missed) is, counted.0), counted.1)
  still_counted refused h n v left old new (R.Resubmits.accepted goes it r makes is) counted = (omega (arith, makes.missed, counted.0), counted.1)
  still_counted refused h n v left old new (R.Resubmits.refused goes it r makes is) counted = (omega (arith, makes.missed, counted.0), counted.1)
  still_counted refused h n v left old new (R.Resubmits.missed goes it is) counted = (omega (arith, ap (λ (c : Calling). c.missed) is, counted.0, counted.1), counted.1)

-- a caller to whom memory was refused has the places that it had
missed_own : (k : ℕ) (c : Calling) → (missed_by k c).own ≡ c.own
unfolding missed_by
missed_own zero c = refl
missed_own (suc k) c = missed_own k c

-- with more places of its own no fewer callbacks were told something
more_called : (own places all : List Place) → all ≡ own ++ places → called_in all ≡ called_in own + called_in places
more_called own places all is = ap called_in is ∙ count_append (λ p. is_called p.entry.reply) own places

-- as many as results that go out
all_called : (places : List Place) (given : List Returned) → entries_of places ≡ map (λ x. called_entry (Some x)) given → called_in places ≡ length given
all_called [] [] is = refl
all_called (p ∷ ps) (x ∷ xs) is =
    let told : is_called p.entry.reply ≡ true = ap (λ (es : List Entry). is_called (get_or es 0 p.entry).reply) is in
    let one : called_in (p ∷ []) ≡ 1 = count_one (λ q. is_called q.entry.reply) p ∙ ap (λ (b : Bool). if b then 1 else 0) told in
    let both : called_in (p ∷ ps) ≡ called_in (p ∷ []) + called_in ps = count_append (λ q. is_called q.entry.reply) (p ∷ []) ps in
    omega (arith, both, one, all_called ps xs (ap (drop 1) is))
all_called [] (x ∷ xs) is = absurd cc
all_called (p ∷ ps) [] is = absurd cc

module _ (setup : Setup) where
  made_called : (step : Step) (old new : Calling) (r : Receipted) → Makes setup step old new r → called_in old.own ≤ called_in new.own
  made_called step old new r makes = omega (arith, more_called old.own (r.entry ∷ []) new.own makes.own)

  row_called : (steps : List Step) (row : Row) (old new : Calling) → MakesRow setup steps old row new → called_in old.own ≤ called_in new.own
  row_called steps row old new makes = omega (arith, more_called old.own makes.places new.own makes.own)

  ends_called : (h n : ℕ) (old new : Calling) → Ends setup h n old new → called_in old.own ≤ called_in new.own
  ends_called h n old new (R.Ends.told k r makes) = omega (arith, made_called (Answer h n Stop) (missed_by k old) new r makes, ap called_in (missed_own k old))
  ends_called h n old new (R.Ends.given_up k is many) = omega (arith, ap called_in (ap (λ (c : Calling). c.own) is ∙ missed_own (suc k) old))

  resubmits_called : (h n : ℕ) (v : Verdict) (left : Bool) (old new : Calling) → Resubmits setup h n v left old new → called_in old.own ≤ called_in new.own
  resubmits_called h n v left old new (R.Resubmits.asks_none stop it is) = omega (arith, ap (λ (c : Calling). called_in c.own) is)
  resubmits_called h n v left old new (R.Resubmits.accepted goes it r makes is) = made_called (Answer h n v) old new r makes
  resubmits_called h n v left old new (R.Resubmits.refused goes it r makes is) = made_called (Answer h n v) old new r makes
  resubmits_called h n v left old new (R.Resubmits.missed goes it is) = omega (arith, ap (λ (c : Calling). called_in c.own) is)

  -- where a verdict is told as many callbacks were told something as before
  pub tells_called : (h n : ℕ) (v : Verdict) (old new : Calling) → Tells setup h n v old new → called_in old.own ≤ called_in new.own
  tells_called h n v old new (R.Tells.goes_on re) = resubmits_called h n v false old new re
  tells_called h n v old new (R.Tells.ends between re end) = omega (arith, resubmits_called h n v true old between re, ends_called h n between new end)

  -- and where events are handled
  pub delivers_called : (b : Bool) (old new : Calling) → DeliversIf setup b old new → called_in old.own ≤ called_in new.own
  delivers_called true old new (R.DeliversRow.made row none makes) = row_called (replicate row.count Deliver) row old new makes
  delivers_called true old new (R.DeliversRow.missed is) = omega (arith, ap (λ (c : Calling). called_in c.own) is)
  delivers_called false old new is = omega (arith, ap (λ (c : Calling). called_in c.own) is)

  -- where results go out it is one more for each
  pub takes_called : (given : List Returned) (old new : Calling) → Takes setup given old new → called_in old.own + length given ≤ called_in new.own
  takes_called given old new (R.Takes.out row none makes entries) =
      let behind : drop row.first new.seen ≡ makes.places = ap (drop row.first) makes.saw ∙ (ap (λ n. drop n (makes.before ++ makes.places)) makes.first ∙ drop-append_seam makes.before makes.places) in
      omega (arith, more_called old.own makes.places new.own makes.own, all_called makes.places given (ap entries_of (sym behind) ∙ entries))
  takes_called given old new (R.Takes.missed none is) = omega (arith, ap (λ (c : Calling). called_in c.own) is, ap length none)

-- one more refusal is counted
pub once_counted : {X E : Type 0} (refused more : ℕ) (old new : Calling) (x : Result X E) → OnErr x (new ≡ misses old) → is_ok x ≡ false → (more ≤ refused + 1) × (more < 2 ^ 32) → AreCounted refused old → AreCounted more new
once_counted refused more old new (Ok a) is none few counted = absurd (cc)
once_counted refused more old new (Err e) is none few counted = (omega (arith, ap (λ (c : Calling). c.missed) is, counted.0, few.0, few.1), few.1)
