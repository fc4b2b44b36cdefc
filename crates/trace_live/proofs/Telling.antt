-- What the worker that handles events tells, place by place: each verdict may be told behind the places before it.
use Rattle.std.proofs.Common.{◌≡◌, ◌≤◌, ◌<◌, ◌+◌, ℕ, zero, suc, Bool, true, false, true≢false, ◌⊎◌, inl, inr, List, [], ◌∷◌, ◌++◌, map, drop, get_or, cond, slice_get, Some, refl, sym, ap, subst, ◌∙◌, append_assoc, append-nil, arith}
use Rattle.std.specs.Prelude.{replicate}
use Rattle.std.proofs.Math.Seq.{drop-append_seam}
use Rattle.std.proofs.lemmas.List.Sums.{sum_by-append}
use Rattle.usb_model.specs.declared.entry.Entry.{Entry}
use Rattle.usb_model.specs.declared.reply.Reply.TheVariants.{Called}
use Rattle.usb_model.specs.declared.reply.Returned.{Returned}
use Rattle.usb_model.specs.declared.step.Step.{Step}
use Rattle.usb_model.specs.declared.step.Step.TheVariants.{Answer, Deliver, Take}
use Rattle.usb_model.specs.declared.verdict.Rule.{Rule}
use Rattle.usb_model.specs.declared.verdict.Verdict.{Verdict}
use Rattle.usb_model.specs.declared.verdict.Verdict.TheVariants.{Stop}
use Rattle.usb_model.specs.Numbers.{is_stop}
use Rattle.usb_model.specs.Setup.{Setup}
use Rattle.usb_model.specs.World.Plans.{verdict_of}
use Rattle.usb_core.specs.Public.{called_entry}
use Rattle.usb_journal.specs.declared.events.Events.{Events}
use Rattle.usb_recorder.specs.declared.place.Place.{Place}
use Rattle.usb_journal.specs.declared.rows.Row.{Row}
use Rattle.usb_journal.specs.Booked.{Asked, asked, entries_of, steps_of}
use Rattle.usb_journal.specs.Seen.{Receipted}
use Rattle.usb_library.specs.Calls.{Calling, Makes, MakesRow, misses}
use Rattle.usb_workers.specs.Rounds.{CallsBackAll, CallsBackIf, DeliversIf, DeliversRow, Ends, Handles, Resubmits, Rounds, Takes, Tells, TellsAll, called_in, is_accepted, is_called, missed_by}
use Rattle.usb_workers.specs.Rounds as R
use Rattle.trace_threads.specs.Verdicts.{IsRuleOf}
use Rattle.trace_live.proofs.Workers.{asked_steps, is_answer, steps_asked}

-- a place is among these
abbrev pub IsIn : Place → List Place → Type 0
IsIn q ps = (i : ℕ) × (slice_get ps i ≡ Some q)

at_left : (q : Place) (xs ys : List Place) (i : ℕ) → slice_get xs i ≡ Some q → slice_get (xs ++ ys) i ≡ Some q
at_left q [] ys i e = absurd cc
at_left q (x ∷ xs) ys zero e = e
at_left q (x ∷ xs) ys (suc i) e = at_left q xs ys i e

in_left : (q : Place) (xs ys : List Place) → IsIn q xs → IsIn q (xs ++ ys)
in_left q xs ys is = (is.0, at_left q xs ys is.0 is.1)

in_right : (q : Place) (xs ys : List Place) → IsIn q ys → IsIn q (xs ++ ys)
in_right q [] ys is = is
in_right q (x ∷ xs) ys is = let there = in_right q xs ys is in (suc there.0, there.1)

in_either : (q : Place) (xs ys : List Place) (i : ℕ) → slice_get (xs ++ ys) i ≡ Some q → IsIn q xs ⊎ IsIn q ys
in_either q [] ys i e = inr (i, e)
in_either q (x ∷ xs) ys zero e = inl (zero, e)
in_either q (x ∷ xs) ys (suc i) e = further (in_either q xs ys i e)
  where
    further : IsIn q xs ⊎ IsIn q ys → IsIn q (x ∷ xs) ⊎ IsIn q ys
    further (inl is) = inl (suc is.0, is.1)
    further (inr is) = inr is

-- all of these places are among others, and as many of the others told a callback something
pub record Grows (few many : List Place) : Type 0 where
  pub members : (q : Place) → IsIn q few → IsIn q many
  pub called : called_in few ≤ called_in many

pub grows_none : Grows [] []
grows_none = record { members = λ q is. is; called = omega arith }

called_on : (xs ys : List Place) → called_in (xs ++ ys) ≡ called_in xs + called_in ys
called_on xs ys = sum_by-append (λ (p : Place). cond (is_called p.entry.reply) 1 0) xs ys

-- with one more on both sides, or on one
pub grows_both : (few many : List Place) (p : Place) → Grows few many → Grows (few ++ p ∷ []) (many ++ p ∷ [])
grows_both few many p grows = record {
  members = λ q is. further q (in_either q few (p ∷ []) is.0 is.1);
  called = let a = called_on few (p ∷ []) in let b = called_on many (p ∷ []) in omega (arith, a, b, grows.called);
}
  where
    further : (q : Place) → IsIn q few ⊎ IsIn q (p ∷ []) → IsIn q (many ++ p ∷ [])
    further q (inl is) = in_left q many (p ∷ []) (grows.members q is)
    further q (inr is) = in_right q many (p ∷ []) is

pub grows_right : (few many : List Place) (p : Place) → Grows few many → Grows few (many ++ p ∷ [])
grows_right few many p grows = record {
  members = λ q is. in_left q many (p ∷ []) (grows.members q is);
  called = let b = called_on many (p ∷ []) in omega (arith, b, grows.called);
}

-- a callback was told this at one of these places
abbrev pub Was : List Place → Returned → Type 0
Was ps r = (q : Place) × IsIn q ps × (q.entry.reply ≡ Called r)

pub same_head : {A : Type 0} (x y : A) (xs ys : List A) → x ∷ xs ≡ y ∷ ys → x ≡ y
same_head x y xs ys e = ap (λ l. get_or l 0 x) e

pub same_tail : {A : Type 0} (x y : A) (xs ys : List A) → x ∷ xs ≡ y ∷ ys → xs ≡ ys
same_tail x y xs ys e = ap (λ l. drop 1 l) e

-- given: the submissions' rules; rounds: how many callbacks may answer as they like
module _ (given : List (ℕ × Rule)) (rounds : ℕ) where
  -- why a verdict may be told behind these places
  pub data May (ps : List Place) (r : Returned) (v : Verdict) : Type 0 where
    by_rule : (rule : Rule) → IsRuleOf given r.h rule → v ≡ verdict_of rule r.status r.round → May ps r v
    over : v ≡ Stop → rounds < called_in ps → May ps r v
    refused : v ≡ Stop → (q : Place) (w : Verdict) → IsIn q ps → q.step ≡ Answer r.h r.n w → is_stop w ≡ false → is_accepted q.entry.reply ≡ false → May ps r v

  -- so may that of a transfer whose callback was told something at one of them
  pub record Allowed (ps : List Place) (h n : ℕ) (v : Verdict) : Type 0 where
    pub told : Returned
    pub handle : told.h ≡ h
    pub number : told.n ≡ n
    pub was : Was ps told
    pub may : May ps told v

  may_on : (few many : List Place) (r : Returned) (v : Verdict) → Grows few many → May few r v → May many r v
  may_on few many r v grows (May.by_rule rule is e) = May.by_rule rule is e
  may_on few many r v grows (May.over e more) = May.over e (let called = grows.called in omega (arith, more, called))
  may_on few many r v grows (May.refused e q w is step goes turned) = May.refused e q w (grows.members q is) step goes turned

  pub allowed_on : (few many : List Place) (h n : ℕ) (v : Verdict) → Grows few many → Allowed few h n v → Allowed many h n v
  allowed_on few many h n v grows a = record {
    told = a.told;
    handle = a.handle;
    number = a.number;
    was = (a.was.0, grows.members a.was.0 a.was.1, a.was.2);
    may = may_on few many a.told v grows a.may;
  }

  -- if a step tells a verdict, it may be told behind these places
  abbrev pub MayStand : List Place → Step → Type 0
  MayStand ps step = (h n : ℕ) (v : Verdict) → step ≡ Answer h n v → Allowed ps h n v

  -- so may each of these, behind those before it
  abbrev pub AllStand : List Place → List Place → Type 0
  AllStand before [] = Unit {0}
  AllStand before (p ∷ ps) = MayStand before p.step × AllStand (before ++ p ∷ []) ps

  all_on : (before xs ys : List Place) → AllStand before xs → AllStand (before ++ xs) ys → AllStand before (xs ++ ys)
  all_on before [] ys a b = subst (λ l. AllStand l ys) (append-nil before) b
  all_on before (x ∷ xs) ys a b = (a.0, all_on (before ++ x ∷ []) xs ys a.1 (subst (λ l. AllStand l ys) (sym (append_assoc before (x ∷ []) xs)) b))

  -- a step that tells none
  pub stands_silent : (ps : List Place) (step : Step) → is_answer step ≡ false → MayStand ps step
  stands_silent ps step none h n v is = absurd (true≢false (ap is_answer (sym is) ∙ none))

  -- many of it
  all_silent : (before ps : List Place) (count : ℕ) (step : Step) → is_answer step ≡ false → steps_of ps ≡ replicate count step → AllStand before ps
  all_silent before [] count step none e = tt
  all_silent before (p ∷ ps) zero step none e = absurd cc
  all_silent before (p ∷ ps) (suc k) step none e = (
    stands_silent before p.step (ap is_answer (same_head p.step step (steps_of ps) (replicate k step) e) ∙ none),
    all_silent (before ++ p ∷ []) ps k step none (same_tail p.step step (steps_of ps) (replicate k step) e),
  )

  -- what is allowed for one step stands for it
  allowed_if : List Place → Step → Type 0
  allowed_if ps (Answer h n v) = Allowed ps h n v
  allowed_if ps step = Unit {0}

  stands : (ps : List Place) (g m : ℕ) (w : Verdict) → Allowed ps g m w → MayStand ps (Answer g m w)
  unfolding allowed_if
  stands ps g m w a h n v e = subst (allowed_if ps) e a

  -- places of a caller that it had already, and no memory was refused to it before
  pub record Goes (old new : Calling) : Type 0 where
    pub clean : old.missed ≡ 0
    pub kept : (q : Place) → IsIn q old.own → IsIn q new.own
    pub stand : AllStand [] old.own → AllStand [] new.own

  goes_on : (a b c : Calling) → Goes a b → Goes b c → Goes a c
  goes_on a b c first second = record {
    clean = first.clean;
    kept = λ q is. second.kept q (first.kept q is);
    stand = λ s. second.stand (first.stand s);
  }

  goes_same : (old new : Calling) → new.own ≡ old.own → new.missed ≡ old.missed → new.missed ≡ 0 → Goes old new
  goes_same old new own missed clean = record {
    clean = sym missed ∙ clean;
    kept = λ q is. subst (IsIn q) (sym own) is;
    stand = λ s. subst (AllStand []) (sym own) s;
  }

  goes_still : (old new : Calling) → new ≡ old → new.missed ≡ 0 → Goes old new
  goes_still old new is clean = goes_same old new (ap (λ c. c.own) is) (ap (λ c. c.missed) is) clean

  goes_with : (old new : Calling) (places : List Place) → new.own ≡ old.own ++ places → new.missed ≡ old.missed → AllStand old.own places → new.missed ≡ 0 → Goes old new
  goes_with old new places own missed may clean = record {
    clean = sym missed ∙ clean;
    kept = λ q is. subst (IsIn q) (sym own) (in_left q old.own places is);
    stand = λ s. subst (AllStand []) (sym own) (all_on [] old.own places s may);
  }

  never : (c : Calling) → (misses c).missed ≡ 0 → ⊥
  never c e = omega (arith, e)

  never_so : (old new : Calling) → new ≡ misses old → new.missed ≡ 0 → ⊥
  never_so old new is clean = never old (ap (λ c. c.missed) (sym is) ∙ clean)

  module _ (setup : Setup) where
    made : (step : Step) (old new : Calling) (r : Receipted) → Makes setup step old new r → MayStand old.own step → new.missed ≡ 0 → Goes old new
    made step old new r makes may clean = goes_with old new (r.entry ∷ []) makes.own makes.missed ((λ h n v is. may h n v (sym makes.asked ∙ is)), tt) clean

    made_row : (count : ℕ) (step : Step) (old new : Calling) (row : Row) → is_answer step ≡ false → MakesRow setup (replicate count step) old row new → new.missed ≡ 0 → Goes old new
    made_row count step old new row none makes clean =
        let steps : steps_of makes.places ≡ replicate count step = steps_asked makes.places ∙ (ap (map (λ (a : Asked). a.step)) makes.each ∙ asked_steps old.number makes.moment (replicate count step)) in
        goes_with old new makes.places makes.own makes.missed (all_silent old.own makes.places count step none steps) clean

    delivers_row : (old new : Calling) → DeliversRow setup old new → new.missed ≡ 0 → Goes old new
    delivers_row old new (R.DeliversRow.made row none makes) clean = made_row row.count Deliver old new row refl makes clean
    delivers_row old new (R.DeliversRow.missed is) clean = absurd (never_so old new is clean)

    delivers_if : (b : Bool) (old new : Calling) → DeliversIf setup b old new → new.missed ≡ 0 → Goes old new
    delivers_if true old new it clean = delivers_row old new it clean
    delivers_if false old new it clean = goes_still old new it clean

    -- results that wait for their verdicts: their callbacks were told so
    abbrev Waiting : List Place → List Returned → Type 0
    Waiting ps [] = Unit {0}
    Waiting ps (x ∷ xs) = Was ps x × Waiting ps xs

    waits_on : (few many : List Place) → ((q : Place) → IsIn q few → IsIn q many) → (xs : List Returned) → Waiting few xs → Waiting many xs
    waits_on few many kept [] w = tt
    waits_on few many kept (x ∷ xs) w = ((w.0.0, kept w.0.0 w.0.1, w.0.2), waits_on few many kept xs w.1)

    waiting : (own : List Place) (xs : List Returned) (ps : List Place) → ((q : Place) → IsIn q ps → IsIn q own) → entries_of ps ≡ map (λ x. called_entry (Some x)) xs → Waiting own xs
    waiting own [] ps there e = tt
    waiting own (x ∷ xs) [] there e = absurd cc
    waiting own (x ∷ xs) (p ∷ ps) there e =
        let rest : List Entry = map (λ (y : Returned). called_entry (Some y)) xs in (
          (p, there p (0, refl), ap (λ (y : Entry). y.reply) (same_head p.entry (called_entry (Some x)) (entries_of ps) rest e)),
          waiting own xs ps (λ q is. there q (suc is.0, is.1)) (same_tail p.entry (called_entry (Some x)) (entries_of ps) rest e),
        )

    takes : (results : List Returned) (old new : Calling) → Takes setup results old new → new.missed ≡ 0 → Goes old new × Waiting new.own results
    takes results old new (R.Takes.out row none makes are) clean =
        let last : drop row.first new.seen ≡ makes.places = ap (λ l. drop row.first l) makes.saw ∙ (ap (λ n. drop n (makes.before ++ makes.places)) makes.first ∙ drop-append_seam makes.before makes.places) in (
          made_row row.count Take old new row refl makes clean,
          waiting new.own results makes.places (λ q is. subst (IsIn q) (sym makes.own) (in_right q old.own makes.places is)) (ap entries_of (sym last) ∙ are),
        )
    takes results old new (R.Takes.missed none is) clean = absurd (never_so old new is clean)

    -- memory was refused to it in none of these, where it wasn't in all
    missed_none : (k : ℕ) (c : Calling) → (missed_by k c).missed ≡ 0 → c.missed ≡ 0
    unfolding missed_by
    missed_none zero c e = e
    missed_none (suc k) c e = absurd (never (missed_by k c) e)

    ends_clean : (h n : ℕ) (old new : Calling) → Ends setup h n old new → new.missed ≡ 0 → old.missed ≡ 0
    ends_clean h n old new (R.Ends.told k r makes) clean = missed_none k old (sym makes.missed ∙ clean)
    ends_clean h n old new (R.Ends.given_up k is often) clean = absurd (omega (arith, often, clean))

    resubmits_clean : (h n : ℕ) (v : Verdict) (left : Bool) (old new : Calling) → Resubmits setup h n v left old new → new.missed ≡ 0 → old.missed ≡ 0
    resubmits_clean h n v left old new (R.Resubmits.asks_none stop it is) clean = ap (λ c. c.missed) (sym is) ∙ clean
    resubmits_clean h n v left old new (R.Resubmits.accepted goes it r makes is) clean = sym makes.missed ∙ clean
    resubmits_clean h n v left old new (R.Resubmits.refused goes it r makes is) clean = sym makes.missed ∙ clean
    resubmits_clean h n v left old new (R.Resubmits.missed goes it is) clean = absurd (never_so old new is clean)

    tells_clean : (h n : ℕ) (v : Verdict) (old new : Calling) → Tells setup h n v old new → new.missed ≡ 0 → old.missed ≡ 0
    tells_clean h n v old new (R.Tells.goes_on again) clean = resubmits_clean h n v false old new again clean
    tells_clean h n v old new (R.Tells.ends between again end) clean = resubmits_clean h n v true old between again (ends_clean h n between new end clean)

    allows : (ps : List Place) (x : Returned) (v : Verdict) → Was ps x → May ps x v → Allowed ps x.h x.n v
    allows ps x v was may = record { told = x; handle = refl; number = refl; was = was; may = may }

    ends_told : (x : Returned) (old new : Calling) → Was old.own x → May old.own x Stop → (k : ℕ) (r : Receipted) → Makes setup (Answer x.h x.n Stop) (missed_by k old) new r → new.missed ≡ 0 → Goes old new
    unfolding missed_by
    ends_told x old new was may zero r makes clean = made (Answer x.h x.n Stop) old new r makes (stands old.own x.h x.n Stop (allows old.own x Stop was may)) clean
    ends_told x old new was may (suc k) r makes clean = absurd (never (missed_by k old) (sym makes.missed ∙ clean))

    ends : (x : Returned) (old new : Calling) → Was old.own x → May old.own x Stop → Ends setup x.h x.n old new → new.missed ≡ 0 → Goes old new
    ends x old new was may (R.Ends.told k r makes) clean = ends_told x old new was may k r makes clean
    ends x old new was may (R.Ends.given_up k is often) clean = absurd (omega (arith, often, clean))

    goes_on_so : (x : Returned) (v : Verdict) (old new : Calling) → Was old.own x → May old.own x v → Resubmits setup x.h x.n v false old new → new.missed ≡ 0 → Goes old new
    goes_on_so x v old new was may (R.Resubmits.asks_none stop it is) clean = absurd (true≢false (sym it))
    goes_on_so x v old new was may (R.Resubmits.accepted goes it r makes is) clean = made (Answer x.h x.n v) old new r makes (stands old.own x.h x.n v (allows old.own x v was may)) clean
    goes_on_so x v old new was may (R.Resubmits.refused goes it r makes is) clean = absurd (true≢false (sym it))
    goes_on_so x v old new was may (R.Resubmits.missed goes it is) clean = absurd (true≢false (sym it))

    ends_so : (x : Returned) (v : Verdict) (old between new : Calling) → Was old.own x → May old.own x v → Resubmits setup x.h x.n v true old between → Ends setup x.h x.n between new → new.missed ≡ 0 → Goes old new
    ends_so x v old between new was may (R.Resubmits.asks_none stop it is) end clean =
        ends x old new was (subst (May old.own x) stop may) (subst (λ c. Ends setup x.h x.n c new) is end) clean
    ends_so x v old between new was may (R.Resubmits.accepted goes it r makes is) end clean = absurd (true≢false it)
    ends_so x v old between new was may (R.Resubmits.refused goes it r makes is) end clean =
        let first = made (Answer x.h x.n v) old between r makes (stands old.own x.h x.n v (allows old.own x v was may)) (ends_clean x.h x.n between new end clean) in
        let there : IsIn r.entry between.own = subst (IsIn r.entry) (sym makes.own) (in_right r.entry old.own (r.entry ∷ []) (0, refl)) in
        goes_on old between new first (ends x between new (was.0, first.kept was.0 was.1, was.2) (May.refused refl r.entry v there makes.asked goes is) end clean)
    ends_so x v old between new was may (R.Resubmits.missed goes it is) end clean = absurd (never_so old between is (ends_clean x.h x.n between new end clean))

    tells : (x : Returned) (v : Verdict) (old new : Calling) → Was old.own x → May old.own x v → Tells setup x.h x.n v old new → new.missed ≡ 0 → Goes old new
    tells x v old new was may (R.Tells.goes_on again) clean = goes_on_so x v old new was may again clean
    tells x v old new was may (R.Tells.ends between again end) clean = ends_so x v old between new was may again end clean

    -- of verdicts that may be told where they are
    module _ (told : Calling → Returned → Verdict → Type 0) (lawful : (c : Calling) (x : Returned) (v : Verdict) → told c x v → May c.own x v) where
      all_clean : (xs : List Returned) (old new : Calling) → TellsAll setup told xs old new → new.missed ≡ 0 → old.missed ≡ 0
      all_clean [] old new it clean = ap (λ c. c.missed) (sym it) ∙ clean
      all_clean (x ∷ xs) old new it clean = tells_clean x.h x.n it.1 old it.0 it.3 (all_clean xs it.0 new it.4 clean)

      tells_all : (xs : List Returned) (old new : Calling) → TellsAll setup told xs old new → Waiting old.own xs → new.missed ≡ 0 → Goes old new
      tells_all [] old new it waits clean = goes_still old new it clean
      tells_all (x ∷ xs) old new it waits clean =
          let between = it.0 in
          let v = it.1 in
          let first = tells x v old between waits.0 (lawful old x v it.2) it.3 (all_clean xs between new it.4 clean) in
          goes_on old between new first (tells_all xs between new it.4 (waits_on old.own between.own first.kept xs waits.1) clean)

      calls_back : (old new : Calling) → CallsBackAll setup told old new → new.missed ≡ 0 → Goes old new
      calls_back old new it clean =
          let first = takes it.results old it.between it.taken (all_clean it.results it.between new it.told clean) in
          goes_on old it.between new first.0 (tells_all it.results it.between new it.told first.1 clean)

      calls_back_if : (b : Bool) (old new : Calling) → CallsBackIf setup told b old new → new.missed ≡ 0 → Goes old new
      calls_back_if true old new it clean = calls_back old new it clean
      calls_back_if false old new it clean = goes_still old new it clean

      handles : (look : Events) (old new : Calling) → Handles setup told look old new → new.missed ≡ 0 → Goes old new
      handles look old new it clean =
          let second = calls_back_if look.take it.between new it.result clean in
          goes_on old it.between new (delivers_if look.deliver old it.between it.event second.clean) second

      -- so it is look by look
      pub rounds_stand : (Shows : List Place → Events → Type 0) (old new : Calling) → Rounds Shows (Handles setup told) old new → new.missed ≡ 0 → Goes old new
      rounds_stand Shows old new R.Rounds.none clean = goes_still old old refl clean
      rounds_stand Shows old new (R.Rounds.more look between looked last before on shows it) clean =
          let act = handles look looked new it clean in
          let seen = goes_same between looked on.own on.missed act.clean in
          goes_on old looked new (goes_on old between looked (rounds_stand Shows old between before seen.clean) seen) act
      rounds_stand Shows old new (R.Rounds.last between last before on) clean =
          let seen = goes_same between new on.own on.missed clean in
          goes_on old between new (rounds_stand Shows old between before seen.clean) seen
