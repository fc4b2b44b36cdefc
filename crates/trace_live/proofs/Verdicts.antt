-- Each verdict in a run is told as it may be.
use Rattle.std.proofs.Common.{◌≡◌, ◌<◌, ◌+◌, ◌==◌, ◌&&◌, ℕ, Bool, true, false, true≢false, inl, inr, List, [], ◌∷◌, ◌++◌, cond, slice_get, count_by, Some, option_map, refl, sym, ap, subst, ◌∙◌, append_assoc, append-nil, arith}
use Rattle.std.specs.Prelude.{All}
use Rattle.std.proofs.lemmas.Bool.{eqb-true}
use Rattle.std.proofs.lemmas.List.Sums.{sum_by-cons}
use Rattle.std.proofs.lemmas.Option.{slice_get-map}
use Rattle.usb_model.specs.declared.entry.Entry.{Entry}
use Rattle.usb_model.specs.declared.plan.Plan.{Plan}
use Rattle.usb_model.specs.declared.reply.Returned.{Returned}
use Rattle.usb_model.specs.declared.step.Step.{Step}
use Rattle.usb_model.specs.declared.step.Step.TheVariants.{Answer}
use Rattle.usb_model.specs.declared.verdict.Rule.{Rule}
use Rattle.usb_model.specs.declared.verdict.Verdict.{Verdict}
use Rattle.usb_model.specs.Setup.{Setup}
use Rattle.usb_model.specs.World.{World, new_world, turn}
use Rattle.usb_model.specs.World.Journal.{journal, journal_from, run_from, world_run}
use Rattle.usb_model.specs.World.Plans.{verdict_of}
use Rattle.usb_recorder.specs.declared.place.Place.{Place}
use Rattle.usb_journal.specs.Booked.{IsRun, entries_of, steps_of}
use Rattle.usb_journal.specs.Seen.{caller_of, places_of}
use Rattle.usb_library.specs.Calls.{Calling, ShowsEvents}
use Rattle.usb_workers.specs.Rounds.{MayAnswer, called_in, is_called}
use Rattle.usb_workers.specs.Life.{LivedBy}
use Rattle.trace_threads.specs.Callbacks.{is_callback}
use Rattle.trace_live.specs.Lines.{ArePlanned}
use Rattle.trace_threads.specs.Verdicts.{AreToldSo, IsRuleOf, MayBeTold, WasTold, is_accepted}
use Rattle.trace_threads.specs.Verdicts as V
use Rattle.trace_live.proofs.CallsMade.{answers_are}
use Rattle.trace_live.proofs.Named.{accepted, called}
use Rattle.trace_live.proofs.Parts.{Covers}
use Rattle.trace_live.proofs.Telling.{AllStand, Allowed, Grows, May, allowed_on, grows_both, grows_none, grows_right, rounds_stand, same_head, same_tail, stands_silent}
use Rattle.trace_live.proofs.Telling as T
use Rattle.trace_live.proofs.Workers.{is_answer}

-- the entries of a run's beginning are those of its steps
run_first : (setup : Setup) (w : World) (places rest : List Place) → entries_of (places ++ rest) ≡ run_from setup w (steps_of (places ++ rest)) → entries_of places ≡ run_from setup w (steps_of places)
unfolding journal_from
run_first setup w [] rest e = refl
run_first setup w (p ∷ places) rest e =
    let first = (turn setup w p.step).entry in
    let further = (turn setup w p.step).world in
    let run = run_from setup further (steps_of (places ++ rest)) in
    ap (λ x. x ∷ entries_of places) (same_head p.entry first (entries_of (places ++ rest)) run e)
    ∙ ap (λ l. first ∷ l) (run_first setup further places rest (same_tail p.entry first (entries_of (places ++ rest)) run e))

is_run_first : (setup : Setup) (places rest : List Place) → IsRun setup (places ++ rest) → IsRun setup places
unfolding journal
is_run_first setup places rest run = run_first setup (new_world setup) places rest run

-- as many callbacks were told something at places as in their entries
called_entries : (places : List Place) → count_by is_callback (entries_of places) ≡ called_in places
called_entries [] = refl
called_entries (p ∷ places) =
    sum_by-cons (λ (e : Entry). cond (is_callback e) 1 0) p.entry (entries_of places)
    ∙ (ap (λ b. cond b 1 0 + count_by is_callback (entries_of places)) (called p.entry.reply)
    ∙ (ap (λ n. cond (is_called p.entry.reply) 1 0 + n) (called_entries places) ∙ sym (sum_by-cons (λ (q : Place). cond (is_called q.entry.reply) 1 0) p places)))

reply_at : {B : Type 0} (read : Entry → B) (places : List Place) (q : Place) (i : ℕ) → slice_get places i ≡ Some q → option_map read (slice_get (entries_of places) i) ≡ Some (read q.entry)
reply_at read places q i is = ap (option_map read) (slice_get-map (λ (p : Place). p.entry) places i ∙ ap (option_map (λ (p : Place). p.entry)) is)

module _ (given : List (ℕ × Rule)) (rounds : ℕ) where
  -- what may be told behind places may be told behind their steps
  may_be : (places : List Place) (r : Returned) (v : Verdict) → May given rounds places r v → MayBeTold given rounds (steps_of places) (entries_of places) r v
  may_be places r v (T.May.by_rule rule is e) = subst (MayBeTold given rounds (steps_of places) (entries_of places) r) (sym e) (V.MayBeTold.by_rule rule is)
  may_be places r v (T.May.over e more) = subst (MayBeTold given rounds (steps_of places) (entries_of places) r) (sym e) (V.MayBeTold.over (subst (λ n. rounds < n) (sym (called_entries places)) more))
  may_be places r v (T.May.refused e q w is step goes turned) =
      subst (MayBeTold given rounds (steps_of places) (entries_of places) r) (sym e)
      (V.MayBeTold.refused is.0 w (slice_get-map (λ (p : Place). p.step) places is.0 ∙ (ap (option_map (λ (p : Place). p.step)) is.1 ∙ ap Some step)) goes
      (reply_at (λ (x : Entry). is_accepted x.reply) places q is.0 is.1 ∙ ap Some (accepted q.entry.reply ∙ turned)))

  -- why a verdict is told
  abbrev IsToldSo : List Step → List Entry → ℕ → ℕ → Verdict → Type 0
  IsToldSo steps entries h n v = (r : Returned) × (r.h ≡ h) × (r.n ≡ n) × WasTold entries r × MayBeTold given rounds steps entries r v

  told_as : (places : List Place) (h n : ℕ) (v : Verdict) → Allowed given rounds places h n v → IsToldSo (steps_of places) (entries_of places) h n v
  told_as places h n v a =
      (a.told, a.handle, a.number, (a.was.1.0, reply_at (λ (x : Entry). x.reply) places a.was.0 a.was.1.0 a.was.1.1 ∙ ap Some a.was.2), may_be places a.told v a.may)

  -- where all verdicts are one caller's, and each of its own stands, each in the journal does
  stand_in : (n : ℕ) (few many places : List Place) → Grows few many → Covers caller_of (λ (p : Place). is_answer p.step) (λ p. caller_of p == n) places → AllStand given rounds few (places_of n places) → AllStand given rounds many places
  stand_in n few many [] grows covers all = tt
  stand_in n few many (p ∷ places) grows covers all = by_caller (p.caller == n) refl (λ f m g a. stand_in n f m places g covers.1 a) all
    where
      no_answer : (b : Bool) → is_answer p.step ≡ b → (p.caller == n) ≡ false → is_answer p.step ≡ false
      no_answer true is other = absurd (true≢false (sym (covers.0 is) ∙ other))
      no_answer false is other = is

      by_caller : (b : Bool) → (p.caller == n) ≡ b → ((f m : List Place) → Grows f m → AllStand given rounds f (places_of n places) → AllStand given rounds m places)
          → AllStand given rounds few (cond b (p ∷ places_of n places) (places_of n places)) → AllStand given rounds many (p ∷ places)
      by_caller true its further a =
          ((λ h k v is. allowed_on given rounds few many h k v grows (a.0 h k v is)), further (few ++ p ∷ []) (many ++ p ∷ []) (grows_both few many p grows) a.1)
      by_caller false other further a =
          (stands_silent given rounds many p.step (no_answer (is_answer p.step) refl other), further few (many ++ p ∷ []) (grows_right few many p grows) a)

  -- a verdict among the steps, with the places before it
  found : (before_all places : List Place) (before after : List Step) (h n : ℕ) (v : Verdict) → AllStand given rounds before_all places → steps_of places ≡ before ++ Answer h n v ∷ after
      → (first : List Place) × (rest : List Place) × (places ≡ first ++ rest) × (steps_of first ≡ before) × Allowed given rounds (before_all ++ first) h n v
  found before_all [] [] after h n v all e = absurd cc
  found before_all [] (s ∷ before) after h n v all e = absurd cc
  found before_all (p ∷ places) [] after h n v all e =
      ([], p ∷ places, refl, refl, subst (λ l. Allowed given rounds l h n v) (sym (append-nil before_all)) (all.0 h n v (same_head p.step (Answer h n v) (steps_of places) after e)))
  found before_all (p ∷ places) (s ∷ before) after h n v all e =
      let behind = before ++ Answer h n v ∷ after in
      let there = found (before_all ++ p ∷ []) places before after h n v all.1 (same_tail p.step s (steps_of places) behind e) in (
        p ∷ there.0,
        there.1,
        ap (λ l. p ∷ l) there.2,
        ap (λ l. p.step ∷ l) there.3 ∙ ap (λ x. x ∷ before) (same_head p.step s (steps_of places) behind e),
        subst (λ l. Allowed given rounds l h n v) (append_assoc before_all (p ∷ []) there.0) there.4,
      )

  -- so each verdict in the run is told as it may be
  told_so : (setup : Setup) (all : List Place) → IsRun setup all → AllStand given rounds [] all → AreToldSo setup given rounds (steps_of all)
  told_so setup all run stand before after h n v e =
      let it = found [] all before after h n v stand e in
      let entries : entries_of it.0 ≡ world_run setup before = is_run_first setup it.0 it.1 (subst (IsRun setup) it.2 run) ∙ ap (world_run setup) it.3 in
      subst (λ es. IsToldSo before es h n v) entries (subst (λ s. IsToldSo s (entries_of it.0) h n v) it.3 (told_as it.0 h n v it.4))

  -- a callback that suits the name answers by one of its rules
  pub answers_so : (rule : ℕ × Rule → Rule) (c : Calling) (x : Returned) (v : Verdict)
      → MayAnswer rounds (λ p h. (p.0 ≡ h) × IsRuleOf given p.0 p.1) (λ p r w. w ≡ verdict_of p.1 r.status r.round) rule c x v → May given rounds c.own x v
  answers_so rule c x v (inl it) = T.May.by_rule it.0.1 (subst (λ h. IsRuleOf given h it.0.1) it.1.0 it.1.1) it.2
  answers_so rule c x v (inr it) = T.May.over it.0 it.1

  second_true : (a b c : Bool) → (a && (b && c)) ≡ true → b ≡ true
  second_true true true c e = refl
  second_true true false c e = e
  second_true false b c e = absurd (true≢false (sym e))

  -- of a library that lived, where no memory was refused
  pub verdicts_told : {X : Type 0} (ended : X → Type 0) (makes : List Step → Setup → Calling → Calling → X → Type 0)
      (all_made : (lines : List Step) (setup : Setup) (old new : Calling) (left : X) → makes lines setup old new left → ended left → steps_of new.own ≡ steps_of old.own ++ lines)
      (setup : Setup) (may : Calling → Returned → Verdict → Type 0) (all : List Place) (drivers : List (List Step)) (left : List X) (lacked : Bool) (lived : LivedBy may makes setup all drivers left lacked) → All ended left
      → (plan : List Plan) → ArePlanned drivers plan → ((c : Calling) (x : Returned) (v : Verdict) → may c x v → May given rounds c.own x v) → lacked ≡ false → IsRun setup all → AreToldSo setup given rounds (steps_of all)
  verdicts_told ended makes all_made setup may all drivers left lacked lived ends plan planned lawful none run =
      let events = lived.events in
      let clean : events.missed ≡ 0 = eqb-true events.missed 0 (second_true (lived.controller.missed == 0) (events.missed == 0) _ (lived.lacks none)) in
      let own = (rounds_stand given rounds setup may lawful (ShowsEvents setup) lived.handles.0 events lived.handles.2.rounds clean).stand (subst (AllStand given rounds []) (sym lived.handles.1) tt) in
      let covers = answers_are ended makes all_made setup may all drivers left lacked lived ends plan planned in
      told_so setup all run (stand_in events.number [] [] all grows_none covers (subst (AllStand given rounds []) (lived.all.knows 1 events (omega arith)).own own))
