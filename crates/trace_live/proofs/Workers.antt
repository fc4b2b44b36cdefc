-- What the workers make, row by row: nothing that a test passes which no step of theirs passes.
use Rattle.std.proofs.Common.{◌≡◌, ℕ, zero, suc, Bool, true, false, List, [], ◌∷◌, ◌++◌, filter, map, cond, Option, Some, None, refl, ap, ◌∙◌}
use Rattle.std.specs.Prelude.{replicate}
use Rattle.std.proofs.lemmas.List.{map-append}
use Rattle.std.proofs.lemmas.List.Elements.{filter-append}
use Rattle.usb_model.specs.declared.reply.Returned.{Returned}
use Rattle.usb_model.specs.declared.step.Step.{Step}
use Rattle.usb_model.specs.declared.step.Step.TheVariants.{Answer, Command, Deliver, Serve, Take}
use Rattle.usb_model.specs.declared.verdict.Verdict.{Verdict}
use Rattle.usb_model.specs.declared.verdict.Verdict.TheVariants.{Stop}
use Rattle.usb_model.specs.Setup.{Setup}
use Rattle.usb_core.specs.declared.pending.Pending.{Pending}
use Rattle.usb_journal.specs.declared.events.Events.{Events}
use Rattle.usb_recorder.specs.declared.place.Place.{Place}
use Rattle.usb_journal.specs.declared.rows.Row.{Row}
use Rattle.usb_journal.specs.Booked.{Asked, asked, asks, steps_of}
use Rattle.usb_journal.specs.Seen.{Receipted}
use Rattle.usb_library.specs.Calls.{Calling, Makes, MakesRow}
use Rattle.usb_workers.specs.Rounds.{CallsBackAll, CallsBackIf, Controls, DeliversIf, DeliversRow, Does, DoesIf, Ends, Handles, Resubmits, Rounds, Serves, ServesRow, Takes, Tells, TellsAll, missed_by}
use Rattle.usb_workers.specs.Rounds as R

-- no step of the controller's worker passes a test
pub record Passes_no_work (test : Step → Bool) : Type 0 where
  pub serve : (dev ep : ℕ) → test (Serve dev ep) ≡ false
  pub command : test Command ≡ false

-- nor does one of any worker
pub record Passes_none (test : Step → Bool) : Type 0 where
  pub work : Passes_no_work test
  pub deliver : test Deliver ≡ false
  pub take : test Take ≡ false
  pub answer : (h n : ℕ) (v : Verdict) → test (Answer h n v) ≡ false

-- whether a step tells a verdict
abbrev pub is_answer : Step → Bool
is_answer (Answer h n v) = true
is_answer step = false

-- the steps of places are those that were asked for
pub steps_asked : (places : List Place) → steps_of places ≡ map (λ (a : Asked). a.step) (map asked places)
steps_asked [] = refl
steps_asked (p ∷ ps) = ap (λ l. p.step ∷ l) (steps_asked ps)

pub asked_steps : (n moment : ℕ) (steps : List Step) → map (λ (a : Asked). a.step) (asks n moment steps) ≡ steps
asked_steps n moment [] = refl
asked_steps n moment (step ∷ steps) = ap (λ l. step ∷ l) (asked_steps n moment steps)

-- of many of one step that doesn't pass none passes
none_pass : (test : Step → Bool) (count : ℕ) (step : Step) → test step ≡ false → filter test (replicate count step) ≡ []
none_pass test zero step none = refl
none_pass test (suc k) step none = ap (λ b. cond b (step ∷ filter test (replicate k step)) (filter test (replicate k step))) none ∙ none_pass test k step none

module _ (setup : Setup) (test : Step → Bool) where
  -- nothing that a caller made passes
  abbrev pub Quiet : Calling → Type 0
  Quiet c = filter test (steps_of c.own) ≡ []

  made : (step : Step) (old new : Calling) (r : Receipted) → test step ≡ false → Makes setup step old new r → Quiet old → Quiet new
  made step old new r none makes quiet =
      ap (λ l. filter test (steps_of l)) makes.own
      ∙ (ap (filter test) (map-append (λ (p : Place). p.step) old.own (r.entry ∷ []))
      ∙ (filter-append test (steps_of old.own) (r.entry.step ∷ [])
      ∙ (ap (λ l. l ++ filter test (r.entry.step ∷ [])) quiet
      ∙ ap (λ b. cond b (r.entry.step ∷ []) []) (ap test makes.asked ∙ none))))

  made_row : (count : ℕ) (step : Step) (old new : Calling) (row : Row) → test step ≡ false → MakesRow setup (replicate count step) old row new → Quiet old → Quiet new
  made_row count step old new row none makes quiet =
      let steps : steps_of makes.places ≡ replicate count step = steps_asked makes.places ∙ (ap (map (λ (a : Asked). a.step)) makes.each ∙ asked_steps old.number makes.moment (replicate count step)) in
      ap (λ l. filter test (steps_of l)) makes.own
      ∙ (ap (filter test) (map-append (λ (p : Place). p.step) old.own makes.places)
      ∙ (filter-append test (steps_of old.own) (steps_of makes.places)
      ∙ (ap (λ l. l ++ filter test (steps_of makes.places)) quiet
      ∙ (ap (filter test) steps ∙ none_pass test count step none))))

  same : (old new : Calling) → new.own ≡ old.own → Quiet old → Quiet new
  same old new is quiet = ap (λ l. filter test (steps_of l)) is ∙ quiet

  missed_own : (k : ℕ) (c : Calling) → (missed_by k c).own ≡ c.own
  unfolding missed_by
  missed_own zero c = refl
  missed_own (suc k) c = missed_own k c

  does : (step : Step) (old new : Calling) → test step ≡ false → Does setup step old new → Quiet old → Quiet new
  does step old new none (R.Does.made r makes) quiet = made step old new r none makes quiet
  does step old new none (R.Does.missed is) quiet = same old new (ap (λ c. c.own) is) quiet

  does_if : (b : Bool) (step : Step) (old new : Calling) → test step ≡ false → DoesIf setup b step old new → Quiet old → Quiet new
  does_if true step old new none it quiet = does step old new none it quiet
  does_if false step old new none it quiet = same old new (ap (λ c. c.own) it) quiet

  -- so it stays look by look
  pub rounds : {Look : Type 0} (Shows : List Place → Look → Type 0) (Act : Look → Calling → Calling → Type 0) → ((look : Look) (old new : Calling) → Act look old new → Quiet old → Quiet new)
      → (old new : Calling) → Rounds Shows Act old new → Quiet old → Quiet new
  rounds Shows Act act old new R.Rounds.none quiet = quiet
  rounds Shows Act act old new (R.Rounds.more look between looked last before on shows it) quiet = act look looked new it (same between looked on.own (rounds Shows Act act old between before quiet))
  rounds Shows Act act old new (R.Rounds.last between last before on) quiet = same between new on.own (rounds Shows Act act old between before quiet)

  -- of the controller's worker
  module _ (silent : Passes_no_work test) where
    serves_row : (dev ep : ℕ) (old new : Calling) → ServesRow setup dev ep old new → Quiet old → Quiet new
    serves_row dev ep old new (R.ServesRow.made row some makes) quiet = made_row row.count (Serve dev ep) old new row (silent.serve dev ep) makes quiet
    serves_row dev ep old new (R.ServesRow.missed is) quiet = same old new (ap (λ c. c.own) is) quiet

    serves : (at : Option (ℕ × ℕ)) (old new : Calling) → Serves setup at old new → Quiet old → Quiet new
    serves None old new it quiet = same old new (ap (λ c. c.own) it) quiet
    serves (Some at) old new it quiet = serves_row at.0 at.1 old new it quiet

    pub controls : (look : Pending) (old new : Calling) → Controls setup look old new → Quiet old → Quiet new
    controls look old new it quiet = does_if look.command Command it.between new silent.command it.order (serves look.serve old it.between it.packet quiet)

  -- and of that of events
  module _ (silent : Passes_none test) where
    delivers_row : (old new : Calling) → DeliversRow setup old new → Quiet old → Quiet new
    delivers_row old new (R.DeliversRow.made row none makes) quiet = made_row row.count Deliver old new row silent.deliver makes quiet
    delivers_row old new (R.DeliversRow.missed is) quiet = same old new (ap (λ c. c.own) is) quiet

    delivers_if : (b : Bool) (old new : Calling) → DeliversIf setup b old new → Quiet old → Quiet new
    delivers_if true old new it quiet = delivers_row old new it quiet
    delivers_if false old new it quiet = same old new (ap (λ c. c.own) it) quiet

    ends : (h n : ℕ) (old new : Calling) → Ends setup h n old new → Quiet old → Quiet new
    ends h n old new (R.Ends.told k r makes) quiet = made (Answer h n Stop) (missed_by k old) new r (silent.answer h n Stop) makes (same old (missed_by k old) (missed_own k old) quiet)
    ends h n old new (R.Ends.given_up k is often) quiet = same old new (ap (λ c. c.own) is ∙ missed_own (suc k) old) quiet

    resubmits : (h n : ℕ) (v : Verdict) (left : Bool) (old new : Calling) → Resubmits setup h n v left old new → Quiet old → Quiet new
    resubmits h n v left old new (R.Resubmits.asks_none stop it is) quiet = same old new (ap (λ c. c.own) is) quiet
    resubmits h n v left old new (R.Resubmits.accepted goes it r makes is) quiet = made (Answer h n v) old new r (silent.answer h n v) makes quiet
    resubmits h n v left old new (R.Resubmits.refused goes it r makes is) quiet = made (Answer h n v) old new r (silent.answer h n v) makes quiet
    resubmits h n v left old new (R.Resubmits.missed goes it is) quiet = same old new (ap (λ c. c.own) is) quiet

    tells : (h n : ℕ) (v : Verdict) (old new : Calling) → Tells setup h n v old new → Quiet old → Quiet new
    tells h n v old new (R.Tells.goes_on again) quiet = resubmits h n v false old new again quiet
    tells h n v old new (R.Tells.ends between again end) quiet = ends h n between new end (resubmits h n v true old between again quiet)

    takes : (given : List Returned) (old new : Calling) → Takes setup given old new → Quiet old → Quiet new
    takes given old new (R.Takes.out row none makes are) quiet = made_row row.count Take old new row silent.take makes quiet
    takes given old new (R.Takes.missed none is) quiet = same old new (ap (λ c. c.own) is) quiet

    tells_all : (may : Calling → Returned → Verdict → Type 0) (given : List Returned) (old new : Calling) → TellsAll setup may given old new → Quiet old → Quiet new
    tells_all may [] old new it quiet = same old new (ap (λ c. c.own) it) quiet
    tells_all may (x ∷ xs) old new it quiet =
        let between = it.0 in
        let v = it.1 in
        tells_all may xs between new it.4 (tells x.h x.n v old between it.3 quiet)

    calls_back : (may : Calling → Returned → Verdict → Type 0) (old new : Calling) → CallsBackAll setup may old new → Quiet old → Quiet new
    calls_back may old new it quiet = tells_all may it.results it.between new it.told (takes it.results old it.between it.taken quiet)

    calls_back_if : (may : Calling → Returned → Verdict → Type 0) (b : Bool) (old new : Calling) → CallsBackIf setup may b old new → Quiet old → Quiet new
    calls_back_if may true old new it quiet = calls_back may old new it quiet
    calls_back_if may false old new it quiet = same old new (ap (λ c. c.own) it) quiet

    pub handles : (may : Calling → Returned → Verdict → Type 0) (look : Events) (old new : Calling) → Handles setup may look old new → Quiet old → Quiet new
    handles may look old new it quiet = calls_back_if may look.take it.between new it.result (delivers_if look.deliver old it.between it.event quiet)
