-- What is kept with each transfer in flight suits its name, call by call.
use Rattle.std.proofs.Common.{◌≡◌, ℕ, zero, suc, arith, Bool, true, false, refl, ap, sym, subst, ◌∙◌, List, [], ◌∷◌, Option, Some, None, Result, Ok, Err}
use Rattle.std.specs.Prelude.{◌==◌, ◌&&◌, All, IfErr, IfOk, IfSome, OnErr, if◌then◌else◌}
use Rattle.std.proofs.lemmas.Bool.{eqb-true}
use Rattle.std.proofs.lemmas.Option.{same_Some}
use Rattle.usb_model.specs.declared.entry.Entry.{Entry}
use Rattle.usb_model.specs.declared.reply.Reply.{Reply}
use Rattle.usb_model.specs.declared.step.Step.{Step}
use Rattle.usb_model.specs.Numbers.{takes_payload}
use Rattle.refine_core.specs.Payloads.{kept_with}
use Rattle.usb_core.specs.declared.results.Taken.{Taken}
use Rattle.usb_core.specs.declared.submission.SubmitError.{SubmitError}
use Rattle.usb_core.specs.declared.step.Stepped.{Stepped}
use Rattle.usb_core.specs.Public.{Carries, CarriesMore, CarriesOut, Kept, State, StillCarries}
use Rattle.usb_core.specs.Steps.{kept_after, kept_by}
use Rattle.usb_journal.specs.declared.record.RecordError.{RecordError}
use Rattle.usb_journal.specs.Booked.{Booked, IsSame}
use Rattle.usb_journal.specs.Rows.{AreKept}
use Rattle.usb_journal.specs.Seen.{Receipted}
use Rattle.usb_library.specs.Suits.{AllSuit}

module _ {P : Type 0} (Suits : P → ℕ → Type 0) where
  -- no transfer is in flight
  pub none_suit : (core : State P) → ((kept : Kept P) → Carries kept core) → AllSuit Suits core
  none_suit core all = record { kept = λ h n. None; carries = all (λ h n. None); suits = λ h n payload e. absurd cc }

  -- what was kept is kept still
  pub still_suit : (old new : State P) → StillCarries old new → AllSuit Suits old → AllSuit Suits new
  still_suit old new still was = record { kept = was.kept; carries = still was.kept was.carries; suits = was.suits }

  -- with one more under a name and a number, each suits its name
  one_suits : (a b : Bool) (h g : ℕ) (payload other : P) (before : Option P) → (a ≡ true → h ≡ g) → Suits payload h → (before ≡ Some other → Suits other g)
      → (if a && b then Some payload else before) ≡ Some other → Suits other g
  one_suits true true h g payload other before same suits was is = subst (λ k. Suits other k) (same refl) (subst (λ p. Suits p h) (same_Some payload other is) suits)
  one_suits true false h g payload other before same suits was is = was is
  one_suits false b h g payload other before same suits was is = was is

  -- one more is kept, which suits its name
  pub more_suit : (h n : ℕ) (payload : P) (old new : State P) → CarriesMore h n payload old new → Suits payload h → AllSuit Suits old → AllSuit Suits new
  more_suit h n payload old new more suits was = record {
    kept = kept_with was.kept h n payload;
    carries = more was.kept was.carries;
    suits = λ g m other is. one_suits (h == g) (n == m) h g payload other (was.kept g m) (eqb-true h g) suits (was.suits g m other) is;
  }

  -- what goes out suits its name
  pub out_suits : (kept : Kept P) → ((h n : ℕ) (payload : P) → kept h n ≡ Some payload → Suits payload h) → (x : Option (Taken P)) → CarriesOut kept x → IfSome x (λ t. Suits t.payload t.returned.h)
  out_suits kept suits None out = tt
  out_suits kept suits (Some t) out = suits t.returned.h t.returned.n t.payload out

  -- all of it does, in a row
  pub row_suits : (kept : Kept P) → ((h n : ℕ) (payload : P) → kept h n ≡ Some payload → Suits payload h) → (ts : List (Taken P)) → AreKept kept ts → All (λ t. Suits t.payload t.returned.h) ts
  row_suits kept suits [] are k x lt = absurd (omega (arith, lt))
  row_suits kept suits (t ∷ ts) are zero x lt = suits t.returned.h t.returned.n t.payload are.0
  row_suits kept suits (t ∷ ts) are (suc k) x lt = row_suits kept suits ts are.1 k x (omega (arith, lt))

  -- where nothing was given with a step, nothing more is kept
  none_given : (kept : Kept P) (takes : Bool) (owner : Option ℕ) (reply : Reply) → takes ≡ false → kept_by kept takes owner reply None ≡ kept
  none_given kept true owner reply not = absurd cc
  none_given kept false owner reply not = refl

  -- a step that takes nothing with it, or found no memory
  pub step_suits : (step : Step) (old new : Booked P) (result : Result (Receipted × Stepped P) (RecordError Step (Option P))) → takes_payload step ≡ false
      → IfOk result (λ r. (kept : Kept P) → Carries kept old.core → Carries (kept_after kept step r.1.entry None) new.core)
      → OnErr result (StillCarries old.core new.core)
      → AllSuit Suits old.core → AllSuit Suits new.core
  step_suits step old new (Ok r) takes carries still was =
      still_suit old.core new.core (λ kept its. subst (λ k. Carries k new.core) (none_given kept (takes_payload step) r.1.entry.owner r.1.entry.reply takes) (carries kept its)) was
  step_suits step old new (Err x) takes carries still was = still_suit old.core new.core still was

  -- a submission: accepted, and what was given is kept; or refused, or without memory
  pub submission_suits : {G E : Type 0} (h : ℕ) (payload : P) (old new : Booked P) (result : Result (Receipted × Result ℕ G) E)
      → IfOk result (λ r. IfOk r.1 (λ n. CarriesMore h n payload old.core new.core)) → IfOk result (λ r. OnErr r.1 (StillCarries old.core new.core))
      → OnErr result (StillCarries old.core new.core)
      → Suits payload h → AllSuit Suits old.core → AllSuit Suits new.core
  submission_suits h payload old new (Ok (r, Ok n)) carries still lacks suits was = more_suit h n payload old.core new.core carries suits was
  submission_suits h payload old new (Ok (r, Err x)) carries still lacks suits was = still_suit old.core new.core still was
  submission_suits h payload old new (Err x) carries still lacks suits was = still_suit old.core new.core lacks was
