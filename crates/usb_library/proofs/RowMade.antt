-- What a call makes of a row of a book's steps.
use Rattle.std.proofs.Common.{◌≡◌, ◌++◌, ◌∙◌, ◌∷◌, List, [], ℕ, Result, Ok, ap, length, map, refl, subst, sym}
use Rattle.std.specs.Prelude.{IfOk, OnOk}
use Rattle.usb_model.specs.declared.step.Step.{Step}
use Rattle.usb_model.specs.Setup.{Setup}
use Rattle.usb_model.specs.World.Journal.{run_from}
use Rattle.usb_recorder.specs.declared.place.Place.{Place}
use Rattle.usb_journal.specs.declared.rows.Row.{Row}
use Rattle.usb_journal.specs.Booked.{Booked, asked, asks, entries_of, steps_of, world_where}
use Rattle.usb_journal.specs.Rows.{EntersRow, new_places}
use Rattle.usb_journal.specs.Seen.{Positioned}
use Rattle.usb_library.specs.Calls.{Calling, MakesRow}
use Rattle.usb_library.proofs.CallWakes.{at_ok}

-- a caller, by its position and how often memory was refused to it
abbrev pub calling : Positioned → ℕ → Calling
calling p missed = record { number = p.number; seen = p.seen; position = p.position; own = p.own; missed = missed }

-- the steps of places, by what was asked for there
steps_asked : (places : List Place) → map (λ a. a.step) (map asked places) ≡ steps_of places
steps_asked [] = refl
steps_asked (p ∷ ps) = ap (λ l. p.step ∷ l) (steps_asked ps)

-- the steps that are asked for
asks_steps : (caller moment : ℕ) (steps : List Step) → map (λ a. a.step) (asks caller moment steps) ≡ steps
asks_steps caller moment [] = refl
asks_steps caller moment (step ∷ steps) = ap (λ l. step ∷ l) (asks_steps caller moment steps)

-- the last places of what is seen, from this one on, are a row of these steps behind what was before
pub record IsLastRow (setup : Setup) (made : List Step) (before places seen : List Place) (place : ℕ) : Type 0 where
  pub first : place ≡ length before
  pub saw : seen ≡ before ++ places
  pub steps : steps_of places ≡ made
  pub entries : entries_of places ≡ run_from setup (world_where setup before) made

-- by what a book says of the row, and a caller that counts no want of memory
pub row_of_book : {X E P : Type 0} (setup : Setup) (steps : X → List Step) (row : X → Row) (old new : Booked P) (before after : Positioned) (missed : ℕ) (done : Calling) (result : Result X E) (x : X)
    → result ≡ Ok x → IfOk result (λ y. EntersRow (steps y) old before (row y) new after) → old.setup ≡ setup → OnOk result (done ≡ calling after missed)
    → IsLastRow setup (steps x) old.journal (new_places old new) done.seen (row x).first
row_of_book setup steps row old new before after missed done result x is enters its same =
    let e : EntersRow (steps x) old before (row x) new after = at_ok (λ y. EntersRow (steps y) old before (row y) new after) result x is enters in
    let same : done ≡ calling after missed = subst (λ y. OnOk y (done ≡ calling after missed)) is same in
    record {
      first = e.first;
      saw = ap (λ c. c.seen) same ∙ (e.saw.1 ∙ e.journal);
      steps = sym (steps_asked (new_places old new)) ∙ (ap (map (λ a. a.step)) e.each ∙ asks_steps before.number old.moment (steps x));
      entries = e.entries ∙ ap (λ s. run_from s (world_where s old.journal) (steps x)) its;
    }

-- so what a call makes, where the row is above the caller's earlier places
pub makes_row : {X E P : Type 0} (setup : Setup) (steps : X → List Step) (row : X → Row) (old new : Booked P) (before after : Positioned) (missed : ℕ) (called done : Calling) (result : Result X E) (x : X)
    → result ≡ Ok x → IfOk result (λ y. EntersRow (steps y) old before (row y) new after) → old.setup ≡ setup → OnOk result (done ≡ calling after missed) → calling before missed ≡ called
    → MakesRow setup (steps x) called (row x) done
makes_row setup steps row old new before after missed called done result x is enters its same view =
    let e : EntersRow (steps x) old before (row x) new after = at_ok (λ y. EntersRow (steps y) old before (row y) new after) result x is enters in
    let same : done ≡ calling after missed = subst (λ y. OnOk y (done ≡ calling after missed)) is same in
    subst (λ c. MakesRow setup (steps x) c (row x) done) view (subst (MakesRow setup (steps x) (calling before missed) (row x)) (sym same) (record {
      before = old.journal;
      moment = old.moment;
      places = new_places old new;
      first = e.first;
      count = e.count;
      above = e.above;
      position = e.position;
      each = e.each;
      entries = e.entries ∙ ap (λ s. run_from s (world_where s old.journal) (steps x)) its;
      own = e.own;
      number = e.number;
      missed = refl;
      began = e.saw.0;
      saw = e.saw.1 ∙ e.journal;
    }))
