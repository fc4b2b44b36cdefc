-- Results that go out in a row.
use Rattle.std.proofs.Common.{◌≡◌, ◌∙◌, ◌++◌, ◌≤◌, ℕ, List, [], ◌∷◌, Option, Some, ap, ap₂, drop, length, option_map, refl, subst, sym}
use Rattle.std.specs.Prelude.{replicate}
use Rattle.std.proofs.lemmas.List.{append-nil, append_assoc, length-append, map-append, replicate-append-replicate}
use Rattle.std.proofs.Math.Seq.{drop-append_seam, drop-length}
use Rattle.usb_model.specs.declared.entry.Entry.{Entry}
use Rattle.usb_model.specs.declared.step.Step.TheVariants.{Take}
use Rattle.usb_model.specs.Setup.{Setup}
use Rattle.usb_model.specs.World.{World}
use Rattle.usb_model.specs.World.Journal.{journal_from, run_from}
use Rattle.usb_core.specs.Public.{Carries, CarriesOut, Kept, called_entry}
use Rattle.usb_core.specs.declared.results.Taken.{Taken}
use Rattle.usb_receipts.specs.Rule.{BeginsWith}
use Rattle.usb_recorder.specs.declared.place.Place.{Place}
use Rattle.usb_journal.specs.declared.rows.Row.{Row}
use Rattle.usb_journal.specs.Booked.{Booked, IsMoved, Sees, entries_of, next_entry, next_receipt, world_where}
use Rattle.usb_journal.specs.Entered.{IsRow, StandsIn, TakesRow}
use Rattle.usb_journal.specs.Rows.{AreKept, EntersRow, new_places}
use Rattle.usb_journal.specs.Seen.{Positioned, Receipted, positioned}
use Rattle.usb_journal.proofs.InRows.{enters, row_on, row_one, row_places, run_on, world_behind}

-- one more stands behind what was held
pub put_behind : {A : Type 0} (before held after : List A) (x : A) → after ≡ held ++ x ∷ [] → held ≡ before → after ≡ before ++ x ∷ []
put_behind before held after x put same = put ∙ ap (λ l. l ++ x ∷ []) same

-- and behind what came before it
pub put_more : {A : Type 0} (before more held after : List A) (x : A) → after ≡ held ++ x ∷ [] → held ≡ before ++ more → after ≡ before ++ (more ++ x ∷ [])
put_more before more held after x put so_far = put ∙ (ap (λ l. l ++ x ∷ []) so_far ∙ append_assoc before more (x ∷ []))

-- the payloads of these and of those
are_kept_on : {P : Type 0} (kept : Kept P) (ts us : List (Taken P)) → AreKept kept ts → AreKept kept us → AreKept kept (ts ++ us)
are_kept_on kept [] us a b = b
are_kept_on kept (t ∷ ts) us a b = (a.0, are_kept_on kept ts us a.1 b)

module _ {P : Type 0} where
  -- results behind one another are one row
  both_rows : (ts us : List (Taken P)) (old mid new : Booked P) (before between after : Positioned) → TakesRow ts old before mid between → TakesRow us mid between new after
      → IsRow before.number old.moment (replicate (length ts) Take ++ replicate (length us) Take) (run_from old.setup (world_where old.setup old.journal) (replicate (length ts) Take ++ replicate (length us) Take)) old.journal before new.journal after
  both_rows ts us old mid new before between after a b =
      let xs = replicate (length ts) Take in
      let ys = replicate (length us) Take in
      let world : world_where mid.setup mid.journal ≡ _ = ap (λ (s : Setup). world_where s mid.journal) a.setup ∙ world_behind before.number old.moment xs (run_from old.setup (world_where old.setup old.journal) xs) old.journal before mid.journal between a.row old.setup in
      let told : run_from mid.setup (world_where mid.setup mid.journal) ys ≡ _ = ap₂ (λ (s : Setup) (w : World). run_from s w ys) a.setup world in
      let two : IsRow before.number old.moment ys _ mid.journal between new.journal after =
      subst (λ es. IsRow before.number old.moment ys es mid.journal between new.journal after) told
      (subst (λ n. IsRow n old.moment ys (run_from mid.setup (world_where mid.setup mid.journal) ys) mid.journal between new.journal after) a.row.number
      (subst (λ m. IsRow between.number m ys (run_from mid.setup (world_where mid.setup mid.journal) ys) mid.journal between new.journal after) a.moment b.row)) in
      subst (λ es. IsRow before.number old.moment (xs ++ ys) es old.journal before new.journal after) (sym (run_on old.setup (world_where old.setup old.journal) xs ys))
      (row_on before.number old.moment xs ys _ _ old.journal before mid.journal between new.journal after a.row two)

  -- the places of both
  both_places : (ts us : List (Taken P)) (old mid new : Booked P) (before between after : Positioned) → TakesRow ts old before mid between → TakesRow us mid between new after → new_places old new ≡ new_places old mid ++ new_places mid new
  both_places ts us old mid new before between after a b =
      let one = row_places before.number old.moment (replicate (length ts) Take) _ old.journal before mid.journal between a.row in
      let two = row_places between.number mid.moment (replicate (length us) Take) _ mid.journal between new.journal after b.row in
      ap (drop (length old.journal)) (b.row.journal ∙ (ap (λ l. l ++ b.row.places) a.row.journal ∙ append_assoc old.journal a.row.places b.row.places))
      ∙ (drop-append_seam old.journal (a.row.places ++ b.row.places) ∙ ap₂ (λ (l k : List Place). l ++ k) (sym one) (sym two))

  -- no result went out
  pub takes_none : (old : Booked P) (before : Positioned) → before.seen ≡ old.journal → TakesRow [] old before old before
  unfolding journal_from
  takes_none old before seen = record {
    row = record { places = []; journal = sym (append-nil old.journal); each = refl; entries = refl; own = sym (append-nil before.own); number = refl; seen = seen };
    entries = ap entries_of (drop-length old.journal);
    carries = λ kept has. (tt, has);
    setup = refl;
    moment = refl;
  }

  -- no step, from where all of the journal so far is seen
  pub looks_none : (old new : Booked P) (before after : Positioned) (first : ℕ) → after ≡ positioned before.number old.journal → after.own ≡ before.own → BeginsWith before.seen old.journal → before.position ≤ length old.journal → first ≡ length old.journal → new.journal ≡ old.journal → new.setup ≡ old.setup → new.moment ≡ old.moment
      → EntersRow [] old before (record { first = first; count = 0 }) new after
  unfolding journal_from
  looks_none old new before after first at own began above len same setup moment =
      enters [] old new before after (record { first = first; count = 0 })
      (record { places = []; journal = same ∙ sym (append-nil old.journal); each = refl; entries = refl; own = own ∙ sym (append-nil before.own); number = ap (λ (p : Positioned). p.number) at; seen = ap (λ (p : Positioned). p.seen) at ∙ sym same })
      len refl (record { above = above; began = began }) (ap (λ (p : Positioned). p.position) at ∙ ap length (sym same)) setup moment

  -- some went out, and more
  pub takes_on : (ts us : List (Taken P)) (old mid new : Booked P) (before between after : Positioned) → TakesRow ts old before mid between → TakesRow us mid between new after → TakesRow (ts ++ us) old before new after
  takes_on ts us old mid new before between after a b =
      let steps : replicate (length ts) Take ++ replicate (length us) Take ≡ replicate (length (ts ++ us)) Take = replicate-append-replicate (length ts) (length us) Take ∙ ap (λ n. replicate n Take) (sym (length-append ts us)) in
      record {
        row = subst (λ ss. IsRow before.number old.moment ss (run_from old.setup (world_where old.setup old.journal) ss) old.journal before new.journal after) steps (both_rows ts us old mid new before between after a b);
        entries = ap entries_of (both_places ts us old mid new before between after a b) ∙ (map-append (λ (p : Place). p.entry) (new_places old mid) (new_places mid new) ∙ (ap₂ (λ (l k : List Entry). l ++ k) a.entries b.entries ∙ sym (map-append (λ (t : Taken P). called_entry (Some t.returned)) ts us)));
        carries = λ kept has. let first = a.carries kept has in let second = b.carries kept first.1 in (are_kept_on kept ts us first.0 second.0, second.1);
        setup = b.setup ∙ a.setup;
        moment = b.moment ∙ a.moment;
      }

  -- one went out
  pub takes_one : (old new : Booked P) (before after : Positioned) (receipt : Receipted) (o : Option (Taken P)) (t : Taken P) → o ≡ Some t → receipt ≡ next_receipt old Take before.number (called_entry (option_map (λ x. x.returned) o)) → new.journal ≡ old.journal ++ receipt.entry ∷ []
      → called_entry (option_map (λ x. x.returned) o) ≡ next_entry old.setup old.journal Take → IsMoved before receipt after → Sees before old.journal after new.journal → (new.setup ≡ old.setup) × (new.moment ≡ old.moment)
      → ((kept : Kept P) → Carries kept old.core → CarriesOut kept o × Carries kept new.core) → TakesRow (t ∷ []) old before new after × StandsIn before old.journal
  unfolding journal_from
  takes_one old new before after receipt o t some told is entry moved saw rest carries =
      let its : Entry = called_entry (Some t.returned) in
      let out : called_entry (option_map (λ x. x.returned) o) ≡ its = ap (λ (y : Option (Taken P)). called_entry (option_map (λ x. x.returned) y)) some in
      let row = row_one before.number old.moment Take its old.journal before new.journal after receipt (length old.journal) (told ∙ ap (λ (e : Entry). next_receipt old Take before.number e) out) is moved saw in
      let run : IsRow before.number old.moment (Take ∷ []) (run_from old.setup (world_where old.setup old.journal) (Take ∷ [])) old.journal before new.journal after =
      subst (λ (e : Entry). IsRow before.number old.moment (Take ∷ []) (e ∷ []) old.journal before new.journal after) (sym out ∙ entry) row in
      let fresh = row_places before.number old.moment (Take ∷ []) (its ∷ []) old.journal before new.journal after row in (
        record {
          row = run;
          entries = ap entries_of fresh ∙ row.entries;
          carries = λ kept has. let both = carries kept has in ((subst (CarriesOut kept) some both.0, tt), both.1);
          setup = rest.0;
          moment = rest.1;
        },
        record { above = subst (λ n. before.position ≤ n) (ap (λ (r : Receipted). r.place) told) moved.0; began = saw.0 },
      )
