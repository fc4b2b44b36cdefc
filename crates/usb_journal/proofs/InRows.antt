-- Steps in a row, and the places where they are entered.
use Rattle.std.proofs.Common.{◌≡◌, ◌∙◌, ◌+◌, ◌++◌, ◌≤◌, ℕ, zero, suc, Bool, false, true, List, [], ◌∷◌, None, ap, ap₂, append_assoc, append-nil, arith, drop, length, map, refl, subst, sym}
use Rattle.std.specs.Prelude.{◌&&◌, ◌||◌, replicate}
use Rattle.std.proofs.Math.Seq.{drop-append_seam}
use Rattle.std.proofs.lemmas.List.{length-append, length-map, length-replicate, map-append, replicate-append-replicate}
use Rattle.usb_model.specs.declared.entry.Entry.{Entry}
use Rattle.usb_model.specs.declared.step.Step.{Step}
use Rattle.usb_model.specs.declared.step.Step.TheVariants.{Deliver}
use Rattle.usb_model.specs.Setup.{Setup}
use Rattle.usb_model.specs.World.{World, new_world, turn, world_from}
use Rattle.usb_model.specs.World.Journal.{journal, journal_from, run_from, world_run}
use Rattle.refine_core.specs.Steps.{TurnsInRow}
use Rattle.usb_core.specs.Public.{ShowsWorld, State, StillCarries, TurnsWorld, takes_memory}
use Rattle.usb_receipts.specs.Rule.{BeginsWith}
use Rattle.usb_recorder.specs.declared.place.Place.{Place}
use Rattle.usb_journal.specs.declared.rows.Row.{Row}
use Rattle.usb_journal.specs.declared.timer.Timer.{Timer}
use Rattle.usb_journal.specs.Booked.{Asked, Booked, IsMoved, IsRun, Replays, Sees, asked, asks, entries_of, steps_of, world_where}
use Rattle.usb_journal.specs.Entered.{DoesRow, IsRow, StandsIn}
use Rattle.usb_journal.specs.Rows.{EntersRow, MayStop, MayStopBehind, are_quiet, ends_any, is_end, is_quiet}
use Rattle.usb_journal.specs.Seen.{Positioned, Receipted, positioned}
use Rattle.usb_journal.specs.Timers.{ending, stopped_if, timers_by, timers_from, timers_of}
use Rattle.usb_journal.proofs.Replies.{plain_timers}

-- the entries of a run whose steps go on behind others
pub run_on : (setup : Setup) (w : World) (xs ys : List Step) → run_from setup w (xs ++ ys) ≡ run_from setup w xs ++ run_from setup (world_from setup w xs) ys
unfolding journal_from world_from
run_on setup w [] ys = refl
run_on setup w (x ∷ xs) ys = ap (λ l. (turn setup w x).entry ∷ l) (run_on setup (turn setup w x).world xs ys)

-- and the world behind it
pub world_on : (setup : Setup) (w : World) (xs ys : List Step) → world_from setup w (xs ++ ys) ≡ world_from setup (world_from setup w xs) ys
unfolding world_from
world_on setup w [] ys = refl
world_on setup w (x ∷ xs) ys = world_on setup (turn setup w x).world xs ys

-- a run has an entry for each step
pub run_length : (setup : Setup) (w : World) (steps : List Step) → length (run_from setup w steps) ≡ length steps
unfolding journal_from
run_length setup w [] = refl
run_length setup w (x ∷ xs) = ap suc (run_length setup (turn setup w x).world xs)

-- the steps of places are those that were asked for
pub steps_asked : (caller moment : ℕ) (steps : List Step) (places : List Place) → map asked places ≡ asks caller moment steps → steps_of places ≡ steps
steps_asked caller moment [] [] each = refl
steps_asked caller moment [] (p ∷ ps) each = absurd cc
steps_asked caller moment (s ∷ ss) [] each = absurd cc
steps_asked caller moment (s ∷ ss) (p ∷ ps) each =
    let head : asked p ≡ record { step = s; caller = caller; moment = moment } = cc in
    let rest : map asked ps ≡ asks caller moment ss = cc in
    ap₂ (λ (x : Step) (l : List Step). x ∷ l) (ap (λ (a : Asked). a.step) head) (steps_asked caller moment ss ps rest)

-- the timers of more places
timers_on : (ts : List Timer) (xs ys : List Place) → timers_from ts (xs ++ ys) ≡ timers_from (timers_from ts xs) ys
timers_on ts [] ys = refl
timers_on ts (x ∷ xs) ys = timers_on (timers_by ts x.step x.entry.reply x.moment) xs ys

-- a step that neither submits nor ends a callback leaves them
timers_stay : (ts : List Timer) (step : Step) (caller moment n : ℕ) (places : List Place) → takes_memory step ≡ false → ending step ≡ None → map asked places ≡ asks caller moment (replicate n step) → timers_from ts places ≡ ts
timers_stay ts step caller moment n [] plain none each = refl
timers_stay ts step caller moment zero (p ∷ ps) plain none each = absurd cc
timers_stay ts step caller moment (suc n) (p ∷ ps) plain none each =
    let head : asked p ≡ record { step = step; caller = caller; moment = moment } = cc in
    let rest : map asked ps ≡ asks caller moment (replicate n step) = cc in
    let one : timers_by ts p.step p.entry.reply p.moment ≡ ts = ap (λ (a : Asked). timers_by ts a.step p.entry.reply a.moment) head ∙ (sym (plain_timers ts step p.entry.reply moment plain) ∙ ap (λ o. stopped_if o p.entry.reply ts) none) in
    ap (λ l. timers_from l ps) one ∙ timers_stay ts step caller moment n ps plain none rest

module _ (caller moment : ℕ) where
  -- no place
  pub row_none : (first : List Place) (before : Positioned) → before.seen ≡ first → IsRow caller moment [] [] first before first before
  row_none first before seen = record { places = []; journal = sym (append-nil first); each = refl; entries = refl; own = sym (append-nil before.own); number = refl; seen = seen }

  -- one place, as it is entered
  pub row_one : (step : Step) (entry : Entry) (first : List Place) (before : Positioned) (later : List Place) (after : Positioned) (receipt : Receipted) (place : ℕ)
      → receipt ≡ record { place = place; entry = record { step = step; caller = caller; entry = entry; moment = moment } } → later ≡ first ++ receipt.entry ∷ [] → IsMoved before receipt after → Sees before first after later
      → IsRow caller moment (step ∷ []) (entry ∷ []) first before later after
  row_one step entry first before later after receipt place told is moved saw = record {
    places = receipt.entry ∷ [];
    journal = is;
    each = ap (λ (r : Receipted). asked r.entry ∷ []) told;
    entries = ap (λ (r : Receipted). r.entry.entry ∷ []) told;
    own = moved.2;
    number = moved.3;
    seen = saw.1;
  }

  -- a row behind another
  pub row_on : (xs ys : List Step) (es fs : List Entry) (first : List Place) (before : Positioned) (mid : List Place) (between : Positioned) (later : List Place) (after : Positioned) → IsRow caller moment xs es first before mid between → IsRow caller moment ys fs mid between later after
      → IsRow caller moment (xs ++ ys) (es ++ fs) first before later after
  row_on xs ys es fs first before mid between later after a b = record {
    places = a.places ++ b.places;
    journal = b.journal ∙ (ap (λ l. l ++ b.places) a.journal ∙ append_assoc first a.places b.places);
    each = map-append asked a.places b.places ∙ (ap₂ (λ (l k : List Asked). l ++ k) a.each b.each ∙ sym (map-append (λ (s : Step). record { step = s; caller = caller; moment = moment }) xs ys));
    entries = map-append (λ (p : Place). p.entry) a.places b.places ∙ ap₂ (λ (l k : List Entry). l ++ k) a.entries b.entries;
    own = b.own ∙ (ap (λ l. l ++ b.places) a.own ∙ append_assoc before.own a.places b.places);
    number = b.number ∙ a.number;
    seen = b.seen;
  }

  module _ (steps : List Step) (told : List Entry) (first : List Place) (before : Positioned) (later : List Place) (after : Positioned) (r : IsRow caller moment steps told first before later after) where
    -- as many places as steps
    pub row_count : length later ≡ length first + length steps
    row_count =
        let all : length (steps_of r.places) ≡ length steps = ap length (steps_asked caller moment steps r.places r.each) in
        let some : length (steps_of r.places) ≡ length r.places = length-map r.places (λ (p : Place). p.step) in
        ap length r.journal ∙ (length-append first r.places ∙ ap (λ n. length first + n) (sym some ∙ all))

    -- they are what the journal has more
    pub row_places : drop (length first) later ≡ r.places
    row_places = ap (drop (length first)) r.journal ∙ drop-append_seam first r.places

    -- the world behind them
    pub world_behind : (setup : Setup) → world_where setup later ≡ world_from setup (world_where setup first) steps
    world_behind setup =
        ap (world_where setup) r.journal ∙ (ap (world_from setup (new_world setup)) (map-append (λ (p : Place). p.step) first r.places)
        ∙ (world_on setup (new_world setup) (steps_of first) (steps_of r.places) ∙ ap (world_from setup (world_where setup first)) (steps_asked caller moment steps r.places r.each)))

  -- a journal of a run goes on being one
  pub run_behind : (setup : Setup) (steps : List Step) (first : List Place) (before : Positioned) (later : List Place) (after : Positioned) → IsRow caller moment steps (run_from setup (world_where setup first) steps) first before later after → IsRun setup first → IsRun setup later
  unfolding journal
  run_behind setup steps first before later after r run =
      subst (IsRun setup) (sym r.journal)
      (map-append (λ (p : Place). p.entry) first r.places ∙ (ap₂ (λ (l k : List Entry). l ++ k) run r.entries
      ∙ (ap (λ ss. world_run setup (steps_of first) ++ run_from setup (world_where setup first) ss) (sym (steps_asked caller moment steps r.places r.each))
      ∙ (sym (run_on setup (new_world setup) (steps_of first) (steps_of r.places)) ∙ ap (world_run setup) (sym (map-append (λ (p : Place). p.step) first r.places))))))

module _ {P : Type 0} (setup : Setup) (moment : ℕ) where
  -- no step
  pub makes_none : (core : State P) (first : List Place) (before : Positioned) → before.seen ≡ first → Replays setup first core → DoesRow setup moment [] core first before core first before
  unfolding journal_from
  makes_none core first before seen run = record { row = row_none before.number moment first before seen; run = run; timers = refl; carries = λ kept has. has }

  -- the same step so many times, as the core made it and as it was entered
  pub makes_of : (n : ℕ) (step : Step) (told : List Entry) (old : State P) (first : List Place) (before : Positioned) (new : State P) (later : List Place) (after : Positioned) → takes_memory step ≡ false → ending step ≡ None
      → TurnsInRow old (replicate n step) told new → IsRow before.number moment (replicate n step) told first before later after → StillCarries old new → Replays setup first old
      → DoesRow setup moment (replicate n step) old first before new later after
  makes_of n step told old first before new later after plain none turns entered carries run =
      let made = turns setup (world_where setup first) run.1 in
      let row : IsRow before.number moment (replicate n step) (run_from setup (world_where setup first) (replicate n step)) first before later after = subst (λ es. IsRow before.number moment (replicate n step) es first before later after) made.0 entered in
      record {
        row = row;
        run = (run_behind before.number moment setup (replicate n step) first before later after row run.0, subst (ShowsWorld setup new) (sym (world_behind before.number moment (replicate n step) told first before later after entered setup)) made.1);
        timers = ap timers_of entered.journal ∙ (timers_on [] first entered.places ∙ timers_stay (timers_of first) step before.number moment n entered.places plain none entered.each);
        carries = carries;
      }

  -- one step, as the core made it and as it was entered
  pub makes_one : (step : Step) (entry : Entry) (caller : ℕ) (old : State P) (first : List Place) (before : Positioned) (new : State P) (later : List Place) (after : Positioned) (receipt : Receipted) → takes_memory step ≡ false → ending step ≡ None → TurnsWorld old step entry new
      → caller ≡ before.number → receipt ≡ record { place = length first; entry = record { step = step; caller = caller; entry = entry; moment = moment } } → later ≡ first ++ receipt.entry ∷ [] → IsMoved before receipt after → Sees before first after later → StillCarries old new → Replays setup first old
      → DoesRow setup moment (step ∷ []) old first before new later after
  unfolding journal_from world_from
  makes_one step entry caller old first before new later after receipt plain none turn bearer told is moved saw carries run =
      let turns : TurnsInRow old (replicate 1 step) (entry ∷ []) new = λ s w shown. let one = turn s w shown in (ap (λ (e : Entry). e ∷ []) one.0, one.1) in
      makes_of 1 step (entry ∷ []) old first before new later after plain none turns
      (subst (λ n. IsRow n moment (step ∷ []) (entry ∷ []) first before later after) bearer (row_one caller moment step entry first before later after receipt (length first) told is moved saw)) carries run

  -- a row behind another
  pub makes_on : (xs ys : List Step) (old : State P) (first : List Place) (before : Positioned) (core : State P) (mid : List Place) (between : Positioned) (new : State P) (later : List Place) (after : Positioned) → DoesRow setup moment xs old first before core mid between → DoesRow setup moment ys core mid between new later after
      → DoesRow setup moment (xs ++ ys) old first before new later after
  makes_on xs ys old first before core mid between new later after a b =
      let behind = world_behind before.number moment xs (run_from setup (world_where setup first) xs) first before mid between a.row setup in
      let its : IsRow before.number moment ys (run_from setup (world_where setup mid) ys) mid between later after = subst (λ n. IsRow n moment ys (run_from setup (world_where setup mid) ys) mid between later after) a.row.number b.row in
      let both : run_from setup (world_where setup first) xs ++ run_from setup (world_where setup mid) ys ≡ run_from setup (world_where setup first) (xs ++ ys) =
      ap (λ w. run_from setup (world_where setup first) xs ++ run_from setup w ys) behind ∙ sym (run_on setup (world_where setup first) xs ys) in
      record {
        row = subst (λ es. IsRow before.number moment (xs ++ ys) es first before later after) both (row_on before.number moment xs ys (run_from setup (world_where setup first) xs) (run_from setup (world_where setup mid) ys) first before mid between later after a.row its);
        run = b.run;
        timers = b.timers ∙ a.timers;
        carries = λ kept has. b.carries kept (a.carries kept has);
      }

  -- so many of the same step, and more of it
  pub makes_more : (n k : ℕ) (step : Step) (old : State P) (first : List Place) (before : Positioned) (core : State P) (mid : List Place) (between : Positioned) (new : State P) (later : List Place) (after : Positioned) → DoesRow setup moment (replicate n step) old first before core mid between
      → DoesRow setup moment (replicate k step) core mid between new later after → DoesRow setup moment (replicate (n + k) step) old first before new later after
  makes_more n k step old first before core mid between new later after a b =
      subst (λ ss. DoesRow setup moment ss old first before new later after) (replicate-append-replicate n k step) (makes_on (replicate n step) (replicate k step) old first before core mid between new later after a b)

  -- as many places as steps
  pub makes_count : (n : ℕ) (step : Step) (old : State P) (first : List Place) (before : Positioned) (new : State P) (later : List Place) (after : Positioned) → DoesRow setup moment (replicate n step) old first before new later after → length later ≡ length first + n
  makes_count n step old first before new later after a =
      row_count before.number moment (replicate n step) (run_from setup (world_where setup first) (replicate n step)) first before later after a.row ∙ ap (λ k. length first + k) (length-replicate n step)

  -- the entries of so many of the same step, and of more of it
  pub run_more : (n k : ℕ) (step : Step) (old : State P) (first : List Place) (before : Positioned) (core : State P) (mid : List Place) (between : Positioned) → DoesRow setup moment (replicate n step) old first before core mid between
      → run_from setup (world_where setup first) (replicate (n + k) step) ≡ run_from setup (world_where setup first) (replicate n step) ++ run_from setup (world_where setup mid) (replicate k step)
  run_more n k step old first before core mid between a =
      let w = world_where setup first in
      let behind = world_behind before.number moment (replicate n step) (run_from setup w (replicate n step)) first before mid between a.row setup in
      ap (run_from setup w) (sym (replicate-append-replicate n k step)) ∙ (run_on setup w (replicate n step) (replicate k step) ∙ ap (λ v. run_from setup w (replicate n step) ++ run_from setup v (replicate k step)) (sym behind))

-- a row, of a position that looks behind it
pub row_looked : (caller moment : ℕ) (steps : List Step) (told : List Entry) (first : List Place) (before : Positioned) (later : List Place) (mid after : Positioned) → IsRow caller moment steps told first before later mid → after ≡ positioned mid.number later → after.own ≡ mid.own → IsRow caller moment steps told first before later after
row_looked caller moment steps told first before later mid after r at own = record {
  places = r.places;
  journal = r.journal;
  each = r.each;
  entries = r.entries;
  own = own ∙ r.own;
  number = ap (λ (p : Positioned). p.number) at ∙ r.number;
  seen = ap (λ (p : Positioned). p.seen) at;
}

module _ {P : Type 0} where
  -- a row of places is what a caller is told
  pub enters : (steps : List Step) (old new : Booked P) (before after : Positioned) (row : Row) → IsRow before.number old.moment steps (run_from old.setup (world_where old.setup old.journal) steps) old.journal before new.journal after
      → row.first ≡ length old.journal → row.count ≡ length steps → StandsIn before old.journal → after.position ≡ length new.journal → new.setup ≡ old.setup → new.moment ≡ old.moment → EntersRow steps old before row new after
  enters steps old new before after row r first count on position setup moment =
      let fresh = row_places before.number old.moment steps (run_from old.setup (world_where old.setup old.journal) steps) old.journal before new.journal after r in
      record {
        first = first;
        above = subst (λ n. before.position ≤ n) (sym first) on.above;
        count = count;
        journal = r.journal ∙ ap (λ l. old.journal ++ l) (sym fresh);
        each = ap (map asked) fresh ∙ r.each;
        entries = ap entries_of fresh ∙ r.entries;
        position = position ∙ (row_count before.number old.moment steps (run_from old.setup (world_where old.setup old.journal) steps) old.journal before new.journal after r ∙ ap₂ (λ (a b : ℕ). a + b) (sym first) (sym count));
        own = r.own ∙ ap (λ l. before.own ++ l) (sym fresh);
        number = r.number;
        saw = (on.began, r.seen);
        setup = setup;
        moment = moment;
      }

  -- the same where the position looks before the row and behind it
  pub enters_looking : (steps : List Step) (old new : Booked P) (before looked mid after : Positioned) (row : Row) → looked ≡ positioned before.number old.journal → looked.own ≡ before.own → BeginsWith before.seen old.journal → before.position ≤ length old.journal
      → IsRow looked.number old.moment steps (run_from old.setup (world_where old.setup old.journal) steps) old.journal looked new.journal mid → after ≡ positioned mid.number new.journal → after.own ≡ mid.own
      → row.first ≡ length old.journal → row.count ≡ length steps → new.setup ≡ old.setup → new.moment ≡ old.moment → EntersRow steps old before row new after
  enters_looking steps old new before looked mid after row at own began above r end same first count setup moment =
      let its : looked.number ≡ before.number = ap (λ (p : Positioned). p.number) at in
      let behind = row_looked looked.number old.moment steps (run_from old.setup (world_where old.setup old.journal) steps) old.journal looked new.journal mid after r end same in
      let from : IsRow looked.number old.moment steps (run_from old.setup (world_where old.setup old.journal) steps) old.journal before new.journal after = record {
        places = behind.places;
        journal = behind.journal;
        each = behind.each;
        entries = behind.entries;
        own = behind.own ∙ ap (λ l. l ++ behind.places) own;
        number = behind.number ∙ its;
        seen = behind.seen;
      } in
      enters steps old new before after row (subst (λ n. IsRow n old.moment steps (run_from old.setup (world_where old.setup old.journal) steps) old.journal before new.journal after) its from) first count
      (record { above = above; began = began }) (ap (λ (p : Positioned). p.position) end) setup moment

-- of three of which one is so, no matter which two are asked first
or_behind : (x y z : Bool) → (x || (y || z)) ≡ ((x || y) || z)
or_behind true y z = refl
or_behind false y z = refl

-- or all of which are
and_behind : (x y z : Bool) → (x && (y && z)) ≡ ((x && y) && z)
and_behind true y z = refl
and_behind false y z = refl

and_true : (x : Bool) → (x && true) ≡ x
and_true true = refl
and_true false = refl

-- no packet ended a transfer
pub none_ended : (setup : Setup) (w : World) → ends_any (run_from setup w []) ≡ false
unfolding journal_from
none_ended setup w = refl

-- one of these or those ended a transfer
pub ends_on : (xs ys : List Entry) → ends_any (xs ++ ys) ≡ (ends_any xs || ends_any ys)
ends_on [] ys = refl
ends_on (x ∷ xs) ys = ap (λ b. is_end x.reply || b) (ends_on xs ys) ∙ or_behind (is_end x.reply) (ends_any xs) (ends_any ys)

-- where packets may stop behind the last, they may stop behind all
pub may_stop_last : (setup : Setup) (w : World) (d e : ℕ) (xs : List Entry) (y : Entry) → MayStop setup w d e y.reply → MayStopBehind setup w d e (xs ++ y ∷ [])
may_stop_last setup w d e [] y may = may
may_stop_last setup w d e (x ∷ []) y may = may
may_stop_last setup w d e (x ∷ z ∷ zs) y may = may_stop_last setup w d e (z ∷ zs) y may

-- one event more
pub quiet_more : (setup : Setup) (w : World) (n : ℕ) → are_quiet setup w (n + 1) ≡ (are_quiet setup w n && is_quiet setup (world_from setup w (replicate n Deliver)))
unfolding world_from
quiet_more setup w zero = and_true (is_quiet setup w)
quiet_more setup w (suc n) =
    let same : suc n + 1 ≡ suc (n + 1) = omega arith in
    let v = (turn setup w Deliver).world in
    ap (are_quiet setup w) same ∙ (ap (λ b. is_quiet setup w && b) (quiet_more setup v n) ∙ and_behind (is_quiet setup w) (are_quiet setup v n) (is_quiet setup (world_from setup v (replicate n Deliver))))
