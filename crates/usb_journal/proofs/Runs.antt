-- A run of one step more.
use Rattle.std.proofs.Common.{◌≡◌, ◌∙◌, ℕ, List, [], ◌∷◌, ◌++◌, ap, length, refl, subst, sym}
use Rattle.std.proofs.lemmas.List.{map-append}
use Rattle.usb_model.specs.declared.entry.Entry.{Entry}
use Rattle.usb_model.specs.declared.step.Step.{Step}
use Rattle.usb_model.specs.Setup.{Setup}
use Rattle.usb_model.specs.World.{World, new_world, turn, world_from}
use Rattle.usb_model.specs.World.Journal.{entries_in, journal, journal_from, world_run}
use Rattle.usb_core.specs.Public.{ShowsWorld, State, Stays, StillCarries, TurnsWorld}
use Rattle.usb_recorder.specs.declared.place.Place.{Place}
use Rattle.usb_journal.specs.declared.timer.Timer.{Timer}
use Rattle.usb_journal.specs.Seen.{Receipted}
use Rattle.usb_journal.specs.Booked.{Booked, IsRun, IsSame, Replays, next_entry, next_receipt, steps_of, world_where}
use Rattle.usb_journal.specs.Timers.{timers_by, timers_from, timers_of}

-- the world behind one step more
pub world_from-push : (setup : Setup) (w : World) (steps : List Step) (step : Step) → world_from setup w (steps ++ step ∷ []) ≡ (turn setup (world_from setup w steps) step).world
unfolding world_from
world_from-push setup w [] step = refl
world_from-push setup w (x ∷ xs) step = world_from-push setup (turn setup w x).world xs step

-- and its entry
run-push : (setup : Setup) (w : World) (steps : List Step) (step : Step) → entries_in (journal_from setup w (steps ++ step ∷ [])) ≡ entries_in (journal_from setup w steps) ++ (turn setup (world_from setup w steps) step).entry ∷ []
unfolding world_from journal_from
run-push setup w [] step = refl
run-push setup w (x ∷ xs) step = ap (λ l. (turn setup w x).entry ∷ l) (run-push setup (turn setup w x).world xs step)

-- the world where a journal ends that has one place more
pub world_where-push : (setup : Setup) (places : List Place) (p : Place) → world_where setup (places ++ p ∷ []) ≡ (turn setup (world_where setup places) p.step).world
world_where-push setup places p = ap (world_from setup (new_world setup)) (map-append (λ (x : Place). x.step) places (p ∷ [])) ∙ world_from-push setup (new_world setup) (steps_of places) p.step

-- a journal of a run goes on being one
pub is_run-push : (setup : Setup) (places : List Place) (p : Place) → p.entry ≡ next_entry setup places p.step → IsRun setup places → IsRun setup (places ++ p ∷ [])
unfolding journal
is_run-push setup places p next run =
    map-append (λ (x : Place). x.entry) places (p ∷ []) ∙ (ap (λ l. l ++ p.entry ∷ []) run ∙ (ap (λ e. world_run setup (steps_of places) ++ e ∷ []) next
    ∙ (sym (run-push setup (new_world setup) (steps_of places) p.step) ∙ ap (world_run setup) (sym (map-append (λ (x : Place). x.step) places (p ∷ []))))))

-- the timers of one place more
pub timers-push : (ts : List Timer) (places : List Place) (p : Place) → timers_from ts (places ++ p ∷ []) ≡ timers_by (timers_from ts places) p.step p.entry.reply p.moment
timers-push ts [] p = refl
timers-push ts (x ∷ xs) p = timers-push (timers_by ts x.step x.entry.reply x.moment) xs p

module _ {P : Type 0} where
  -- the entry of a turn of what shows a journal's world
  pub next_is : (setup : Setup) (places : List Place) (core new : State P) (step : Step) (entry : Entry) → TurnsWorld core step entry new → Replays setup places core → entry ≡ next_entry setup places step
  next_is setup places core new step entry turn r = (turn setup (world_where setup places) r.1).0

  -- and a place with it goes behind the journal
  pub replays-push : (setup : Setup) (places : List Place) (core new : State P) (p : Place) → TurnsWorld core p.step p.entry new → Replays setup places core → Replays setup (places ++ p ∷ []) new
  replays-push setup places core new p turn r =
      let made = turn setup (world_where setup places) r.1 in
      (is_run-push setup places p made.0 r.0, subst (ShowsWorld setup new) (sym (world_where-push setup places p)) made.1)

  -- nothing changed that anybody sees
  pub replays_still : (setup : Setup) (places : List Place) (core new : State P) → Stays core new → Replays setup places core → Replays setup places new
  replays_still setup places core new stays r = (r.0, (r.1.0, stays setup r.1.0 r.1.1, r.1.2))

-- one place more of a journal whose timers these are
pub timers_more : (ts after : List Timer) (places : List Place) (p : Place) → ts ≡ timers_of places → after ≡ timers_by ts p.step p.entry.reply p.moment → after ≡ timers_of (places ++ p ∷ [])
timers_more ts after places p are is = is ∙ (ap (λ l. timers_by l p.step p.entry.reply p.moment) are ∙ sym (timers-push [] places p))

-- the same place by its step and its entry
pub same_place : (step its : Step) (caller : ℕ) (entry told : Entry) (moment : ℕ) → step ≡ its → entry ≡ told → ◌≡◌ {A = Place} (record { step = step; caller = caller; entry = entry; moment = moment }) (record { step = its; caller = caller; entry = told; moment = moment })
same_place step its caller entry told moment is are = ap (λ s. record { step = s; caller = caller; entry = entry; moment = moment }) is ∙ ap (λ e. record { step = its; caller = caller; entry = e; moment = moment }) are

module _ {P : Type 0} (setup : Setup) (journal prepared : List Place) (core new : State P) where
  -- a book stands with one place more
  pub entered : (after : List Place) (ts later : List Timer) (p : Place) (receipt : Receipted) (place : ℕ) → prepared ≡ journal → after ≡ prepared ++ receipt.entry ∷ [] → receipt ≡ record { place = place; entry = p } → TurnsWorld core p.step p.entry new → later ≡ timers_by ts p.step p.entry.reply p.moment
      → Replays setup journal core × (ts ≡ timers_of journal) → Replays setup after new × (later ≡ timers_of after)
  entered after ts later p receipt place same is told turn timers i =
      let journal_is : after ≡ journal ++ p ∷ [] = is ∙ (ap (λ l. l ++ receipt.entry ∷ []) same ∙ ap (λ (r : Receipted). journal ++ r.entry ∷ []) told) in
      subst (λ l. Replays setup l new × (later ≡ timers_of l)) (sym journal_is) (replays-push setup journal core new p turn i.0, timers_more ts later journal p i.1 timers)

  -- nothing changed that anybody sees
  pub stands_still : (ts later : List Timer) → prepared ≡ journal → later ≡ ts → Stays core new → Replays setup journal core × (ts ≡ timers_of journal) → Replays setup prepared new × (later ≡ timers_of prepared)
  stands_still ts later same are stays i = subst (λ l. Replays setup l new × (later ≡ timers_of l)) (sym same) (replays_still setup journal core new stays i.0, are ∙ i.1)

  pub same_book : (moment : ℕ) (old : Booked P) → record { setup = setup; journal = journal; moment = moment; core = core } ≡ old → prepared ≡ journal → Stays core new → StillCarries core new → IsSame old (record { setup = setup; journal = prepared; moment = moment; core = new })
  same_book moment old is same stays still = subst (λ b. IsSame b (record { setup = setup; journal = prepared; moment = moment; core = new })) is (record { setup = refl; journal = same; moment = refl; core = stays; carries = still })

module _ {P : Type 0} where
  -- the receipt of a place that was entered behind a prepared journal is the next one's
  pub received : (setup : Setup) (journal prepared : List Place) (core : State P) (moment : ℕ) (old : Booked P) (receipt : Receipted) (its step : Step) (caller : ℕ) (entry : Entry)
      → record { setup = setup; journal = journal; moment = moment; core = core } ≡ old → prepared ≡ journal → its ≡ step
      → receipt ≡ record { place = length prepared; entry = record { step = its; caller = caller; entry = entry; moment = moment } } → receipt ≡ next_receipt old step caller entry
  received setup journal prepared core moment old receipt its step caller entry is same asked told =
      told
      ∙ (ap (λ (l : List Place). record { place = length l; entry = record { step = its; caller = caller; entry = entry; moment = moment } }) same
      ∙ (ap (λ (s : Step). record { place = length journal; entry = record { step = s; caller = caller; entry = entry; moment = moment } }) asked
      ∙ ap (λ (b : Booked P). next_receipt b step caller entry) is))

  -- no step was made
  pub none_yet : (setup : Setup) (core : State P) → ShowsWorld setup core (new_world setup) → Replays setup [] core
  unfolding journal journal_from world_from
  none_yet setup core shows = (refl, shows)
