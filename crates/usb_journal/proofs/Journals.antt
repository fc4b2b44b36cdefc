-- The timers of each handle go with its transfers where a journal ends.
use Rattle.std.proofs.Common.{◌≡◌, ◌∙◌, ◌==◌, ◌++◌, ℕ, Bool, true, false, List, [], ◌∷◌, Option, Some, None, ap, append-nil, append_assoc, inl, inr, refl, subst, sym}
use Rattle.std.specs.Prelude.{◌&&◌, not}
use Rattle.std.proofs.lemmas.Bool.{or_parts}
use Rattle.std.proofs.lemmas.List.{map-append}
use Rattle.usb_model.specs.declared.entry.Entry.{Entry}
use Rattle.usb_model.specs.declared.reply.Reply.{Reply}
use Rattle.usb_model.specs.declared.reply.Reply.TheVariants as reply
use Rattle.usb_model.specs.declared.step.Step.{Step}
use Rattle.usb_model.specs.declared.step.Step.TheVariants.{Answer, Submit}
use Rattle.usb_model.specs.declared.verdict.Verdict.TheVariants.{Again, AgainWith, Stop}
use Rattle.usb_model.specs.Machine.Turns.{machine_after}
use Rattle.usb_model.specs.Machine.{new_machine}
use Rattle.usb_model.specs.Setup.{Setup}
use Rattle.usb_model.specs.World.{Turn, World, is_blocked, is_its, machine_of, owner_of, turn, turn_by, turn_of, world_from}
use Rattle.usb_model.specs.World.Due.{Dated, is_number}
use Rattle.usb_model.specs.World.Journal.{entries_in, is_held_elsewhere, is_unplug, journal, journal_from}
use Rattle.proof_model.proofs.Machines.Done.{is_done}
use Rattle.proof_model.proofs.Places.Runs.{kept_new, kept_step}
use Rattle.proof_model.proofs.Handles.Isolation.{IsEither, effect_to, is_own_step, new_machine_of, turn_blocked, turn_free, turn_to}
use Rattle.usb_recorder.specs.declared.place.Place.{Place}
use Rattle.usb_journal.specs.declared.timer.Timer.{Timer}
use Rattle.usb_journal.specs.Booked.{IsRun, dated, entries_of, steps_of, world_where}
use Rattle.usb_journal.specs.Timers.{ended, numbered, stopped, timers_by, timers_of}
use Rattle.usb_journal.proofs.Owns.{Left, none, own, own_push_other, own_stopped_other}
use Rattle.usb_journal.proofs.Runs.{timers-push, world_where-push}
use Rattle.usb_journal.proofs.Steps.{own_step}
use Rattle.usb_journal.proofs.Tracks.{IsOver, Tracks, gives, quiet}

-- who submits
abbrev submitter : Step → Option ℕ
submitter (Submit g request) = Some g
submitter (Answer g k verdict) = Some g
submitter step = None

owner_submits : (setup : Setup) (w : World) (step : Step) (g : ℕ) → submitter step ≡ Some g → owner_of setup w step ≡ Some g
owner_submits setup w (Submit f request) g e = e
owner_submits setup w (Answer f k verdict) g e = e
owner_submits setup w _ g e = absurd cc

-- the entry of a name's step has it as owner
turn_owner : (setup : Setup) (w : World) (step : Step) (g : ℕ) → owner_of setup w step ≡ Some g → (turn setup w step).entry.owner ≡ Some g
unfolding turn
turn_owner setup w step g e = ap (λ o. (turn_by setup o w step).entry.owner) e ∙ by_test (is_blocked setup g w (effect_to setup g w step).change) refl
  where
    by_test : (b : Bool) → is_blocked setup g w (effect_to setup g w step).change ≡ b → (turn_of setup g w step).entry.owner ≡ Some g
    by_test true blocked = ap (λ (t : Turn). t.entry.owner) (turn_blocked setup g w step blocked)
    by_test false free = ap (λ (t : Turn). t.entry.owner) (turn_free setup g w step free)

-- another's submissions leave a handle's timers
others_numbered : (h : ℕ) (ts : List Timer) (step : Step) (n moment : ℕ) → ((g : ℕ) → submitter step ≡ Some g → (g == h) ≡ false) → own h (numbered ts step n moment) ≡ own h ts
others_numbered h ts (Submit g request) n moment other = own_push_other h ts _ (other g refl)
others_numbered h ts (Answer g k Again) n moment other = own_push_other h (stopped g k ts) _ (other g refl) ∙ own_stopped_other g h k ts (other g refl)
others_numbered h ts (Answer g k (AgainWith bytes)) n moment other = own_push_other h (stopped g k ts) _ (other g refl) ∙ own_stopped_other g h k ts (other g refl)
others_numbered h ts (Answer g k Stop) n moment other = refl
others_numbered h ts _ n moment other = refl

others_ended : (h : ℕ) (ts : List Timer) (step : Step) → ((g : ℕ) → submitter step ≡ Some g → (g == h) ≡ false) → own h (ended ts step) ≡ own h ts
others_ended h ts (Answer g k Stop) other = own_stopped_other g h k ts (other g refl)
others_ended h ts (Answer g k Again) other = refl
others_ended h ts (Answer g k (AgainWith bytes)) other = refl
others_ended h ts _ other = refl

others_timers : (h : ℕ) (ts : List Timer) (step : Step) (moment : ℕ) (r : Reply) → ((g : ℕ) → submitter step ≡ Some g → (g == h) ≡ false) → own h (timers_by ts step r moment) ≡ own h ts
others_timers h ts step moment (reply.Number n) other = others_numbered h ts step n moment other
others_timers h ts step moment reply.Done other = others_ended h ts step other
others_timers h ts step moment _ other = refl

-- a step that another was in the way of
held_number : (r : Reply) (n : ℕ) → is_held_elsewhere r ≡ true → is_number n r ≡ false
held_number (reply.Refused why) n held = refl
held_number _ n held = absurd cc

held_timers : (ts : List Timer) (step : Step) (moment : ℕ) (r : Reply) → is_held_elsewhere r ≡ true → timers_by ts step r moment ≡ ts
held_timers ts step moment (reply.Refused why) held = refl
held_timers ts step moment _ held = absurd cc

and_false : (b : Bool) → (b && false) ≡ false
and_false true = refl
and_false false = refl

module _ (setup : Setup) (h : ℕ) (w : World) (ts : List Timer) (book : List Dated) (step : Step) (moment : ℕ) where
  -- the place of the step
  abbrev place_of : Entry → Dated
  place_of entry = record { place = record { step = step; entry = entry }; moment = moment }

  -- a step that is nothing to the handle
  nothing_step : (entry : Entry) → ((g : ℕ) → submitter step ≡ Some g → entry.owner ≡ Some g) → is_own_step h step entry ≡ false → Tracks setup h (machine_of setup h w) (own h ts) book
      → Tracks setup h (machine_of setup h w) (own h (timers_by ts step entry.reply moment)) (book ++ place_of entry ∷ [])
  nothing_step entry owned others t = by_test (is_its h entry.owner) refl
    where
      parts : (is_its h entry.owner && not (is_held_elsewhere entry.reply)) ≡ false
      parts = (or_parts (is_unplug step) _ others).1

      moved : own h (timers_by ts step entry.reply moment) ≡ own h ts → ((n : ℕ) → gives h n (place_of entry) ≡ false) → Tracks setup h (machine_of setup h w) (own h (timers_by ts step entry.reply moment)) (book ++ place_of entry ∷ [])
      moved same gives_none =
          quiet setup h (machine_of setup h w) (machine_of setup h w) (own h ts) (own h (timers_by ts step entry.reply moment)) book (place_of entry) t t.called t.kept refl t.known
          (subst (λ l. Left (IsOver (machine_of setup h w) t.called) l t.all) (sym same) t.left) gives_none

      by_test : (b : Bool) → is_its h entry.owner ≡ b → Tracks setup h (machine_of setup h w) (own h (timers_by ts step entry.reply moment)) (book ++ place_of entry ∷ [])
      by_test false other = moved (others_timers h ts step moment entry.reply (λ g e. ap (is_its h) (sym (owned g e)) ∙ other)) (λ n. ap (λ b. b && is_number n entry.reply) other)
      by_test true its = by_held (is_held_elsewhere entry.reply) refl
        where
          by_held : (b : Bool) → is_held_elsewhere entry.reply ≡ b → Tracks setup h (machine_of setup h w) (own h (timers_by ts step entry.reply moment)) (book ++ place_of entry ∷ [])
          by_held true held = moved (ap (own h) (held_timers ts step moment entry.reply held)) (λ n. ap (λ b. is_its h entry.owner && b) (held_number entry.reply n held) ∙ and_false (is_its h entry.owner))
          by_held false free = let yes : (is_its h entry.owner && not (is_held_elsewhere entry.reply)) ≡ true = ap (λ b. b && not (is_held_elsewhere entry.reply)) its ∙ ap (λ b. not b) free in absurd (cc (yes, parts))

  -- any step
  pub tracks_step : Tracks setup h (machine_of setup h w) (own h ts) book
      → Tracks setup h (machine_of setup h (turn setup w step).world) (own h (timers_by ts step (turn setup w step).entry.reply moment)) (book ++ place_of (turn setup w step).entry ∷ [])
  tracks_step t = by_turn (turn_to setup h w step)
    where
      by_turn : IsEither setup h w step (turn setup w step) → Tracks setup h (machine_of setup h (turn setup w step).world) (own h (timers_by ts step (turn setup w step).entry.reply moment)) (book ++ place_of (turn setup w step).entry ∷ [])
      by_turn (inl mine) =
          subst (λ m. Tracks setup h m (own h (timers_by ts step (turn setup w step).entry.reply moment)) (book ++ place_of (turn setup w step).entry ∷ [])) (sym mine.3)
          (subst (λ (e : Entry). Tracks setup h (machine_after setup (machine_of setup h w) step (effect_to setup h w step)) (own h (timers_by ts step e.reply moment)) (book ++ place_of e ∷ [])) (sym mine.1)
          (own_step setup h (machine_of setup h w) ts book moment w t step (effect_to setup h w step) mine.0 (is_done setup h (machine_of setup h w) step t.kept.well) (kept_step setup h (machine_of setup h w) step t.called t.kept)))
      by_turn (inr nothing) =
          subst (λ m. Tracks setup h m (own h (timers_by ts step (turn setup w step).entry.reply moment)) (book ++ place_of (turn setup w step).entry ∷ [])) (sym nothing.1)
          (nothing_step (turn setup w step).entry (λ g e. turn_owner setup w step g (owner_submits setup w step g e)) nothing.0 t)

module _ (setup : Setup) (h : ℕ) where
  -- where a journal ends
  abbrev pub At : List Place → Type 0
  At places = Tracks setup h (machine_of setup h (world_where setup places)) (own h (timers_of places)) (dated places)

  -- with one place more
  at_more : (places : List Place) (p : Place) → p.entry ≡ (turn setup (world_where setup places) p.step).entry → At places → At (places ++ p ∷ [])
  at_more places p is t =
      let w = world_where setup places in
      subst (λ v. Tracks setup h (machine_of setup h v) (own h (timers_of (places ++ p ∷ []))) (dated (places ++ p ∷ []))) (sym (world_where-push setup places p))
      (subst (λ l. Tracks setup h (machine_of setup h (turn setup w p.step).world) (own h l) (dated (places ++ p ∷ []))) (sym (timers-push [] places p))
      (subst (λ l. Tracks setup h (machine_of setup h (turn setup w p.step).world) (own h (timers_by (timers_of places) p.step p.entry.reply p.moment)) l) (sym (map-append (λ (x : Place). record { place = record { step = x.step; entry = x.entry }; moment = x.moment }) places (p ∷ [])))
      (subst (λ (e : Entry). Tracks setup h (machine_of setup h (turn setup w p.step).world) (own h (timers_by (timers_of places) p.step e.reply p.moment)) (dated places ++ record { place = record { step = p.step; entry = e }; moment = p.moment } ∷ [])) (sym is)
      (tracks_step setup h w (timers_of places) (dated places) p.step p.moment t))))

  -- and with more
  at_all : (places rest : List Place) → entries_of rest ≡ entries_in (journal_from setup (world_where setup places) (steps_of rest)) → At places → At (places ++ rest)
  unfolding journal_from
  at_all places [] run t = subst At (sym (append-nil places)) t
  at_all places (p ∷ ps) run t =
      let w = world_where setup places in
      let head : p.entry ≡ (turn setup w p.step).entry = cc in
      let tail : entries_of ps ≡ entries_in (journal_from setup (turn setup w p.step).world (steps_of ps)) = cc in
      subst At (append_assoc places (p ∷ []) ps)
      (at_all (places ++ p ∷ []) ps (subst (λ v. entries_of ps ≡ entries_in (journal_from setup v (steps_of ps))) (sym (world_where-push setup places p)) tail) (at_more places p head t))

  -- no place
  at_first : At []
  unfolding new_machine world_from
  at_first = subst (λ m. Tracks setup h m [] []) (sym (new_machine_of setup h)) (record {
    called = [];
    kept = kept_new setup;
    all = [];
    numbers = refl;
    found = tt;
    new_time = λ n more le. refl;
    new_moment = λ n more le. refl;
    known = record { items = λ ep. tt; results = tt; in_callbacks = tt };
    left = none;
  })

  -- the timers go with the transfers where a run ends
  pub tracks_at : (places : List Place) → IsRun setup places → At places
  unfolding journal world_from
  tracks_at places run = at_all [] places run at_first
