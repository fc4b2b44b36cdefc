-- How far a run is whose capture is written, and what of that is written.
use Rattle.std.proofs.Common.{◌≡◌, ℕ, ◌+◌, ◌<◌, ◌⊎◌, inl, inr, Bool, true, false, List, [], ◌∷◌, ◌++◌, length, map, take, get_or, append_assoc, append-nil, Option, Some, None, refl, sym, ◌∙◌, ap, subst}
use Rattle.std.specs.Prelude.{is_some, IfOk, OnErr, OnOk, Result, Ok, Err, if◌then◌else◌}
use Rattle.std.specs.List.{AllByRecursion, count_by}
use Rattle.std.specs.Io.KnownBytes.{Appends}
use Rattle.std.proofs.lemmas.Grind.{flat_map-append}
use Rattle.std.proofs.lemmas.List.{map-append, take_more}
use Rattle.usb_model.specs.declared.entry.Entry.{Entry}
use Rattle.usb_model.specs.declared.plan.Plan.{Plan}
use Rattle.usb_model.specs.declared.plan.Plan.TheVariants.{Do, Return}
use Rattle.usb_model.specs.declared.result.InCallback.{InCallback}
use Rattle.usb_model.specs.declared.step.Step.{Step}
use Rattle.usb_model.specs.declared.step.Step.TheVariants.{Answer}
use Rattle.usb_model.specs.declared.verdict.Rule.{Rule}
use Rattle.usb_model.specs.declared.verdict.Rule.TheVariants as rule
use Rattle.usb_model.specs.declared.verdict.Verdict.{Verdict}
use Rattle.usb_model.specs.declared.verdict.Verdict.TheVariants.{Stop, Again}
use Rattle.usb_model.specs.Setup.{Setup}
use Rattle.usb_model.specs.World.{World, turn}
use Rattle.usb_model.specs.World.Journal.{Place, journal_from, run_from}
use Rattle.usb_model.specs.World.Plans.{Stage, first_stage, is_submission, needs_stop, return_steps, returning, stage_after, steps_of, verdict_by}
use Rattle.usb_plans.specs.Drives.{TakesNext}
use Rattle.usb_plans.specs.PlanRuns.{Performs, PlanState, ShowsStage, StandsFor, is_verdict}
use Rattle.proof_laws.proofs.Plans.{AreFixed, IsFixedStage, fixed_after, fixed_once}
use Rattle.usb_plans.proofs.OnlySteps.{stands_only}
use Rattle.usb_plans.proofs.Reached.{piece_rules}
use Rattle.usb_plans.proofs.TakenCallbacks.{Takes, has_one, takes}
use Rattle.trace_capture.specs.declared.event.CaptureEvent.{CaptureEvent}
use Rattle.trace_capture.specs.Control.{device_events}
use Rattle.trace_capture.specs.Event.{event_bytes, events_bytes, file_bytes, file_header}
use Rattle.trace_capture.specs.Events.{DeviceLine, Recording, device_after, devices_after, entries_events, entry_after, entry_events, nothing_recorded}
use Rattle.trace_capture.proofs.Verdicts.{same_of_verdicts}
use Rattle.trace_scenario.specs.declared.described.DescribedDevice.{DescribedDevice}
use Rattle.trace_io.specs.declared.fault.Fault.{Fault}
use Rattle.trace_io.specs.Output.{AppendsAllBut, AppendsSome}
use Rattle.trace_io.proofs.Beginnings.{gathered_further, some_behind, some_further, some_of_front, whole}
use Rattle.trace_run.specs.Printed.{StartsPlan}
use Rattle.trace_run.specs.Capture.{BeginsCapturedPiece, CapturesFrom, CapturesPiece, PrintsFile, PutsRecords, device_line, devices_events, placed, places_from, plan_events, told_after, told_events, told_step}
use Rattle.trace_run.specs.declared.lines.Reach.{Reach}
use Rattle.trace_run.specs.declared.lines.Reach.TheVariants.{End, NoMemory}

-- the file of some events, and the records of more
pub file_more : (front more : List CaptureEvent) → file_bytes (front ++ more) ≡ file_bytes front ++ events_bytes more
file_more front more = ap (λ l. file_header ++ l) (flat_map-append event_bytes front more) ∙ sym (append_assoc file_header (events_bytes front) (events_bytes more))

-- what is kept behind one line more of a device
pub devices_more : (s : Recording) (xs : List DeviceLine) (d : DeviceLine) → devices_after s (xs ++ d ∷ []) ≡ device_after (devices_after s xs) d.device d.descriptor
unfolding devices_after
devices_more s [] d = refl
devices_more s (x ∷ xs) d = devices_more (device_after s x.device x.descriptor) xs d

-- the events of one line more
events_more : (xs : List DeviceLine) (d : DeviceLine) → devices_events (xs ++ d ∷ []) ≡ devices_events xs ++ device_events d.line d.device d.descriptor
events_more xs d = flat_map-append (λ (x : DeviceLine). device_events x.line x.device x.descriptor) xs (d ∷ []) ∙ ap (λ l. devices_events xs ++ l) (append-nil (device_events d.line d.device d.descriptor))

-- the devices so far, and one more
lines_more : (devices : List DescribedDevice) (i : ℕ) (d : DescribedDevice) → i < length devices → d ≡ get_or devices i d → map device_line (take (i + 1) devices) ≡ map device_line (take i devices) ++ device_line d ∷ []
lines_more devices i d low here = ap (map device_line) (take_more devices i d low ∙ ap (λ x. take i devices ++ x ∷ []) (sym here)) ∙ map-append device_line (take i devices) (d ∷ [])

-- their file
pub front_more : (devices : List DescribedDevice) (i : ℕ) (d : DescribedDevice) (bytes more : List ℕ) → i < length devices → d ≡ get_or devices i d
    → bytes ≡ file_bytes (devices_events (map device_line (take i devices))) → more ≡ bytes ++ events_bytes (device_events d.line d.device d.descriptor)
    → more ≡ file_bytes (devices_events (map device_line (take (i + 1) devices)))
front_more devices i d bytes more low here so_far put =
    let front : List DeviceLine = map device_line (take i devices) in
    put ∙ (ap (λ l. l ++ events_bytes (device_events d.line d.device d.descriptor)) so_far
    ∙ (sym (file_more (devices_events front) (device_events d.line d.device d.descriptor))
    ∙ ap (λ l. file_bytes l) (sym (events_more front (device_line d)) ∙ ap (λ l. devices_events l) (sym (lines_more devices i d low here)))))

-- and what is kept behind them
pub kept_more : (devices : List DescribedDevice) (i : ℕ) (d : DescribedDevice) (first s t : Recording) → i < length devices → d ≡ get_or devices i d
    → s ≡ devices_after first (map device_line (take i devices)) → t ≡ device_after s d.device d.descriptor → t ≡ devices_after first (map device_line (take (i + 1) devices))
kept_more devices i d first s t low here so_far is =
    is ∙ (ap (λ r. device_after r d.device d.descriptor) so_far
    ∙ (sym (devices_more first (map device_line (take i devices)) (device_line d)) ∙ ap (λ l. devices_after first l) (sym (lines_more devices i d low here))))

-- what is told of an entry by either step is the same, and so is what is kept
record IsToldAs (told step : Step) : Type 0 where
  events : (s : Recording) (line : ℕ) (entry : Entry) → entry_events s line step entry ≡ entry_events s line told entry
  after : (s : Recording) (entry : Entry) → entry_after s step entry ≡ entry_after s told entry

itself : (step : Step) → IsToldAs step step
itself step = record { events = λ s line entry. refl; after = λ s entry. refl }

of_again : (h n : ℕ) → IsToldAs (Answer h n Stop) (Answer h n Again)
of_again h n = record {
  events = λ s line entry. sym (same_of_verdicts s line h n entry).0;
  after = λ s entry. sym (same_of_verdicts s 0 h n entry).1;
}

-- so it is of each of some steps
abbrev AreToldAs : Step → List Step → Type 0
AreToldAs told steps = AllByRecursion (IsToldAs told) steps

-- the places of such steps, and more behind them
told_places : (setup : Setup) (w : World) (s : Recording) (line : ℕ) (told : Step) (steps : List Step) (more : List (ℕ × Place)) → AreToldAs told steps
    → entries_events s (placed line (journal_from setup w steps) ++ more) ≡ told_events s line told (run_from setup w steps) ++ entries_events (told_after s told (run_from setup w steps)) more
unfolding journal_from entries_events told_events told_after
told_places setup w s line told [] more all = refl
told_places setup w s line told (step ∷ steps) more all =
    let entry : Entry = (turn setup w step).entry in
    let further : List CaptureEvent = told_events (entry_after s told entry) line told (run_from setup (turn setup w step).world steps) in
    let behind : List CaptureEvent = entries_events (told_after (entry_after s told entry) told (run_from setup (turn setup w step).world steps)) more in
    ap (λ r. entry_events s line step entry ++ entries_events r (placed line (journal_from setup (turn setup w step).world steps) ++ more)) (all.0.after s entry)
    ∙ (ap (λ l. l ++ entries_events (entry_after s told entry) (placed line (journal_from setup (turn setup w step).world steps) ++ more)) (all.0.events s line entry)
    ∙ (ap (λ l. entry_events s line told entry ++ l) (told_places setup (turn setup w step).world (entry_after s told entry) line told steps more all.1)
    ∙ sym (append_assoc (entry_events s line told entry) further behind)))

-- a rule gives one of two verdicts
two_verdicts : (o : Option InCallback) (r : Rule) → (verdict_by o r ≡ Stop) ⊎ (verdict_by o r ≡ Again)
two_verdicts None r = inl refl
two_verdicts (Some x) rule.Free = inl refl
two_verdicts (Some x) (rule.Again on rounds) = by_test _
  where
    by_test : (b : Bool) → ((if b then Again else Stop) ≡ Stop) ⊎ ((if b then Again else Stop) ≡ Again)
    by_test true = inr refl
    by_test false = inl refl

-- the steps of a return with such a verdict
return_told : (setup : Setup) (w : World) (h n : ℕ) (v : Verdict) → (v ≡ Stop) ⊎ (v ≡ Again) → AreToldAs (Answer h n Stop) (return_steps setup w h n v)
return_told setup w h n v one = by_test (needs_stop v (turn setup w (Answer h n v)).entry.reply)
  where
    first : IsToldAs (Answer h n Stop) (Answer h n v)
    first = elim one [
      | inl stop ↦ subst (λ x. IsToldAs (Answer h n Stop) (Answer h n x)) (sym stop) (itself (Answer h n Stop))
      | inr again ↦ subst (λ x. IsToldAs (Answer h n Stop) (Answer h n x)) (sym again) (of_again h n)
    ]

    by_test : (b : Bool) → AreToldAs (Answer h n Stop) (if b then Answer h n v ∷ Answer h n Stop ∷ [] else Answer h n v ∷ [])
    by_test true = (first, (itself (Answer h n Stop), tt))
    by_test false = (first, tt)

-- the steps of a piece are told as its own
piece_told : (setup : Setup) (s : Stage) (piece : Plan) → AreToldAs (told_step piece) (steps_of setup s piece)
piece_told setup s (Do step) = (itself step, tt)
piece_told setup s (Return h n) = return_told setup s.world h n (verdict_by (returning s h n) (s.book h n)) (two_verdicts (returning s h n) (s.book h n))

-- nothing is told where there is no line
none_behind : (setup : Setup) (s : Stage) (plan : List Plan) → places_from setup s plan [] ≡ []
unfolding places_from
none_behind setup s [] = refl
none_behind setup s (piece ∷ plan) = refl

-- nor of no plan
none_left : (setup : Setup) (s : Stage) (lines : List (ℕ × List ℕ)) → places_from setup s [] lines ≡ []
unfolding places_from
none_left setup s lines = refl

-- nor of no place
none_told : (rec : Recording) → entries_events rec [] ≡ []
unfolding entries_events
none_told rec = refl

-- the events of a piece, and of those behind it
piece_first : (setup : Setup) (s : Stage) (rec : Recording) (piece : Plan) (plan : List Plan) (line : ℕ × List ℕ) (lines : List (ℕ × List ℕ)) (here : List Step) (entries : List Entry) → here ≡ steps_of setup s piece → entries ≡ run_from setup s.world here
    → entries_events rec (places_from setup s (piece ∷ plan) (line ∷ lines))
    ≡ told_events rec line.0 (told_step piece) entries ++ entries_events (told_after rec (told_step piece) entries) (places_from setup (stage_after setup s piece here) plan lines)
unfolding places_from
piece_first setup s rec piece plan line lines here entries is run =
    ap (λ steps. entries_events rec (placed line.0 (journal_from setup s.world steps) ++ places_from setup (stage_after setup s piece steps) plan lines)) (sym is)
    ∙ (told_places setup s.world rec line.0 (told_step piece) here (places_from setup (stage_after setup s piece here) plan lines) (subst (AreToldAs (told_step piece)) (sym is) (piece_told setup s piece))
    ∙ ap (λ es. told_events rec line.0 (told_step piece) es ++ entries_events (told_after rec (told_step piece) es) (places_from setup (stage_after setup s piece here) plan lines)) (sym run))

module _ (devices : List DescribedDevice) (setup : Setup) (plan : List Plan) (rules : List Rule) (lines : List (ℕ × List ℕ)) where
  -- the devices' lines stand in front of the events of a run, whose recording is new before them
  pub same_front : (new_rec rec : Recording) → new_rec ≡ nothing_recorded → rec ≡ devices_after new_rec (map device_line devices)
      → devices_events (map device_line devices) ++ entries_events rec (places_from setup (first_stage setup rules) plan lines) ≡ plan_events devices setup plan rules lines
  same_front new_rec rec is after =
      ap (λ r. devices_events (map device_line devices) ++ entries_events r (places_from setup (first_stage setup rules) plan lines)) (after ∙ ap (λ r. devices_after r (map device_line devices)) is)

  -- so a beginning of their file is one of the whole
  pub front_begun_for : (gathered : List ℕ) (old new : Option (List ℕ)) → gathered ≡ [] → AppendsSome (gathered ++ file_bytes (devices_events (map device_line devices))) old new
      → AppendsSome (file_bytes (plan_events devices setup plan rules lines)) old new
  front_begun_for gathered old new empty some =
      let front : List CaptureEvent = devices_events (map device_line devices) in
      let rest : List CaptureEvent = entries_events (devices_after nothing_recorded (map device_line devices)) (places_from setup (first_stage setup rules) plan lines) in
      some_of_front (file_bytes (front ++ rest)) (file_bytes front) (events_bytes rest) old new (file_more front rest) (subst (λ g. AppendsSome (g ++ file_bytes front) old new) empty some)

-- total: the events of the whole run; old: what stood on the output before
module _ {P : Type 0} (rule : P → Rule) (setup : Setup) (total : List CaptureEvent) (old : Option (List ℕ)) where
  -- some pieces were performed: their events and those of the pieces to come are all; of their file all but these bytes are written
  -- ahead: the pieces to come; left: the callbacks of their submissions; behind: their lines
  pub record IsCaptured (v : PlanState P) (rec : Recording) (ahead : List Plan) (left : List P) (behind : List (ℕ × List ℕ)) (bytes : List ℕ) (new : Option (List ℕ)) : Type 0 where
    pub stage : Stage
    pub shows : ShowsStage rule setup v stage
    pub fixed : IsFixedStage stage
    pub under : stage.rules ≡ map rule left
    pub enough : length left ≡ count_by is_submission ahead
    pub no_verdict : AllByRecursion (λ piece. is_verdict piece ≡ false) ahead
    pub done : List CaptureEvent
    pub is_whole : done ++ entries_events rec (places_from setup stage ahead behind) ≡ total
    pub appended : AppendsAllBut (file_bytes done) bytes old new

  -- none was: the devices' lines stand in front
  pub front_put : (v : PlanState P) (rec : Recording) (rules : List Rule) (plan ahead : List Plan) (left : List P) (behind : List (ℕ × List ℕ)) (front : List CaptureEvent) (gathered bytes : List ℕ) (new : Option (List ℕ)) → ahead ≡ plan → ((rs : List Rule) → ShowsStage rule setup v (first_stage setup rs))
      → rules ≡ map rule left → length left ≡ count_by is_submission plan → AllByRecursion (λ piece. is_verdict piece ≡ false) plan → AreFixed rules
      → front ++ entries_events rec (places_from setup (first_stage setup rules) plan behind) ≡ total
      → gathered ≡ [] → AppendsAllBut (gathered ++ file_bytes front) bytes old new → IsCaptured v rec ahead left behind bytes new
  front_put v rec rules plan ahead left behind front gathered bytes new same shows under enough none fixed all empty put = subst (λ l. IsCaptured v rec l left behind bytes new) (sym same) first
    where
      first : IsCaptured v rec plan left behind bytes new
      first = record {
        stage = first_stage setup rules;
        shows = shows rules;
        fixed = record { noted = λ h n. fixed_once; coming = fixed };
        under = under;
        enough = enough;
        no_verdict = none;
        done = front;
        is_whole = all;
        appended = subst (λ g. AppendsAllBut (g ++ file_bytes front) bytes old new) empty put;
      }

  -- a piece that submits has its callback
  pub has_callback : (v : PlanState P) (rec : Recording) (ahead beyond : List Plan) (left more : List P) (behind : List (ℕ × List ℕ)) (bytes : List ℕ) (new : Option (List ℕ)) (piece : Plan) (callback : Option P) → ahead ≡ piece ∷ beyond → IsCaptured v rec ahead left behind bytes new
      → TakesNext (is_submission piece) left more callback → is_submission piece ≡ true → is_some callback ≡ true
  has_callback v rec ahead beyond left more behind bytes new piece callback comes p next = has_one rule piece beyond left more callback (p.enough ∙ ap (count_by is_submission) comes) next

  -- and is no verdict
  pub is_no_verdict : (v : PlanState P) (rec : Recording) (ahead beyond : List Plan) (left : List P) (behind : List (ℕ × List ℕ)) (bytes : List ℕ) (new : Option (List ℕ)) (piece : Plan) → ahead ≡ piece ∷ beyond → IsCaptured v rec ahead left behind bytes new → is_verdict piece ≡ false
  is_no_verdict v rec ahead beyond left behind bytes new piece comes p = (subst (AllByRecursion (λ q. is_verdict q ≡ false)) comes p.no_verdict).0

  -- one more was performed, from a stage that was shown: its events are the next, and the stage behind it is shown
  record IsNext (stage : Stage) (rec : Recording) (w : PlanState P) (ahead beyond : List Plan) (more : List P) (behind after : List (ℕ × List ℕ)) (piece : Plan) (line : ℕ × List ℕ) (entries : List Entry) : Type 0 where
    here : List Step
    shows : ShowsStage rule setup w (stage_after setup stage piece here)
    fixed : IsFixedStage (stage_after setup stage piece here)
    under : (stage_after setup stage piece here).rules ≡ map rule more
    enough : length more ≡ count_by is_submission beyond
    events : entries_events rec (places_from setup stage ahead behind)
        ≡ told_events rec line.0 (told_step piece) entries ++ entries_events (told_after rec (told_step piece) entries) (places_from setup (stage_after setup stage piece here) beyond after)

  is_next : (v w : PlanState P) (rec : Recording) (ahead beyond : List Plan) (left more : List P) (behind after : List (ℕ × List ℕ)) (bytes : List ℕ) (mid : Option (List ℕ)) (piece : Plan) (callback : Option P) (line : ℕ × List ℕ) (entries : List Entry) → ahead ≡ piece ∷ beyond
      → (p : IsCaptured v rec ahead left behind bytes mid) → behind ≡ line ∷ after → TakesNext (is_submission piece) left more callback → Performs rule v piece callback entries w → IsNext p.stage rec w ahead beyond more behind after piece line entries
  is_next v w rec ahead beyond left more behind after bytes mid piece callback line entries comes p first next performs = by_steps (performs setup p.stage p.shows taken.under)
    where
      taken : Takes rule p.stage.rules piece beyond callback more
      taken = takes rule p.stage.rules piece beyond left more callback p.under (p.enough ∙ ap (count_by is_submission) comes) next

      by_steps : (steps : List Step) × StandsFor setup p.stage piece steps × (entries ≡ run_from setup p.stage.world steps) × ShowsStage rule setup w (stage_after setup p.stage piece steps) → IsNext p.stage rec w ahead beyond more behind after piece line entries
      by_steps (steps, stands, run, shows) = record {
        here = steps;
        shows = shows;
        fixed = fixed_after setup p.stage piece steps p.fixed;
        under = piece_rules setup p.stage piece steps stands ∙ taken.left;
        enough = taken.enough;
        events =
            ap (λ l. entries_events rec (places_from setup p.stage l behind)) comes
            ∙ (ap (λ l. entries_events rec (places_from setup p.stage (piece ∷ beyond) l)) first
            ∙ piece_first setup p.stage rec piece beyond line after steps entries (stands_only setup p.stage piece steps p.fixed stands) run);
      }

  -- what was told, and one more
  all_with : (done events rest before : List CaptureEvent) → done ++ before ≡ total → before ≡ events ++ rest → (done ++ events) ++ rest ≡ total
  all_with done events rest before all is = append_assoc done events rest ∙ (ap (λ l. done ++ l) (sym is) ∙ all)

  -- its records are put
  pub piece_put : (v w : PlanState P) (rec after_rec : Recording) (ahead beyond : List Plan) (left more : List P) (behind after : List (ℕ × List ℕ)) (bytes gathered : List ℕ) (mid new : Option (List ℕ)) (piece : Plan) (callback : Option P) (line : ℕ × List ℕ) → ahead ≡ piece ∷ beyond
      → IsCaptured v rec ahead left behind bytes mid → behind ≡ line ∷ after → TakesNext (is_submission piece) left more callback → CapturesPiece rule End line.0 rec after_rec v piece callback w bytes gathered mid new → IsCaptured w after_rec beyond more after gathered new
  piece_put v w rec after_rec ahead beyond left more behind after bytes gathered mid new piece callback line comes p first next q =
      let n = is_next v w rec ahead beyond left more behind after bytes mid piece callback line q.made comes p first next q.makes.0 in
      let told : List CaptureEvent = told_events rec line.0 (told_step piece) q.made in
      subst (λ r. IsCaptured w r beyond more after gathered new) (sym q.makes.1) (record {
        stage = stage_after setup p.stage piece n.here;
        shows = n.shows;
        fixed = n.fixed;
        under = n.under;
        enough = n.enough;
        no_verdict = (subst (AllByRecursion (λ q. is_verdict q ≡ false)) comes p.no_verdict).1;
        done = p.done ++ told;
        is_whole = all_with p.done told (entries_events (told_after rec (told_step piece) q.made) (places_from setup (stage_after setup p.stage piece n.here) beyond after)) (entries_events rec (places_from setup p.stage ahead behind)) p.is_whole n.events;
        appended = subst (λ l. AppendsAllBut l gathered old new) (sym (file_more p.done told)) (gathered_further (file_bytes p.done) bytes (events_bytes told) gathered old mid new p.appended q.put);
      })

  -- the file of what was told is a beginning of the whole
  front_of_whole : (done rest : List CaptureEvent) → done ++ rest ≡ total → file_bytes total ≡ file_bytes done ++ events_bytes rest
  front_of_whole done rest all = ap (λ l. file_bytes l) (sym all) ∙ file_more done rest

  -- a beginning of them is written
  pub piece_begun : (v w : PlanState P) (rec : Recording) (ahead beyond : List Plan) (left more : List P) (behind after : List (ℕ × List ℕ)) (bytes : List ℕ) (mid new : Option (List ℕ)) (piece : Plan) (callback : Option P) (line : ℕ × List ℕ) → ahead ≡ piece ∷ beyond
      → IsCaptured v rec ahead left behind bytes mid → behind ≡ line ∷ after → TakesNext (is_submission piece) left more callback → BeginsCapturedPiece rule line.0 rec v piece callback w bytes mid new → AppendsSome (file_bytes total) old new
  piece_begun v w rec ahead beyond left more behind after bytes mid new piece callback line comes p first next q =
      let n = is_next v w rec ahead beyond left more behind after bytes mid piece callback line q.made comes p first next q.makes in
      let told : List CaptureEvent = told_events rec line.0 (told_step piece) q.made in
      let rest : List CaptureEvent = entries_events (told_after rec (told_step piece) q.made) (places_from setup (stage_after setup p.stage piece n.here) beyond after) in
      some_of_front (file_bytes total) (file_bytes (p.done ++ told)) (events_bytes rest) old new
      (front_of_whole (p.done ++ told) rest (all_with p.done told rest (entries_events rec (places_from setup p.stage ahead behind)) p.is_whole n.events))
      (subst (λ l. AppendsSome l old new) (sym (file_more p.done told)) (some_further (file_bytes p.done) bytes (events_bytes told) old mid new p.appended q.some))

  -- of those that were gathered a beginning is written
  pub rest_begun : (v : PlanState P) (rec : Recording) (ahead : List Plan) (left : List P) (behind : List (ℕ × List ℕ)) (bytes : List ℕ) (mid new : Option (List ℕ)) → IsCaptured v rec ahead left behind bytes mid → AppendsSome bytes mid new → AppendsSome (file_bytes total) old new
  rest_begun v rec ahead left behind bytes mid new p some =
      some_of_front (file_bytes total) (file_bytes p.done) (events_bytes (entries_events rec (places_from setup p.stage ahead behind))) old new
      (front_of_whole p.done (entries_events rec (places_from setup p.stage ahead behind)) p.is_whole)
      (some_behind (file_bytes p.done) p.appended.0 bytes old mid new p.appended.1 p.appended.2 some)

  -- what is written at the end of a run that came so far: to the end of the plan, or of its lines, or to a step that found no memory
  pub ended : (reach r : Reach) (v : PlanState P) (rec : Recording) (ahead : List Plan) (left : List P) (behind : List (ℕ × List ℕ)) (bytes : List ℕ) (mid new : Option (List ℕ)) → r ≡ reach → (reach ≡ End → (ahead ≡ []) ⊎ (behind ≡ [])) → IsCaptured v rec ahead left behind bytes mid → Appends mid new bytes → PrintsFile r total old new
  ended reach r v rec ahead left behind bytes mid new same past p rest = subst (λ x. PrintsFile x total old new) (sym same) (by_reach reach past)
    where
      written : Appends old new (file_bytes p.done)
      written = whole (file_bytes p.done) bytes old mid new p.appended rest

      none : (ahead ≡ []) ⊎ (behind ≡ []) → entries_events rec (places_from setup p.stage ahead behind) ≡ []
      none (inl end) = ap (entries_events rec) (ap (λ l. places_from setup p.stage l behind) end ∙ none_left setup p.stage behind) ∙ none_told rec
      none (inr empty) = ap (entries_events rec) (ap (places_from setup p.stage ahead) empty ∙ none_behind setup p.stage ahead) ∙ none_told rec

      by_reach : (x : Reach) → (x ≡ End → (ahead ≡ []) ⊎ (behind ≡ [])) → PrintsFile x total old new
      by_reach End past = subst (λ l. Appends old new (file_bytes l)) (sym (append-nil p.done) ∙ (ap (λ l. p.done ++ l) (sym (none (past refl))) ∙ p.is_whole)) written
      by_reach NoMemory past = (p.done, (entries_events rec (places_from setup p.stage ahead behind), sym p.is_whole), written)

  -- if the rest is written
  pub ended_if : (reach : Reach) (result : Result Reach Fault) (v : PlanState P) (rec : Recording) (ahead : List Plan) (left : List P) (behind : List (ℕ × List ℕ)) (bytes : List ℕ) (mid new : Option (List ℕ)) → (reach ≡ End → (ahead ≡ []) ⊎ (behind ≡ [])) → IsCaptured v rec ahead left behind bytes mid
      → IfOk result (λ r. r ≡ reach) → OnOk result (Appends mid new bytes) → IfOk result (λ r. PrintsFile r total old new)
  ended_if reach (Ok r) v rec ahead left behind bytes mid new past p same rest = ended reach r v rec ahead left behind bytes mid new same past p rest
  ended_if reach (Err fault) v rec ahead left behind bytes mid new past p same rest = tt

  -- so it is where a step found no memory, and nothing of it was put
  pub stopped_if : (result : Result Reach Fault) (v : PlanState P) (rec : Recording) (ahead : List Plan) (left : List P) (behind : List (ℕ × List ℕ)) (bytes bytes' : List ℕ) (mid mid' new : Option (List ℕ)) → IsCaptured v rec ahead left behind bytes mid → (bytes' ≡ bytes) × (mid' ≡ mid)
      → IfOk result (λ r. r ≡ NoMemory) → OnOk result (Appends mid' new bytes') → IfOk result (λ r. PrintsFile r total old new)
  stopped_if result v rec ahead left behind bytes bytes' mid mid' new p same is rest =
      ended_if NoMemory result v rec ahead left behind bytes mid new (λ e. absurd cc) p is (subst (λ m. OnOk result (Appends m new bytes)) same.1 (subst (λ l. OnOk result (Appends mid' new l)) same.0 rest))

  -- and a beginning is written however that ends
  pub stopped_begun : (v : PlanState P) (rec : Recording) (ahead : List Plan) (left : List P) (behind : List (ℕ × List ℕ)) (bytes bytes' : List ℕ) (mid mid' new : Option (List ℕ)) → IsCaptured v rec ahead left behind bytes mid → (bytes' ≡ bytes) × (mid' ≡ mid) → AppendsSome bytes' mid' new → AppendsSome (file_bytes total) old new
  stopped_begun v rec ahead left behind bytes bytes' mid mid' new p same some =
      rest_begun v rec ahead left behind bytes mid new p (subst (λ m. AppendsSome bytes m new) same.1 (subst (λ l. AppendsSome l mid' new) same.0 some))

module _ {P : Type 0} {E : Type 0} (rule : P → Rule) (devices : List DescribedDevice) (plan : List Plan) (lines : List (ℕ × List ℕ)) (run : PlanState P) (left : List P) (old new : Option (List ℕ)) where
  -- what is written over each setup and under all rules for which the run stands at the plan's beginning
  pub each_start : (result : Result Reach E) → ((setup : Setup) (rules : List Rule) → StartsPlan rule setup plan rules run left → IfOk result (λ r. PrintsFile r (plan_events devices setup plan rules lines) old new)) → IfOk result (λ r. CapturesFrom rule r devices plan lines run left old new)
  each_start (Ok r) each = each
  each_start (Err e) each = tt

  -- and so for these
  pub of_start : (result : Result Reach E) (setup : Setup) (rules : List Rule) → StartsPlan rule setup plan rules run left → IfOk result (λ r. CapturesFrom rule r devices plan lines run left old new) → IfOk result (λ r. PrintsFile r (plan_events devices setup plan rules lines) old new)
  of_start (Ok r) setup rules starts said = said setup rules starts
  of_start (Err e) setup rules starts said = tt

module _ {P : Type 0} (rule : P → Rule) (run run' : PlanState P) (piece : Plan) (callback : Option P) (line : ℕ) (s s' : Recording) (step : Step) (entries : List Entry) (bytes bytes' : List ℕ) (old new : Option (List ℕ)) where
  captured : (reach : Reach) → step ≡ told_step piece → Performs rule run piece callback entries run' → PutsRecords reach line step entries s s' bytes bytes' old new → CapturesPiece rule reach line s s' run piece callback run' bytes bytes' old new
  captured End told performs put = record {
    made = entries;
    makes = (performs, put.1 ∙ ap (λ x. told_after s x entries) told);
    put = subst (λ x. AppendsAllBut (bytes ++ events_bytes (told_events s line x entries)) bytes' old new) told put.0;
  }
  captured NoMemory told performs put = put

  -- a piece was performed, and its records were put as far as memory was there
  pub piece_captured : {E : Type 0} (result : Result Reach E) → step ≡ told_step piece → Performs rule run piece callback entries run' → IfOk result (λ reach. PutsRecords reach line step entries s s' bytes bytes' old new)
      → IfOk result (λ reach. CapturesPiece rule reach line s s' run piece callback run' bytes bytes' old new)
  piece_captured (Ok reach) told performs put = captured reach told performs put
  piece_captured (Err e) told performs put = tt

  -- or a beginning of them is written
  pub captured_begun : {E : Type 0} (result : Result Reach E) → step ≡ told_step piece → Performs rule run piece callback entries run' → OnErr result (AppendsSome (bytes ++ events_bytes (told_events s line step entries)) old new)
      → OnErr result (BeginsCapturedPiece rule line s run piece callback run' bytes old new)
  captured_begun (Ok reach) told performs some = tt
  captured_begun (Err e) told performs some = record { made = entries; makes = performs; some = subst (λ x. AppendsSome (bytes ++ events_bytes (told_events s line x entries)) old new) told some }
