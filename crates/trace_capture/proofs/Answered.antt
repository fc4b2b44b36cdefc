-- In each run a callback has its submission in front of it: what is kept of a transfer has.
use Rattle.std.proofs.Common.{◌≡◌, ℕ, Bool, true, false, not, List, [], ◌∷◌, ◌++◌, map, Option, Some, None, take, cond, refl, sym, subst}
use Rattle.std.specs.Option.{option_map_or, option_to_list}
use Rattle.std.specs.List.{AllByRecursion, Contains, filter, find, flat_map}
use Rattle.std.proofs.lemmas.List.{append_assoc, append-nil}
use Rattle.std.proofs.lemmas.List.Elements.{Contains-append_left, Contains-push}
use Rattle.usb_model.specs.declared.step.Step.{Step}
use Rattle.usb_model.specs.declared.step.Step.TheVariants.{Open, Close, Claim, Release, Reset, ClearHalt, Submit, Cancel, Expire, Serve, Command, Deliver, Take, Answer, Unplug}
use Rattle.usb_model.specs.declared.reply.Reply.{Reply}
use Rattle.usb_model.specs.declared.reply.Reply.TheVariants.{Done, Number, Refused, Idle, Nak, Moved, Ended, Ran, Finished, Paused, Settled, Called}
use Rattle.usb_model.specs.declared.reply.Returned.{Returned}
use Rattle.usb_model.specs.declared.entry.Entry.{Entry}
use Rattle.usb_model.specs.World.Journal.{Place}
use Rattle.trace_capture.specs.declared.control_setup.ControlSetup.{ControlSetup}
use Rattle.trace_capture.specs.declared.event.CaptureEvent.{CaptureEvent}
use Rattle.trace_capture.specs.declared.transfer.Tracked.{Tracked}
use Rattle.trace_capture.specs.Control.{control_events, control_submission, device_events, get_configuration, set_configuration, total_length, configuration_value}
use Rattle.trace_capture.specs.Transfer.{submission}
use Rattle.trace_capture.specs.Events.{Recording, DeviceLine, nothing_recorded, is_tracked, with_code, past_return, transfer_of, submitted, submissions, callbacks, controls, control_of, device_of, done_events, done_after, reply_events, reply_after, entry_events, entry_after, device_after, devices_after, entries_events, run_events}
use Rattle.trace_capture.specs.Laws.{AreAnswers}

-- the submission of a transfer stands among these events, from whatever line
abbrev pub Stands : List CaptureEvent → Tracked → Type 0
Stands events x = (line : ℕ) × Contains events (submission line x)

-- those of all that are kept do
abbrev pub AllStand : List CaptureEvent → List Tracked → Type 0
AllStand events tracked = AllByRecursion (Stands events) tracked

-- more events behind these take none away
stand_on : (events more : List CaptureEvent) (tracked : List Tracked) → AllStand events tracked → AllStand (events ++ more) tracked
stand_on events more [] all = tt
stand_on events more (x ∷ xs) all = ((all.0.0, Contains-append_left events more (submission all.0.0 x) all.0.1), stand_on events more xs all.1)

one_more : (events : List CaptureEvent) (tracked : List Tracked) (x : Tracked) → AllStand events tracked → Stands events x → AllStand events (tracked ++ x ∷ [])
one_more events [] x all there = (there, tt)
one_more events (y ∷ ys) x all there = (all.0, one_more events ys x all.1 there)

of_some : (events : List CaptureEvent) (test : Tracked → Bool) (tracked : List Tracked) → AllStand events tracked → AllStand events (filter test tracked)
of_some events test [] all = tt
of_some events test (x ∷ xs) all = by_test (test x) (of_some events test xs all.1)
  where
    by_test : (b : Bool) → AllStand events (filter test xs) → AllStand events (cond b (x ∷ filter test xs) (filter test xs))
    by_test true others = (all.0, others)
    by_test false others = others

with_codes : (events : List CaptureEvent) (h n code : ℕ) (tracked : List Tracked) → AllStand events tracked → AllStand events (map (with_code h n code) tracked)
with_codes events h n code [] all = tt
with_codes events h n code (x ∷ xs) all = (by_test (is_tracked h n x), with_codes events h n code xs all.1)
  where
    by_test : (b : Bool) → Stands events (cond b (record x { code = Some code }) x)
    by_test true = all.0
    by_test false = all.0

-- without the transfer whose callback a step ends
past : (events : List CaptureEvent) (h : ℕ) (step : Step) (tracked : List Tracked) → AllStand events tracked → AllStand events (past_return h step tracked)
past events h (Open _ dev) tracked all = all
past events h (Close _) tracked all = all
past events h (Claim _ i) tracked all = all
past events h (Release _ i) tracked all = all
past events h (Reset _) tracked all = all
past events h (ClearHalt _ ep) tracked all = all
past events h (Submit _ request) tracked all = all
past events h (Cancel _ n) tracked all = all
past events h (Expire _ n) tracked all = all
past events h (Serve dev ep) tracked all = all
past events h Command tracked all = all
past events h Deliver tracked all = all
past events h Take tracked all = all
past events h (Answer _ n verdict) tracked all = of_some events (λ x. not (is_tracked h n x)) tracked all
past events h (Unplug dev) tracked all = all

-- what is kept behind a step that was done
done_keeps : (events : List CaptureEvent) (s : Recording) (h : ℕ) (step : Step) → AllStand events s.tracked → AllStand events (done_after s h step).tracked
done_keeps events s h (Open _ dev) all = all
done_keeps events s h (Close _) all = all
done_keeps events s h (Claim _ i) all = all
done_keeps events s h (Release _ i) all = all
done_keeps events s h (Reset _) all = all
done_keeps events s h (ClearHalt _ ep) all = all
done_keeps events s h (Submit _ request) all = all
done_keeps events s h (Cancel _ n) all = all
done_keeps events s h (Expire _ n) all = all
done_keeps events s h (Serve dev ep) all = all
done_keeps events s h Command all = all
done_keeps events s h Deliver all = all
done_keeps events s h Take all = all
done_keeps events s h (Answer _ n verdict) all = of_some events (λ x. not (is_tracked h n x)) s.tracked all
done_keeps events s h (Unplug dev) all = all

-- events behind events
answers_behind : (front xs ys : List CaptureEvent) → AreAnswers front xs → AreAnswers (front ++ xs) ys → AreAnswers front (xs ++ ys)
answers_behind front [] ys a b = let P : List CaptureEvent → Type 0 = λ l. AreAnswers l ys in subst P (append-nil front) b
answers_behind front (x ∷ xs) ys a b =
    let P : List CaptureEvent → Type 0 = λ l. AreAnswers l ys in
    (a.0, answers_behind (front ++ x ∷ []) xs ys a.1 (subst P (sym (append_assoc front (x ∷ []) xs)) b))

-- a control transfer ends at once
control_answers : (front : List CaptureEvent) (line : ℕ) (second : Bool) (device : ℕ) (setup : ControlSetup) (bytes : List ℕ) → AreAnswers front (control_events line second device setup bytes)
control_answers front line second device setup bytes = (
  λ is. absurd (cc),
  (
    λ is. (control_submission line second device setup, Contains-push front (control_submission line second device setup), record { began = refl; id = refl; device = refl; kind = refl; ep = refl; flags = refl }),
    tt,
  ),
)

-- those of a device's line
device_answers : (front : List CaptureEvent) (line device : ℕ) (descriptor : List ℕ) → AreAnswers front (device_events line device descriptor)
unfolding device_events
device_answers front line device descriptor =
    let reads = control_events line false device (get_configuration (total_length descriptor)) (take (total_length descriptor) descriptor) in
    let sets = control_events line true device (set_configuration (configuration_value descriptor)) [] in
    answers_behind front reads sets
    (control_answers front line false device (get_configuration (total_length descriptor)) (take (total_length descriptor) descriptor))
    (control_answers (front ++ reads) line true device (set_configuration (configuration_value descriptor)) [])

-- those of what a step asked of the device that was done
controls_answer : (front : List CaptureEvent) (line device : ℕ) (setup : Option ControlSetup) → AreAnswers front (controls line device setup)
controls_answer front line device None = tt
controls_answer front line device (Some setup) = control_answers front line false device setup []

done_answers : (front : List CaptureEvent) (s : Recording) (line h : ℕ) (step : Step) → AreAnswers front (done_events s line h step)
done_answers front s line h step = by_device (device_of h s.opened)
  where
    by_device : (o : Option ℕ) → AreAnswers front (option_map_or (λ device. controls line device (control_of s h device step)) o [])
    by_device None = tt
    by_device (Some device) = controls_answer front line device (control_of s h device step)

-- those of a submission, and what is kept of it
submissions_answer : (front : List CaptureEvent) (line : ℕ) (o : Option Tracked) → AreAnswers front (submissions line o)
submissions_answer front line None = tt
submissions_answer front line (Some x) = (λ is. absurd (cc), tt)

submitted_stand : (front : List CaptureEvent) (line : ℕ) (o : Option Tracked) (tracked : List Tracked) → AllStand front tracked → AllStand (front ++ submissions line o) (tracked ++ option_to_list o)
submitted_stand front line None tracked all =
    let P : List Tracked → Type 0 = λ l. AllStand (front ++ []) l in subst P (sym (append-nil tracked)) (stand_on front [] tracked all)
submitted_stand front line (Some x) tracked all =
    one_more (front ++ submission line x ∷ []) tracked x (stand_on front (submission line x ∷ []) tracked all) (line, Contains-push front (submission line x))

-- those of a callback: what is found of it is kept
callbacks_answer : (front : List CaptureEvent) (line : ℕ) (returned : Returned) (test : Tracked → Bool) (tracked : List Tracked) → AllStand front tracked → AreAnswers front (callbacks line returned (find test tracked))
callbacks_answer front line returned test [] all = tt
callbacks_answer front line returned test (x ∷ xs) all = by_test (test x) (callbacks_answer front line returned test xs all.1)
  where
    by_test : (b : Bool) → AreAnswers front (callbacks line returned (find test xs)) → AreAnswers front (callbacks line returned (cond b (Some x) (find test xs)))
    by_test true others = (λ is. (submission all.0.0 x, all.0.1, record { began = refl; id = refl; device = refl; kind = refl; ep = refl; flags = refl }), tt)
    by_test false others = others

-- the events of a reply are answers, and what is kept stands behind them
record Holds (front events : List CaptureEvent) (tracked : List Tracked) : Type 0 where
  pub answers : AreAnswers front events
  pub stand : AllStand (front ++ events) tracked

-- nothing is told, and what is kept stands as it did
silent : (front : List CaptureEvent) (tracked : List Tracked) → AllStand front tracked → Holds front [] tracked
silent front tracked all = record { answers = tt; stand = stand_on front [] tracked all }

of_reply : (front : List CaptureEvent) (s : Recording) (line h : ℕ) (step : Step) (reply : Reply) → AllStand front s.tracked → Holds front (reply_events s line h step reply) (reply_after s h step reply).tracked
of_reply front s line h step Done all = record {
  answers = done_answers front s line h step;
  stand = stand_on front (done_events s line h step) (done_after s h step).tracked (done_keeps front s h step all);
}
of_reply front s line h step (Number n) all = record {
  answers = submissions_answer front line (submitted s h n step);
  stand = past (front ++ submissions line (submitted s h n step)) h step (s.tracked ++ option_to_list (submitted s h n step)) (submitted_stand front line (submitted s h n step) s.tracked all);
}
of_reply front s line h step (Refused why) all = silent front s.tracked all
of_reply front s line h step Idle all = silent front s.tracked all
of_reply front s line h step (Nak n) all = silent front s.tracked all
of_reply front s line h step (Moved n bytes) all = silent front s.tracked all
of_reply front s line h step (Ended n code) all = silent front (map (with_code h n code) s.tracked) (with_codes front h n code s.tracked all)
of_reply front s line h step (Ran ep errand ok) all = silent front s.tracked all
of_reply front s line h step (Finished n) all = silent front s.tracked all
of_reply front s line h step (Paused n) all = silent front s.tracked all
of_reply front s line h step (Settled ep errand ok) all = silent front s.tracked all
of_reply front s line h step (Called returned) all =
    record {
      answers = callbacks_answer front line returned (is_tracked h returned.n) s.tracked all;
      stand = stand_on front (callbacks line returned (transfer_of h returned.n s.tracked)) s.tracked all;
    }

of_entry : (front : List CaptureEvent) (s : Recording) (line : ℕ) (step : Step) (entry : Entry) → AllStand front s.tracked → Holds front (entry_events s line step entry) (entry_after s step entry).tracked
unfolding entry_events entry_after
of_entry front s line step entry all = by_owner entry.owner
  where
    by_owner : (o : Option ℕ) → Holds front (option_map_or (λ h. reply_events s line h step entry.reply) o []) (option_map_or (λ h. reply_after s h step entry.reply) o s).tracked
    by_owner None = silent front s.tracked all
    by_owner (Some h) = of_reply front s line h step entry.reply all

of_entries : (front : List CaptureEvent) (s : Recording) (places : List (ℕ × Place)) → AllStand front s.tracked → AreAnswers front (entries_events s places)
unfolding entries_events
of_entries front s [] all = tt
of_entries front s (x ∷ xs) all =
    let now : Holds front (entry_events s x.0 x.1.step x.1.entry) (entry_after s x.1.step x.1.entry).tracked = of_entry front s x.0 x.1.step x.1.entry all in
    answers_behind front (entry_events s x.0 x.1.step x.1.entry) (entries_events (entry_after s x.1.step x.1.entry) xs) now.answers
    (of_entries (front ++ entry_events s x.0 x.1.step x.1.entry) (entry_after s x.1.step x.1.entry) xs now.stand)

-- the devices' lines begin no transfer
none_tracked : (s : Recording) (devices : List DeviceLine) → s.tracked ≡ [] → (devices_after s devices).tracked ≡ []
unfolding devices_after device_after
none_tracked s [] none = none
none_tracked s (d ∷ ds) none = none_tracked (device_after s d.device d.descriptor) ds none

of_devices : (front : List CaptureEvent) (devices : List DeviceLine) → AreAnswers front (flat_map (λ d. device_events d.line d.device d.descriptor) devices)
of_devices front [] = tt
of_devices front (d ∷ ds) =
    answers_behind front (device_events d.line d.device d.descriptor) (flat_map (λ x. device_events x.line x.device x.descriptor) ds)
    (device_answers front d.line d.device d.descriptor) (of_devices (front ++ device_events d.line d.device d.descriptor) ds)

pub answers_of_run : (devices : List DeviceLine) (places : List (ℕ × Place)) → AreAnswers [] (run_events devices places)
answers_of_run devices places =
    let events : List CaptureEvent = flat_map (λ d. device_events d.line d.device d.descriptor) devices in
    let P : List Tracked → Type 0 = λ l. AllStand events l in
    answers_behind [] events (entries_events (devices_after nothing_recorded devices) places) (of_devices [] devices)
    (of_entries events (devices_after nothing_recorded devices) places (subst P (sym (none_tracked nothing_recorded devices refl)) tt))
