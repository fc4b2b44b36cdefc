-- How many bytes a reply has.
use Rattle.std.proofs.Common.{◌≡◌, ◌∙◌, ◌≤◌, ℕ, Bool, true, false, List, [], ◌∷◌, ◌++◌, length, Option, Some, None, Result, Ok, Err, IfOk, OnErr, ap, arith, inl, inr, refl, subst, sym, slice_get, length-append}
use Rattle.std.specs.Prelude.{if◌then◌else◌, not}
use Rattle.std.specs.Option.{option_map_or}
use Rattle.usb_model.specs.declared.entry.Entry.{Entry}
use Rattle.usb_model.specs.declared.reply.Reply.{Reply}
use Rattle.usb_model.specs.declared.reply.Returned.{Returned}
use Rattle.usb_model.specs.declared.reply.Reply.TheVariants as reply
use Rattle.usb_model.specs.declared.refused.Refused.TheVariants.{NoDevice, NotFound}
use Rattle.usb_model.specs.declared.result.TransferResult.{TransferResult}
use Rattle.usb_model.specs.declared.shared.Tagged.{Tagged}
use Rattle.usb_model.specs.declared.step.Step.{Step}
use Rattle.usb_model.specs.declared.step.Step.TheVariants.{Answer, Submit, Take, Unplug}
use Rattle.usb_model.specs.Laws.Places.{call_of}
use Rattle.usb_model.specs.Machine.{Machine}
use Rattle.usb_model.specs.Machine.Turns.{effect, machine_after, take_effect, takes_result}
use Rattle.usb_model.specs.Setup.{Setup, is_device}
use Rattle.usb_model.specs.World.{Turn, World, is_blocked, machine_of, owner_of, turn, turn_by, turn_of, turn_of_nobody}
use Rattle.usb_model.specs.World.Shared.{past_first}
use Rattle.proof_model.proofs.Handles.Isolation.{turn_blocked, turn_free, effect_to}
use Rattle.proof_model.proofs.Lists.Pieces.{same_name}
use Rattle.proof_model.proofs.Work.Moves.{Moves}
use Rattle.proof_model.proofs.Work.StepMoves.{moves}
use Rattle.usb_model.specs.declared.request.Request.{Request}
use Rattle.usb_model.specs.declared.verdict.Verdict.TheVariants.{Again, AgainWith, Stop}
use Rattle.usb_core.specs.Reads.{is_done}
use Rattle.usb_core.specs.Steps.{kept_after}
use Rattle.usb_core.specs.Public.{Carries, CarriesMore, Kept, State, StillCarries, TurnsWorld, called_entry, takes_memory}
use Rattle.usb_core.specs.declared.submission.SubmitError.{SubmitError}
use Rattle.usb_recorder.specs.declared.place.Place.{Place}
use Rattle.usb_journal.specs.declared.timer.Timer.{Timer}
use Rattle.usb_journal.specs.Booked.{Replays, answer_entry, world_where}
use Rattle.usb_recorder.specs.Records.{bytes_in}
use Rattle.usb_journal.specs.Timers.{ended, ending, numbered, stopped_if, timers_by}
use Rattle.usb_journal.proofs.Runs.{next_is}

-- what calls nothing back has no bytes
no_bytes : (r : Reply) → call_of r ≡ [] → bytes_in r ≡ 0
no_bytes (reply.Called r) none = absurd cc
no_bytes reply.Done none = refl
no_bytes (reply.Number n) none = refl
no_bytes (reply.Refused why) none = refl
no_bytes reply.Idle none = refl
no_bytes (reply.Nak n) none = refl
no_bytes (reply.Moved n bytes) none = refl
no_bytes (reply.Ended n code) none = refl
no_bytes (reply.Ran ep errand ok) none = refl
no_bytes (reply.Finished n) none = refl
no_bytes (reply.Paused n) none = refl
no_bytes (reply.Settled ep errand ok) none = refl

-- a step that takes no result calls nothing back
effect_calls : (setup : Setup) (h : ℕ) (m : Machine) (step : Step) → takes_result step ≡ false → call_of (effect setup h m step).reply ≡ []
unfolding machine_after
effect_calls setup h m step other = by_moves (moves setup h m step)
  where
    by_moves : Moves h m (machine_after setup m step (effect setup h m step)) (effect setup h m step).reply → call_of (effect setup h m step).reply ≡ []
    by_moves (inl w) = w.calls
    by_moves (inr (inl s)) = s.calls
    by_moves (inr (inr t)) =
        let longer : m.results ≡ t.result ∷ (m.results ++ (effect setup h m step).results) = subst (λ b. m.results ≡ t.result ∷ (past_first b m.results ++ (effect setup h m step).results)) other t.results in
        let count : length m.results ≡ length (t.result ∷ (m.results ++ (effect setup h m step).results)) = ap length longer in
        absurd (omega (arith, count, length-append m.results (effect setup h m step).results))

-- a name's turn
turn_of_calls : (setup : Setup) (h : ℕ) (w : World) (step : Step) → takes_result step ≡ false → call_of (turn_of setup h w step).entry.reply ≡ []
turn_of_calls setup h w step other = by_test (is_blocked setup h w (effect_to setup h w step).change) refl
  where
    by_test : (b : Bool) → is_blocked setup h w (effect_to setup h w step).change ≡ b → call_of (turn_of setup h w step).entry.reply ≡ []
    by_test true blocked = ap (λ (t : Turn). call_of t.entry.reply) (turn_blocked setup h w step blocked)
    by_test false free = ap (λ (t : Turn). call_of t.entry.reply) (turn_free setup h w step free) ∙ effect_calls setup h (machine_of setup h w) step other

-- nobody's
nobody_calls : (setup : Setup) (w : World) (step : Step) → call_of (turn_of_nobody setup w step).entry.reply ≡ []
unfolding turn_of_nobody
nobody_calls setup w (Unplug dev) = by_tests (not (is_device setup dev)) (w.gone dev)
  where
    by_tests : (a b : Bool) → call_of (if a then reply.Refused NotFound else (if b then reply.Refused NoDevice else reply.Done)) ≡ []
    by_tests true b = refl
    by_tests false true = refl
    by_tests false false = refl
nobody_calls setup w _ = refl

-- any turn of such a step has no bytes
pub plain_bytes : (setup : Setup) (w : World) (step : Step) → takes_result step ≡ false → bytes_in (turn setup w step).entry.reply ≡ 0
unfolding turn
plain_bytes setup w step other = no_bytes (turn setup w step).entry.reply (by_owner (owner_of setup w step))
  where
    by_owner : (o : Option ℕ) → call_of (turn_by setup o w step).entry.reply ≡ []
    by_owner None = nobody_calls setup w step
    by_owner (Some h) = turn_of_calls setup h w step other

-- a Take has those of the first result
pub take_bytes : (setup : Setup) (w : World) → bytes_in (turn setup w Take).entry.reply ≡ option_map_or (λ t. length t.piece.bytes) (slice_get w.results 0) 0
unfolding turn turn_of turn_of_nobody effect take_effect is_blocked machine_of
take_bytes setup w = by_results w.results refl
  where
    by_results : (rs : List (Tagged TransferResult)) → w.results ≡ rs → bytes_in (turn setup w Take).entry.reply ≡ option_map_or (λ t. length t.piece.bytes) (slice_get w.results 0) 0
    by_results [] is = rw is refl
    by_results (x ∷ xs) is = rw (is, same_name x.name) refl

-- a step for which the core takes no memory takes no result
pub plain_takes : (step : Step) → takes_memory step ≡ false → takes_result step ≡ false
plain_takes Take e = absurd cc
plain_takes _ e = refl

module _ {P : Type 0} (setup : Setup) (places : List Place) (core new : State P) (entry : Entry) where
  -- its entry has no bytes
  pub no_bytes_of : (step : Step) → takes_memory step ≡ false → TurnsWorld core step entry new → Replays setup places core → bytes_in entry.reply ≡ 0
  no_bytes_of step plain turn r = ap (λ (e : Entry). bytes_in e.reply) (next_is setup places core new step entry turn r) ∙ plain_bytes setup (world_where setup places) step (plain_takes step plain)

  -- that of a Take has at most as many as the first result
  pub taken_bytes : (n : ℕ) → TurnsWorld core Take entry new → Replays setup places core → n ≡ option_map_or (λ t. length t.piece.bytes) (slice_get (world_where setup places).results 0) 0 → bytes_in entry.reply ≤ n
  taken_bytes n turn r is =
      let same : bytes_in entry.reply ≡ n = ap (λ (e : Entry). bytes_in e.reply) (next_is setup places core new Take entry turn r) ∙ (take_bytes setup (world_where setup places) ∙ sym is) in
      omega (arith, same)

-- a callback that ends, or none
nothing_stops : (ts : List Timer) (o : Option (ℕ × ℕ)) (r : Reply) → is_done r ≡ false → stopped_if o r ts ≡ ts
nothing_stops ts (Some x) reply.Done e = absurd cc
nothing_stops ts (Some x) _ e = refl
nothing_stops ts None _ e = refl

number_plain : (ts : List Timer) (step : Step) (n moment : ℕ) → takes_memory step ≡ false → numbered ts step n moment ≡ ts
number_plain ts (Submit h request) n moment e = absurd cc
number_plain ts (Answer h k Again) n moment e = absurd cc
number_plain ts (Answer h k (AgainWith bytes)) n moment e = absurd cc
number_plain ts (Answer h k Stop) n moment e = refl
number_plain ts _ n moment e = refl

done_plain : (ts : List Timer) (step : Step) → takes_memory step ≡ false → stopped_if (ending step) reply.Done ts ≡ ended ts step
done_plain ts (Answer h k Again) e = absurd cc
done_plain ts (Answer h k (AgainWith bytes)) e = absurd cc
done_plain ts (Answer h k Stop) e = refl
done_plain ts _ e = refl

-- the timers behind such a step
pub plain_timers : (ts : List Timer) (step : Step) (r : Reply) (moment : ℕ) → takes_memory step ≡ false → stopped_if (ending step) r ts ≡ timers_by ts step r moment
plain_timers ts step (reply.Number n) moment e = nothing_stops ts (ending step) (reply.Number n) refl ∙ sym (number_plain ts step n moment e)
plain_timers ts step reply.Done moment e = done_plain ts step e
plain_timers ts step (reply.Refused why) moment e = nothing_stops ts (ending step) (reply.Refused why) refl
plain_timers ts step reply.Idle moment e = nothing_stops ts (ending step) reply.Idle refl
plain_timers ts step (reply.Nak n) moment e = nothing_stops ts (ending step) (reply.Nak n) refl
plain_timers ts step (reply.Moved n bytes) moment e = nothing_stops ts (ending step) (reply.Moved n bytes) refl
plain_timers ts step (reply.Ended n code) moment e = nothing_stops ts (ending step) (reply.Ended n code) refl
plain_timers ts step (reply.Ran ep errand ok) moment e = nothing_stops ts (ending step) (reply.Ran ep errand ok) refl
plain_timers ts step (reply.Finished n) moment e = nothing_stops ts (ending step) (reply.Finished n) refl
plain_timers ts step (reply.Paused n) moment e = nothing_stops ts (ending step) (reply.Paused n) refl
plain_timers ts step (reply.Settled ep errand ok) moment e = nothing_stops ts (ending step) (reply.Settled ep errand ok) refl
plain_timers ts step (reply.Called r) moment e = nothing_stops ts (ending step) (reply.Called r) refl

-- a submission keeps its own
pub submit_keeps : {G P : Type 0} (old new : State P) (kept : Kept P) (h : ℕ) (request : Request) (payload : P) (a : Result ℕ (SubmitError G P)) → IfOk a (λ n. CarriesMore h n payload old new) → OnErr a (StillCarries old new) → Carries kept old
    → Carries (kept_after kept (Submit h request) (answer_entry h a) (Some payload)) new
submit_keeps old new kept h request payload (Ok n) more still has = more kept has
submit_keeps old new kept h request payload (Err x) more still has = still kept has

-- a result that goes out leaves the timers
pub take_timers : (ts : List Timer) (o : Option Returned) (moment : ℕ) → ts ≡ timers_by ts Take (called_entry o).reply moment
take_timers ts None moment = refl
take_timers ts (Some r) moment = refl
