-- Packets in a row, by their entries.
use Rattle.std.proofs.Common.{◌≡◌, ◌∙◌, ◌+◌, ◌++◌, ℕ, zero, suc, Bool, false, true, List, [], ◌∷◌, Option, Some, None, ap, ap₂, append_assoc, length, refl, subst, sym}
use Rattle.std.specs.Prelude.{◌||◌, replicate}
use Rattle.std.proofs.lemmas.List.{length-replicate}
use Rattle.usb_model.specs.declared.entry.Entry.{Entry}
use Rattle.usb_model.specs.declared.step.Step.{Step}
use Rattle.usb_model.specs.declared.step.Step.TheVariants.{Serve}
use Rattle.usb_model.specs.Setup.{Setup}
use Rattle.usb_model.specs.World.{World, turn}
use Rattle.usb_model.specs.World.Journal.{journal_from, run_from}
use Rattle.usb_model.specs.Machine.Turns.{takes_result}
use Rattle.usb_core.specs.Public.{State, burst_entries, whole_entries}
use Rattle.usb_core.specs.declared.step_bursts.Burst.{Burst}
use Rattle.usb_core.specs.declared.step_bursts.Whole.{Whole}
use Rattle.usb_core.specs.StepBursts.{whole_entry}
use Rattle.usb_recorder.specs.declared.place.Place.{Place}
use Rattle.usb_journal.specs.Booked.{world_where}
use Rattle.usb_journal.specs.Entered.{DoesRow}
use Rattle.usb_recorder.specs.Records.{bytes_in}
use Rattle.usb_journal.specs.Rows.{AreProgress, GoOn, MayStop, MayStopBehind, ends_any, is_end, is_progress}
use Rattle.usb_journal.specs.Seen.{Positioned}
use Rattle.usb_journal.proofs.Replies.{plain_bytes}
use Rattle.usb_journal.proofs.InRows.{ends_on, may_stop_last, run_length, run_more}

-- the last entry of a run of the same step, which takes no result, has no bytes
pub last_bytes : (setup : Setup) (w : World) (step : Step) (n : ℕ) (xs : List Entry) (y : Entry) → takes_result step ≡ false → xs ++ y ∷ [] ≡ run_from setup w (replicate n step) → bytes_in y.reply ≡ 0
unfolding journal_from
last_bytes setup w step zero [] y other run = absurd cc
last_bytes setup w step zero (x ∷ xs) y other run = absurd cc
last_bytes setup w step (suc n) [] y other run =
    let first : y ≡ (turn setup w step).entry = cc in
    ap (λ (e : Entry). bytes_in e.reply) first ∙ plain_bytes setup w step other
last_bytes setup w step (suc n) (x ∷ xs) y other run =
    let rest : xs ++ y ∷ [] ≡ run_from setup (turn setup w step).world (replicate n step) = cc in
    last_bytes setup (turn setup w step).world step n xs y other rest

-- packets that move bytes of a transfer that goes on end none
none_ends : (x : Whole) (n : ℕ) → ends_any (replicate n (whole_entry x)) ≡ false
none_ends x zero = refl
none_ends x (suc n) = none_ends x n

-- nor do those before the last of a burst
wholes_end_none : (each : Option Whole) (n : ℕ) → ends_any (whole_entries each n) ≡ false
wholes_end_none None n = refl
wholes_end_none (Some x) n = none_ends x n

-- only the last of a burst may end one
burst_ends : (b : Burst) → ends_any (burst_entries b) ≡ is_end b.last.reply
burst_ends b = ends_on (whole_entries b.each b.full) (b.last ∷ []) ∙ (ap (λ x. x || (is_end b.last.reply || false)) (wholes_end_none b.each b.full) ∙ or_false (is_end b.last.reply))
  where
    or_false : (x : Bool) → (x || false) ≡ x
    or_false true = refl
    or_false false = refl

-- no packets
pub none_progress : (setup : Setup) (w : World) → AreProgress (run_from setup w [])
unfolding journal_from
none_progress setup w = tt

-- of two rows
progress_on : (xs ys : List Entry) → AreProgress xs → AreProgress ys → AreProgress (xs ++ ys)
progress_on [] ys one two = two
progress_on (x ∷ xs) ys one two = (one.0, progress_on xs ys one.1 two)

-- where each did, so did each but the last
pub progress_goes_on : (xs : List Entry) → AreProgress xs → GoOn xs
progress_goes_on [] are = tt
progress_goes_on (x ∷ []) are = tt
progress_goes_on (x ∷ y ∷ xs) are = (are.0, progress_goes_on (y ∷ xs) are.1)

-- whatever the last did
progress_last : (xs : List Entry) (y : Entry) → AreProgress xs → GoOn (xs ++ y ∷ [])
progress_last [] y are = tt
progress_last (x ∷ []) y are = (are.0, tt)
progress_last (x ∷ z ∷ xs) y are = (are.0, progress_last (z ∷ xs) y are.1)

-- the packets of a burst but the last
wholes_progress : (each : Option Whole) (n : ℕ) → AreProgress (whole_entries each n)
wholes_progress None n = tt
wholes_progress (Some x) zero = tt
wholes_progress (Some x) (suc n) = (refl, wholes_progress (Some x) n)

-- a burst has an entry for each packet
pub burst_length : (setup : Setup) (w : World) (step : Step) (b : Burst) → burst_entries b ≡ run_from setup w (replicate (b.full + 1) step) → length (burst_entries b) ≡ b.full + 1
burst_length setup w step b run = ap length run ∙ (run_length setup w (replicate (b.full + 1) step) ∙ length-replicate (b.full + 1) step)

module _ {P : Type 0} (setup : Setup) (moment d e n : ℕ) (old : State P) (first : List Place) (before : Positioned) (core : State P) (mid : List Place) (between : Positioned) (b : Burst) (row : DoesRow setup moment (replicate n (Serve d e)) old first before core mid between)
    (told : burst_entries b ≡ run_from setup (world_where setup mid) (replicate (b.full + 1) (Serve d e))) where
  -- a burst behind other packets
  burst_run : run_from setup (world_where setup first) (replicate (n + (b.full + 1)) (Serve d e)) ≡ run_from setup (world_where setup first) (replicate n (Serve d e)) ++ burst_entries b
  burst_run = run_more setup moment n (b.full + 1) (Serve d e) old first before core mid between row ∙ ap (λ l. run_from setup (world_where setup first) (replicate n (Serve d e)) ++ l) (sym told)

  -- one ended a transfer, where one before it did or its last
  pub burst_ended : (ended ends : Bool) → ends ≡ (ended || is_end b.last.reply) → ended ≡ ends_any (run_from setup (world_where setup first) (replicate n (Serve d e))) → ends ≡ ends_any (run_from setup (world_where setup first) (replicate (n + (b.full + 1)) (Serve d e)))
  burst_ended ended ends is before =
      let packets = run_from setup (world_where setup first) (replicate n (Serve d e)) in
      is ∙ (ap₂ (λ (x y : Bool). x || y) before (sym (burst_ends b)) ∙ (sym (ends_on packets (burst_entries b)) ∙ ap ends_any (sym burst_run)))

  -- they may stop, where they may behind its last
  pub burst_stops : (w : World) → MayStop setup w d e b.last.reply → MayStopBehind setup w d e (run_from setup (world_where setup first) (replicate (n + (b.full + 1)) (Serve d e)))
  burst_stops w may =
      let packets = run_from setup (world_where setup first) (replicate n (Serve d e)) in
      subst (MayStopBehind setup w d e) (sym (burst_run ∙ sym (append_assoc packets (whole_entries b.each b.full) (b.last ∷ [])))) (may_stop_last setup w d e (packets ++ whole_entries b.each b.full) b.last may)

  -- each packet so far moved bytes or ended a transfer, and so did all of the burst
  pub burst_goes_on : AreProgress (run_from setup (world_where setup first) (replicate n (Serve d e))) → is_progress b.last.reply ≡ true → AreProgress (run_from setup (world_where setup first) (replicate (n + (b.full + 1)) (Serve d e)))
  burst_goes_on are last =
      subst AreProgress (sym burst_run) (progress_on (run_from setup (world_where setup first) (replicate n (Serve d e))) (burst_entries b) are (progress_on (whole_entries b.each b.full) (b.last ∷ []) (wholes_progress b.each b.full) (last, tt)))

  -- or all but its last
  pub burst_halts : AreProgress (run_from setup (world_where setup first) (replicate n (Serve d e))) → GoOn (run_from setup (world_where setup first) (replicate (n + (b.full + 1)) (Serve d e)))
  burst_halts are =
      let packets = run_from setup (world_where setup first) (replicate n (Serve d e)) in
      subst GoOn (sym (burst_run ∙ sym (append_assoc packets (whole_entries b.each b.full) (b.last ∷ [])))) (progress_last (packets ++ whole_entries b.each b.full) b.last (progress_on packets (whole_entries b.each b.full) are (wholes_progress b.each b.full)))
