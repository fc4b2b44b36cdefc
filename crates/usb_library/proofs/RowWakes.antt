-- Whom a row of steps has to wake: whom one of its steps names, and nobody else.
use Rattle.std.proofs.Common.{Bool, List, [], ap, false, inl, inr, refl, subst, sym, true, zero, suc, ℕ, ◌++◌, ◌∙◌, ◌∷◌, ◌≡◌, ◌⊎◌}
use Rattle.std.proofs.lemmas.List.{map-append}
use Rattle.std.proofs.Math.Seq.{take-append_seam}
use Rattle.std.proofs.lemmas.Bool.{and_parts, or_parts}
use Rattle.std.specs.Prelude.{◌&&◌, if◌then◌else◌, not, replicate}
use Rattle.usb_model.specs.declared.reply.Reply.{Reply}
use Rattle.usb_model.specs.declared.reply.Reply.TheVariants as reply
use Rattle.usb_model.specs.declared.step.Step.{Step}
use Rattle.usb_model.specs.declared.step.Step.TheVariants.{Command, Deliver, Serve, Take}
use Rattle.usb_model.specs.Setup.{Setup}
use Rattle.usb_model.specs.World.{World, new_world, turn, world_from}
use Rattle.usb_model.specs.World.Journal.{journal_from, run_from}
use Rattle.usb_core.specs.Public.{does_something}
use Rattle.usb_recorder.specs.declared.place.Place.{Place}
use Rattle.usb_journal.specs.Booked.{entries_of, steps_of, world_where}
use Rattle.usb_journal.specs.Rows.{are_quiet, ends_any, is_end, is_quiet, is_settled}
use Rattle.proof_model.proofs.Handles.Runs.{world_append}
use Rattle.usb_library.specs.declared.wakes.WorkerPart.{WorkerPart}
use Rattle.usb_library.specs.declared.wakes.WorkerPart.TheVariants.{Controller, Events}
use Rattle.usb_library.specs.declared.wakes.Work.{Work}
use Rattle.usb_library.specs.declared.wakes.Work.TheVariants.{None, Of}
use Rattle.usb_library.specs.Calls.{changes}
use Rattle.usb_library.specs.Wakes.{HasWork, Wakes, WakesSince, if_changed, names, of_event, of_packet, work_of}
use Rattle.usb_library.proofs.NewWork.{names_new_work}
use Rattle.usb_library.proofs.RowMade.{IsLastRow}

-- a world that some run comes to
abbrev IsReached : Setup → World → Type 0
IsReached setup w = (steps : List Step) × (w ≡ world_from setup (new_world setup) steps)

-- so is the one behind one step more
reached_on : (setup : Setup) (w : World) (step : Step) → IsReached setup w → IsReached setup (turn setup w step).world
unfolding world_from
reached_on setup w step (steps, is) = (steps ++ step ∷ [], ap (λ v. (turn setup v step).world) is ∙ sym (world_append setup (new_world setup) steps (step ∷ [])))

-- for whom a step makes work, in a world
abbrev makes_work : Setup → World → Step → Work
makes_work setup w step = work_of step (turn setup w step).entry.reply (does_something setup (turn setup w step).world Command)

-- there a worker that has work behind it had some before, or is named by the rule
step_wakes : (setup : Setup) (w : World) (step : Step) → IsReached setup w → Wakes setup w (turn setup w step).world (makes_work setup w step)
step_wakes setup w step (steps, is) = rw is (names_new_work setup steps step)

-- whoever is named by less is named by more
abbrev Covers : (less more : Work) → Type 0
Covers less more = (part : WorkerPart) → names less part ≡ true → names more part ≡ true

-- each of these steps, from a world on, names nobody beside
abbrev pub NameNoMore : Setup → World → List Step → Work → Type 0
NameNoMore setup w [] work = Unit {0}
NameNoMore setup w (step ∷ steps) work = Covers (makes_work setup w step) work × NameNoMore setup (turn setup w step).world steps work

-- then so does the row
all_wake : (setup : Setup) (work : Work) (w : World) (steps : List Step) → IsReached setup w → NameNoMore setup w steps work → Wakes setup w (world_from setup w steps) work
unfolding world_from
all_wake setup work w [] reached no_more = λ part has. inl has
all_wake setup work w (step ∷ steps) reached no_more = λ part has. by_rest part (all_wake setup work (turn setup w step).world steps (reached_on setup w step reached) no_more.1 part has)
  where
    by_first : (part : WorkerPart) → HasWork setup w part ⊎ (names (makes_work setup w step) part ≡ true) → HasWork setup w part ⊎ (names work part ≡ true)
    by_first part (inl had) = inl had
    by_first part (inr named) = inr (no_more.0 part named)

    by_rest : (part : WorkerPart) → HasWork setup (turn setup w step).world part ⊎ (names work part ≡ true) → HasWork setup w part ⊎ (names work part ≡ true)
    by_rest part (inl had) = by_first part (step_wakes setup w step reached part had)
    by_rest part (inr named) = inr named

-- a packet names the worker of events, and that one only where it ended a transfer
packet_covered : (ended changed : Bool) (r : Reply) → (ended ≡ false → is_end r ≡ false) → Covers (if_changed changed (of_packet r)) (if ended then Of Events else None)
packet_covered ended false r quiet part named = absurd cc
packet_covered true true (reply.Ended n code) quiet part named = named
packet_covered false true (reply.Ended n code) quiet part named = absurd (cc (quiet refl))
packet_covered ended true _ quiet part named = absurd cc

-- so do packets in a row
pub packets_name : (setup : Setup) (d e : ℕ) (ended : Bool) (count : ℕ) (w : World) → (ended ≡ false → ends_any (run_from setup w (replicate count (Serve d e))) ≡ false)
    → NameNoMore setup w (replicate count (Serve d e)) (if ended then Of Events else None)
unfolding journal_from
packets_name setup d e ended zero w none = tt
packets_name setup d e ended (suc count) w none =
    let t = turn setup w (Serve d e) in
    let parts : ended ≡ false → (is_end t.entry.reply ≡ false) × (ends_any (run_from setup t.world (replicate count (Serve d e))) ≡ false) = λ is. or_parts (is_end t.entry.reply) (ends_any (run_from setup t.world (replicate count (Serve d e)))) (none is) in
    (packet_covered ended (changes t.entry.reply) t.entry.reply (λ is. (parts is).0), packets_name setup d e ended count t.world (λ is. (parts is).1))

-- an event names the controller's worker, and that one only where an errand ended or an order waits
event_covered : (quiet order : Bool) (r : Reply) → (quiet ≡ true → (is_settled r ≡ false) × (order ≡ false)) → Covers (of_event r order) (if quiet then None else Of Controller)
event_covered false order (reply.Settled ep errand ok) is part named = named
event_covered true order (reply.Settled ep errand ok) is part named = absurd (cc (is refl).0)
event_covered false true _ is part named = named
event_covered true true _ is part named = absurd (cc (is refl).1)
event_covered quiet false _ is part named = absurd cc

-- where nothing changed nobody is named
if_covered : (changed : Bool) (less more : Work) → Covers less more → Covers (if_changed changed less) more
if_covered true less more covers = covers
if_covered false less more covers = λ part named. absurd cc

-- an event that leaves nothing: no errand ended, and no order waits
quiet_parts : (settled order : Bool) → (not settled && not order) ≡ true → (settled ≡ false) × (order ≡ false)
quiet_parts false false is = (refl, refl)
quiet_parts false true is = absurd cc
quiet_parts true order is = absurd cc

-- so do events in a row
pub events_name : (setup : Setup) (quiet : Bool) (count : ℕ) (w : World) → (quiet ≡ true → are_quiet setup w count ≡ true) → NameNoMore setup w (replicate count Deliver) (if quiet then None else Of Controller)
events_name setup quiet zero w are = tt
events_name setup quiet (suc count) w are =
    let t = turn setup w Deliver in
    let order = does_something setup t.world Command in
    let parts : quiet ≡ true → (is_quiet setup w ≡ true) × (are_quiet setup t.world count ≡ true) = λ is. and_parts (is_quiet setup w) (are_quiet setup t.world count) (are is) in
    (if_covered (changes t.entry.reply) (of_event t.entry.reply order) (if quiet then None else Of Controller) (event_covered quiet order t.entry.reply (λ is. quiet_parts (is_settled t.entry.reply) order (parts is).0)), events_name setup quiet count t.world (λ is. (parts is).1))

-- results that go out name nobody
pub results_name : (setup : Setup) (count : ℕ) (w : World) → NameNoMore setup w (replicate count Take) None
results_name setup zero w = tt
results_name setup (suc count) w = let t = turn setup w Take in (if_covered (changes t.entry.reply) None None (λ part named. named), results_name setup count t.world)

-- the world where a journal ends, behind the run of its last steps
run_behind : (setup : Setup) (before places : List Place) (steps : List Step) → steps_of places ≡ steps → world_where setup (before ++ places) ≡ world_from setup (world_where setup before) steps
run_behind setup before places steps is =
    ap (world_from setup (new_world setup)) (map-append (λ p. p.step) before places)
    ∙ (world_append setup (new_world setup) (steps_of before) (steps_of places)
    ∙ ap (world_from setup (world_where setup before)) is)

-- a row of steps that name nobody beside
row_wakes : (setup : Setup) (steps : List Step) (before places seen : List Place) (first : ℕ) (work : Work) → IsLastRow setup steps before places seen first → NameNoMore setup (world_where setup before) steps work → WakesSince setup seen first work
row_wakes setup steps before places seen first work last no_more =
    rw (last.saw, last.first, take-append_seam before places, run_behind setup before places steps last.steps)
    (all_wake setup work (world_where setup before) steps (steps_of before, refl) no_more)

-- packets in a row
pub packets_wake : (setup : Setup) (dev ep count : ℕ) (ended : Bool) (before places seen : List Place) (first : ℕ) (work : Work) → IsLastRow setup (replicate count (Serve dev ep)) before places seen first
    → ended ≡ ends_any (entries_of places) → work ≡ (if ended then Of Events else None) → WakesSince setup seen first work
packets_wake setup dev ep count ended before places seen first work last is named =
    subst (WakesSince setup seen first) (sym named)
    (row_wakes setup (replicate count (Serve dev ep)) before places seen first (if ended then Of Events else None) last
    (packets_name setup dev ep ended count (world_where setup before) (λ none. ap ends_any (sym last.entries) ∙ (sym is ∙ none))))

-- events in a row
pub events_wake : (setup : Setup) (count : ℕ) (quiet : Bool) (before places seen : List Place) (first : ℕ) (work : Work) → IsLastRow setup (replicate count Deliver) before places seen first
    → quiet ≡ are_quiet setup (world_where setup before) count → work ≡ (if quiet then None else Of Controller) → WakesSince setup seen first work
events_wake setup count quiet before places seen first work last are named =
    subst (WakesSince setup seen first) (sym named) (row_wakes setup (replicate count Deliver) before places seen first (if quiet then None else Of Controller) last (events_name setup quiet count (world_where setup before) (λ all. sym are ∙ all)))

-- results in a row
pub results_wake : (setup : Setup) (count : ℕ) (before places seen : List Place) (first : ℕ) → IsLastRow setup (replicate count Take) before places seen first → WakesSince setup seen first None
results_wake setup count before places seen first last = row_wakes setup (replicate count Take) before places seen first None last (results_name setup count (world_where setup before))
