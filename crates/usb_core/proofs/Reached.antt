-- How far a run is.
use Rattle.std.proofs.Common.{◌≡◌, ◌∙◌, ℕ, ◌+◌, ◌<◌, ◌≤◌, List, ◌∷◌, [], ◌++◌, drop, length, take, slice_index_or, Result, Ok, Err, IfOk, ap, refl, sym}
use Rattle.usb_model.specs.declared.entry.Entry.{Entry}
use Rattle.usb_model.specs.declared.step.Step.{Step}
use Rattle.usb_model.specs.Setup.{Setup}
use Rattle.usb_model.specs.World.{World, new_world, turn}
use Rattle.usb_model.specs.World.Journal.{journal, run_from, world_run}
use Rattle.proof_model.proofs.Handles.Beginnings.{first_steps, step_left}
use Rattle.proof_model.proofs.Handles.Runs.{run_ends, step_further}
use Rattle.proof_model.proofs.Bound.AskedEnds.{asked_ends}
use Rattle.proof_model.proofs.Cut.Runs.{cuts_at}
use Rattle.proof_model.proofs.Places.Runs.{keeps_places}
use Rattle.refine_core.specs.State.{ShowsWorld, State}
use Rattle.refine_core.specs.Steps.{TurnsWorld}
use Rattle.refine_world.specs.Lively.{IsFine}
use Rattle.usb_core.specs.Runs.{IsLawfulRun, ObeysLaws}
use Rattle.usb_core.specs.Steps.{Advances}
use Rattle.proof_model.proofs.Callbacks.{calls_in_order, calls_once}
use Rattle.usb_core.proofs.Unsized.{cut_anywhere}

-- every run obeys the laws
pub obeys_laws : (setup : Setup) (steps : List Step) → ObeysLaws setup steps
obeys_laws setup steps = record { cut = cuts_at setup steps; places = keeps_places setup steps; ends = asked_ends setup steps }

-- that of a core has nothing more to ask of its setup
lawful_run : (setup : Setup) (steps : List Step) → IsFine setup → IsLawfulRun setup steps
lawful_run setup steps fine = record {
  cut = cut_anywhere setup steps fine;
  places = keeps_places setup steps;
  ends = asked_ends setup steps;
  once = calls_once setup steps;
  order = calls_in_order setup steps;
}

-- no entries are those of no steps
pub none_stopped : (setup : Setup) (steps : List Step) (es : List Entry) → es ≡ [] → es ≡ world_run setup (take (length es) steps)
none_stopped setup steps es none = first_steps setup es steps (world_run setup steps, rw none refl)

module _ {P A E : Type 0} where
  -- a step's entry that was put behind those before
  pub advances : (r : Result A E) (old new : State P) (step its : Step) (entry : Entry) (before after : List Entry) → step ≡ its → TurnsWorld old its entry new → IfOk r (λ x. after ≡ before ++ entry ∷ []) → IfOk r (λ x. Advances old step new before after)
  advances (Ok x) old new step its entry before after is turn pushed = (entry, pushed, rw is turn)
  advances (Err x) old new step its entry before after is turn pushed = tt

module _ {P : Type 0} (setup : Setup) (steps : List Step) where
  -- so many steps were made: some world is shown, from which the rest of the run's entries follow
  abbrev pub Reached : State P → List Entry → ℕ → Type 0
  Reached s entries i = (w : World) × ShowsWorld setup s w × (entries ++ run_from setup w (drop i steps) ≡ world_run setup steps)

  -- no step was made
  pub none_yet : (s : State P) → ShowsWorld setup s (new_world setup) → Reached s [] 0
  unfolding journal
  none_yet s shows = (new_world setup, shows, refl)

  -- one step more
  pub one_more : (old new : State P) (es fs : List Entry) (i : ℕ) (x : Step) → i < length steps → x ≡ slice_index_or steps i x → Reached old es i → Advances old x new es fs → Reached new fs (i + 1)
  one_more old new es fs i x within item (w, shows, so_far) (entry, pushed, turn_is) =
      let made : (entry ≡ (turn setup w x).entry) × ShowsWorld setup new (turn setup w x).world = turn_is setup w shows in
      ((turn setup w x).world, made.1, step_further setup w (turn setup w x).world steps i x es fs (world_run setup steps) within item so_far (pushed ∙ ap (λ y. es ++ y ∷ []) made.0) refl)

  -- the entries so far are those of the first so many steps
  pub stopped : (s : State P) (es : List Entry) (i : ℕ) → Reached s es i → es ≡ world_run setup (take (length es) steps)
  stopped s es i (w, shows, so_far) = first_steps setup es steps (run_from setup w (drop i steps), sym so_far)

  -- and a step is left
  pub left : (s : State P) (es : List Entry) (i : ℕ) → i < length steps → Reached s es i → length es < length steps
  left s es i within (w, shows, so_far) = step_left setup w steps i es within so_far

  -- at the end they are the run's
  pub all : (s : State P) (es : List Entry) (i : ℕ) → length steps ≤ i → Reached s es i → es ≡ world_run setup steps
  all s es i past (w, shows, so_far) = run_ends setup w steps i es (world_run setup steps) past so_far

  -- whatever steps are made by such a core, their run is lawful
  pub lawful : (s : State P) (es : List Entry) (i : ℕ) → Reached s es i → (made : List Step) → IsLawfulRun setup made
  lawful s es i (w, shows, so_far) made = lawful_run setup made shows.1.fine
