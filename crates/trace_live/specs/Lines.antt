-- The lines of a handle, on their way to its thread.
use Rattle.std.specs.Prelude.{◌≡◌, ◌<◌, ◌==◌, ℕ, Bool, not, List, [], ◌∷◌, ◌++◌, length, map, filter, get_or, slice_set, option_map, Option, Some, None}
use Rattle.usb_model.specs.declared.plan.Plan.{Plan}
use Rattle.usb_model.specs.declared.plan.Plan.TheVariants.{Do, Return}
use Rattle.usb_model.specs.declared.step.Step.{Step}
use Rattle.usb_model.specs.declared.step.Step.TheVariants.{Submit as IsSubmit}
use Rattle.trace_live.specs.declared.line.Line.{Line}
use Rattle.trace_live.specs.declared.line.Line.TheVariants.{Submit, Call}
use Rattle.trace_live.specs.declared.queue.Coming.{Coming}
use Rattle.crossbeam_channel.specs.Claims.{Pass, view}
use Rattle.trace_threads.specs.Calls.{calls_by, handle_of, steps_in}

-- the step that a line says; a submission is that of its callback's handle
abbrev pub said_by : {Q : Type 0} → Line Q → Step
said_by (Submit request callback) = IsSubmit callback.0 request
said_by (Call step) = step

-- those of lines, in order
abbrev pub said_by_all : {Q : Type 0} → List (Line Q) → List Step
said_by_all lines = map said_by lines

-- the call that a piece of a plan says, with its handle
abbrev pub call_in : Plan → Option (ℕ × Step)
call_in (Do step) = option_map (λ h. (h, step)) (handle_of step)
call_in (Return h n) = None

-- those of the lines of each handle, by its name
abbrev pub said_by_each : {Q : Type 0} → List (List (Line Q)) → List (List Step)
said_by_each handles = map said_by_all handles

-- what is known of a channel: these lines are in it
abbrev pub coming : {Q : Type 0} → List (Line Q) → Coming Q
coming lines = record { lines = lines }

-- the lines that are known by a pass
abbrev pub known : {Q : Type 0} → Pass (Line Q) (Coming Q) → List (Line Q)
known pass = (view pass).lines

-- one thread knows what is in the channel, all of it, oldest first
abbrev pub InOrder : {Q : Type 0} → List (Line Q) → List (Coming Q) → Type 0
InOrder lines views = views ≡ coming lines ∷ []

-- steps of each handle, with one call more behind those of its own
abbrev pub dealt : List (List Step) → Option (ℕ × Step) → List (List Step)
dealt handles None = handles
dealt handles (Some call) = slice_set handles call.0 (get_or handles call.0 [] ++ call.1 ∷ [])

-- the steps of each handle are its calls in a plan, in order
pub record AreDealt (handles : List (List Step)) (plan : List Plan) : Type 0 where
  pub all : length handles ≡ 64
  pub each : (h : ℕ) → h < 64 → get_or handles h [] ≡ calls_by h (steps_in plan)

-- whether there are steps
abbrev pub has_steps : List Step → Bool
has_steps steps = not (length steps == 0)

-- of each handle that has calls in a plan these are its steps
abbrev pub ArePlanned : List (List Step) → List Plan → Type 0
ArePlanned handles plan = (all : List (List Step)) × AreDealt all plan × (handles ≡ filter has_steps all)
