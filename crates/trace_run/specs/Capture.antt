-- The capture of a run: the records of its devices' lines and of its entries, each of which came from a line.
use Rattle.std.specs.Prelude.{◌≡◌, ◌++◌, ℕ, List, [], ◌∷◌, map, Option}
use Rattle.std.specs.List.{flat_map}
use Rattle.std.specs.Io.KnownBytes.{Appends}
use Rattle.usb_model.specs.declared.entry.Entry.{Entry}
use Rattle.usb_model.specs.declared.plan.Plan.{Plan}
use Rattle.usb_model.specs.declared.plan.Plan.TheVariants.{Do, Return}
use Rattle.usb_model.specs.declared.step.Step.{Step}
use Rattle.usb_model.specs.declared.step.Step.TheVariants.{Answer}
use Rattle.usb_model.specs.declared.verdict.Rule.{Rule}
use Rattle.usb_model.specs.declared.verdict.Verdict.TheVariants.{Stop}
use Rattle.usb_model.specs.Setup.{Setup}
use Rattle.usb_model.specs.World.Journal.{IsBeginning, Place, journal_from}
use Rattle.usb_model.specs.World.Plans.{Stage, first_stage, stage_after, steps_of}
use Rattle.trace_capture.specs.declared.event.CaptureEvent.{CaptureEvent}
use Rattle.trace_capture.specs.Control.{device_events}
use Rattle.trace_capture.specs.Event.{events_bytes, file_bytes}
use Rattle.trace_capture.specs.Events.{DeviceLine, Recording, entry_after, entry_events, run_events}
use Rattle.trace_scenario.specs.declared.described.DescribedDevice.{DescribedDevice}
use Rattle.usb_plans.specs.PlanRuns.{Performs, PlanState}
use Rattle.trace_io.specs.Output.{AppendsAllBut, AppendsSome}
use Rattle.trace_run.specs.Printed.{BeginsMade, PrintsMade, StartsPlan}
use Rattle.trace_run.specs.declared.lines.Reach.{Reach}
use Rattle.trace_run.specs.declared.lines.Reach.TheVariants.{End, NoMemory}

-- a device's line, as a capture tells of it
abbrev pub device_line : DescribedDevice → DeviceLine
device_line d = record { line = d.line; device = d.device; descriptor = d.descriptor }

-- the events of devices' lines
abbrev pub devices_events : List DeviceLine → List CaptureEvent
devices_events devices = flat_map (λ d. device_events d.line d.device d.descriptor) devices

-- places of a journal that came from the line of this number
abbrev pub placed : ℕ → List Place → List (ℕ × Place)
placed line places = map (λ place. (line, place)) places

-- the places of a plan's journal from a stage on, each with the number of its piece's line, as far as there are lines
unfoldable pub places_from : Setup → Stage → List Plan → List (ℕ × List ℕ) → List (ℕ × Place)
places_from setup s [] lines = []
places_from setup s (piece ∷ plan) [] = []
places_from setup s (piece ∷ plan) (line ∷ lines) =
    placed line.0 (journal_from setup s.world (steps_of setup s piece)) ++ places_from setup (stage_after setup s piece (steps_of setup s piece)) plan lines

-- the events of a plan's run under these rules, its devices' lines in front
abbrev pub plan_events : List DescribedDevice → Setup → List Plan → List Rule → List (ℕ × List ℕ) → List CaptureEvent
plan_events devices setup plan rules lines = run_events (map device_line devices) (places_from setup (first_stage setup rules) plan lines)

-- what is written of a capture of these events: the whole file; or, where the run came to a step that found no memory, that of a beginning of them, so that it ends with a whole record
abbrev pub PrintsFile : Reach → List CaptureEvent → Option (List ℕ) → Option (List ℕ) → Type 0
PrintsFile End events old new = Appends old new (file_bytes events)
PrintsFile NoMemory events old new = (front : List CaptureEvent) × IsBeginning front events × Appends old new (file_bytes front)

-- by which step the entries of a piece are told: by its own; those of a return by the verdict Stop, since of a callback's return the same is told by either verdict that a rule gives
abbrev pub told_step : Plan → Step
told_step (Do step) = step
told_step (Return h n) = Answer h n Stop

-- the events of entries that are told by one step, from one line
unfoldable pub told_events : Recording → ℕ → Step → List Entry → List CaptureEvent
told_events s line step [] = []
told_events s line step (entry ∷ entries) = entry_events s line step entry ++ told_events (entry_after s step entry) line step entries

-- and what is kept behind them
unfoldable pub told_after : Recording → Step → List Entry → Recording
told_after s step [] = s
told_after s step (entry ∷ entries) = told_after (entry_after s step entry) step entries

-- records of entries are put behind bytes that were gathered and aren't written yet; or there was no memory for them, and nothing was put
abbrev pub PutsRecords : Reach → ℕ → Step → List Entry → (s s' : Recording) → (bytes bytes' : List ℕ) → (old new : Option (List ℕ)) → Type 0
PutsRecords End line step entries s s' bytes bytes' old new = AppendsAllBut (bytes ++ events_bytes (told_events s line step entries)) bytes' old new × (s' ≡ told_after s step entries)
PutsRecords NoMemory line step entries s s' bytes bytes' old new = (bytes' ≡ bytes) × (new ≡ old)

module _ {P : Type 0} (rule : P → Rule) where
  -- a piece of a plan was performed, and the records of its entries are put; or there was no memory, and nothing was put
  abbrev pub CapturesPiece : Reach → ℕ → (s s' : Recording) → (run : PlanState P) → Plan → Option P → (run' : PlanState P) → (bytes bytes' : List ℕ) → (old new : Option (List ℕ)) → Type 0
  CapturesPiece reach line s s' run piece callback run' bytes bytes' old new =
      PrintsMade (λ (entries : List Entry). Performs rule run piece callback entries run' × (s' ≡ told_after s (told_step piece) entries)) (λ entries. events_bytes (told_events s line (told_step piece) entries)) reach bytes bytes' old new

  -- or a beginning of what was gathered and of them is written
  abbrev pub BeginsCapturedPiece : ℕ → Recording → (run : PlanState P) → Plan → Option P → (run' : PlanState P) → (bytes : List ℕ) → (old new : Option (List ℕ)) → Type 0
  BeginsCapturedPiece line s run piece callback run' bytes old new =
      BeginsMade (λ (entries : List Entry). Performs rule run piece callback entries run') (λ entries. events_bytes (told_events s line (told_step piece) entries)) bytes old new

  -- a run stands at the beginning of a plan, over whichever devices and under whichever rules: its capture is written, as far as the run came
  abbrev pub CapturesFrom : Reach → List DescribedDevice → List Plan → List (ℕ × List ℕ) → (run : PlanState P) → (left : List P) → (old new : Option (List ℕ)) → Type 0
  CapturesFrom reach devices plan lines run left old new = (setup : Setup) (rules : List Rule) → StartsPlan rule setup plan rules run left → PrintsFile reach (plan_events devices setup plan rules lines) old new

  -- or a beginning of it
  abbrev pub BeginsCapture : List DescribedDevice → List Plan → List (ℕ × List ℕ) → (run : PlanState P) → (left : List P) → (old new : Option (List ℕ)) → Type 0
  BeginsCapture devices plan lines run left old new = (setup : Setup) (rules : List Rule) → StartsPlan rule setup plan rules run left → AppendsSome (file_bytes (plan_events devices setup plan rules lines)) old new
