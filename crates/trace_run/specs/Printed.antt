-- What a run has printed, as far as it came.
use Rattle.std.specs.Prelude.{◌≡◌, ◌≢◌, ◌++◌, ℕ, false, List, [], length, map, Option}
use Rattle.std.specs.List.{AllByRecursion, count_by}
use Rattle.std.specs.Io.KnownBytes.{Appends}
use Rattle.usb_model.specs.declared.entry.Entry.{Entry}
use Rattle.usb_model.specs.declared.plan.Plan.{Plan}
use Rattle.usb_model.specs.declared.verdict.Rule.{Rule}
use Rattle.usb_model.specs.declared.verdict.Rule.TheVariants.{Free}
use Rattle.usb_model.specs.Text.{lines_text}
use Rattle.usb_model.specs.Machine.Turns.{alone}
use Rattle.usb_model.specs.Setup.{Setup}
use Rattle.usb_model.specs.World.{new_world, world_from}
use Rattle.usb_model.specs.World.Journal.{IsBeginning, own, world_run}
use Rattle.usb_model.specs.World.Plans.{Stage, expand, first_stage, is_submission}
use Rattle.usb_plans.specs.Alone.{AdvancesBoth, StartsBoth, TwinState, alone_of}
use Rattle.usb_plans.specs.PlanRuns.{Performs, PlanState, ShowsStage, is_verdict}
use Rattle.usb_plans.specs.declared.twins.TwinPiece.{TwinPiece}
use Rattle.trace_io.specs.Output.{AppendsAllBut, AppendsSome}
use Rattle.trace_run.specs.declared.lines.Reach.{Reach}
use Rattle.trace_run.specs.declared.lines.Reach.TheVariants.{End, NoMemory}

-- what is written of a run with these entries: their lines, or those of a beginning where it came to a step that found no memory
abbrev pub PrintsTo : Reach → List Entry → Option (List ℕ) → Option (List ℕ) → Type 0
PrintsTo End entries old new = Appends old new (lines_text entries)
PrintsTo NoMemory entries old new = (front : List Entry) × IsBeginning front entries × Appends old new (lines_text front)

-- the same of a run whose text this is: all of it, or a beginning
abbrev pub PrintsText : Reach → List ℕ → Option (List ℕ) → Option (List ℕ) → Type 0
PrintsText End text old new = Appends old new text
PrintsText NoMemory text old new = AppendsSome text old new

-- all entries of a plan under these rules
abbrev pub plan_entries : Setup → List Plan → List Rule → List Entry
plan_entries setup plan rules = world_run setup (expand setup plan rules)

-- those of one handle, alone over its own steps
abbrev pub own_entries : Setup → List Plan → List Rule → ℕ → List Entry
own_entries setup plan rules h = alone setup (own setup (expand setup plan rules) h) h

-- lines: those that were gathered and aren't written yet. A text stands behind them; or there was no memory for it, and nothing was put
abbrev pub Puts : Reach → (text lines lines' : List ℕ) → (old new : Option (List ℕ)) → Type 0
Puts End text lines lines' old new = AppendsAllBut (lines ++ text) lines' old new
Puts NoMemory text lines lines' old new = (lines' ≡ lines) × (new ≡ old)

-- a step makes something, and something made has a text
module _ {A : Type 0} (Makes : A → Type 0) (text_of : A → List ℕ) where
  -- the step was made, and its text stands behind the others
  pub record PutsMade (lines lines' : List ℕ) (old new : Option (List ℕ)) : Type 0 where
    pub made : A
    pub makes : Makes made
    pub put : AppendsAllBut (lines ++ text_of made) lines' old new

  -- it was made, and a beginning of the others and of its text is written
  pub record BeginsMade (lines : List ℕ) (old new : Option (List ℕ)) : Type 0 where
    pub made : A
    pub makes : Makes made
    pub some : AppendsSome (lines ++ text_of made) old new

  -- it was made and its text put; or it found no memory, and nothing was put
  abbrev pub PrintsMade : Reach → (lines lines' : List ℕ) → (old new : Option (List ℕ)) → Type 0
  PrintsMade End lines lines' old new = PutsMade lines lines' old new
  PrintsMade NoMemory lines lines' old new = Puts NoMemory [] lines lines' old new

module _ {P : Type 0} (rule : P → Rule) where
  -- a piece of a plan was performed, and its entries are put in these words; or it found no memory
  abbrev pub PrintsPiece : (List Entry → List ℕ) → Reach → (run : PlanState P) → Plan → Option P → (run' : PlanState P) → (lines lines' : List ℕ) → (old new : Option (List ℕ)) → Type 0
  PrintsPiece text_of reach run piece callback run' lines lines' old new = PrintsMade (λ (entries : List Entry). Performs rule run piece callback entries run') text_of reach lines lines' old new

  -- or a beginning of the others and of them is written
  abbrev pub BeginsPiece : (List Entry → List ℕ) → (run : PlanState P) → Plan → Option P → (run' : PlanState P) → (lines : List ℕ) → (old new : Option (List ℕ)) → Type 0
  BeginsPiece text_of run piece callback run' lines old new = BeginsMade (λ (entries : List Entry). Performs rule run piece callback entries run') text_of lines old new

  -- the same of a piece that was performed by two runs side by side, and of the lines of what is told of the handle's own run
  abbrev pub PrintsOwnPiece : Reach → ℕ → (twins : TwinState P) → Plan → (twins' : TwinState P) → (lines lines' : List ℕ) → (old new : Option (List ℕ)) → Type 0
  PrintsOwnPiece reach h twins piece twins' lines lines' old new = PrintsMade (AdvancesBoth rule h piece twins twins') (λ (told : Option (TwinPiece P)). lines_text (alone_of told)) reach lines lines' old new

  abbrev pub BeginsOwnPiece : ℕ → (twins : TwinState P) → Plan → (twins' : TwinState P) → (lines : List ℕ) → (old new : Option (List ℕ)) → Type 0
  BeginsOwnPiece h twins piece twins' lines old new = BeginsMade (AdvancesBoth rule h piece twins twins') (λ (told : Option (TwinPiece P)). lines_text (alone_of told)) lines old new

  -- a run stands at the beginning of a plan: no piece was performed, and there is a callback for each submission, of these rules
  pub record StartsPlan (setup : Setup) (plan : List Plan) (rules : List Rule) (run : PlanState P) (left : List P) : Type 0 where
    pub shows : (rs : List Rule) → ShowsStage rule setup run (first_stage setup rs)
    pub under : rules ≡ map rule left
    pub enough : length left ≡ count_by is_submission plan
    pub fixed : AllByRecursion (λ rule. rule ≢ Free) rules
    pub no_verdict : AllByRecursion (λ piece. is_verdict piece ≡ false) plan

  -- of a run no piece was performed: it shows the first stage of some devices
  abbrev pub IsNew : (run : PlanState P) → Type 0
  IsNew run = (setup : Setup) × ((rules : List Rule) → ShowsStage rule setup run (first_stage setup rules))

  -- a run stands at the beginning of a plan, over some devices and under some rules
  abbrev pub CanStart : List Plan → (run : PlanState P) → (left : List P) → Type 0
  CanStart plan run left = (setup : Setup) × (rules : List Rule) × StartsPlan setup plan rules run left

  -- over whichever devices it did, and under whichever rules: the plan's entries are printed as far as the run came
  abbrev pub PrintsFrom : Reach → List Plan → (run : PlanState P) → (left : List P) → (old new : Option (List ℕ)) → Type 0
  PrintsFrom reach plan run left old new = (setup : Setup) (rules : List Rule) → StartsPlan setup plan rules run left → PrintsTo reach (plan_entries setup plan rules) old new

  -- and where it was performed to its end, it shows a stage with the world where the run of the plan's steps ends
  abbrev pub EndsFrom : List Plan → (run : PlanState P) → (left : List P) → (run' : PlanState P) → Type 0
  EndsFrom plan run left run' = (setup : Setup) (rules : List Rule) → StartsPlan setup plan rules run left → (s : Stage) × ShowsStage rule setup run' s × (s.world ≡ world_from setup (new_world setup) (expand setup plan rules))

  -- or a beginning of their lines
  abbrev pub BeginsFrom : List Plan → (run : PlanState P) → (left : List P) → (old new : Option (List ℕ)) → Type 0
  BeginsFrom plan run left old new = (setup : Setup) (rules : List Rule) → StartsPlan setup plan rules run left → AppendsSome (lines_text (plan_entries setup plan rules)) old new

  -- the same of two runs side by side, and of the handle's own entries
  abbrev pub PrintsOwn : Reach → List Plan → ℕ → (twins : TwinState P) → (old new : Option (List ℕ)) → Type 0
  PrintsOwn reach plan h twins old new = (setup : Setup) (rules : List Rule) → StartsBoth rule setup plan rules twins → PrintsTo reach (own_entries setup plan rules h) old new

  abbrev pub BeginsOwn : List Plan → ℕ → (twins : TwinState P) → (old new : Option (List ℕ)) → Type 0
  BeginsOwn plan h twins old new = (setup : Setup) (rules : List Rule) → StartsBoth rule setup plan rules twins → AppendsSome (lines_text (own_entries setup plan rules h)) old new
