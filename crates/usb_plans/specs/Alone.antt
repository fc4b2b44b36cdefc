-- A handle's own part of a run, and what holds of its callbacks.
use Rattle.std.specs.Prelude.{◌≡◌, ◌≢◌, ℕ, ◌<◌, ◌≤◌, ◌==◌, Bool, true, false, ◌&&◌, List, [], ◌∷◌, ◌++◌, length, map, Option, Some, None, if◌then◌else◌}
use Rattle.std.specs.List.{AllByRecursion, count_by}
use Rattle.std.specs.List.Sorted.{IsStrictlyIncreasing}
use Rattle.usb_model.specs.declared.entry.Entry.{Entry}
use Rattle.usb_model.specs.declared.plan.Plan.{Plan}
use Rattle.usb_model.specs.declared.plan.Plan.TheVariants.{Do, Return}
use Rattle.usb_model.specs.declared.step.Step.{Step}
use Rattle.usb_model.specs.declared.verdict.Rule.{Rule}
use Rattle.usb_model.specs.declared.verdict.Rule.TheVariants.{Free}
use Rattle.usb_model.specs.Setup.{Setup}
use Rattle.usb_model.specs.Machine.Turns.{alone}
use Rattle.usb_model.specs.World.Journal.{Place, entries, is_own, own, world_run}
use Rattle.usb_model.specs.World.Plans.{Stage, expand, first_rule, first_stage, is_submission, own_plan, own_rules, rules_after}
use Rattle.usb_model.specs.Laws.Cut.{times}
use Rattle.usb_model.specs.Laws.Places.{calls, numbers_called}
use Rattle.usb_core.specs.Public.{ShowsWorld, State, TurnsWorld}
use Rattle.usb_model.specs.World.{World, new_world}
use Rattle.usb_plans.specs.declared.comparison.Comparison.{Comparison}
use Rattle.usb_plans.specs.declared.comparison.Part.{Part}
use Rattle.usb_plans.specs.declared.plan_run.Performed.{Performed}
use Rattle.usb_plans.specs.declared.twins.TwinPiece.{TwinPiece}
use Rattle.usb_plans.specs.Drives.{TakesNext}
use Rattle.usb_model.specs.Laws.Callbacks.{uncut_numbers}
use Rattle.usb_plans.specs.PlanRuns.{PlanState, Performs, ShowsStage, entries_of, is_verdict}

-- a step and its entry
abbrev pub place_of : Step → Entry → Place
place_of step entry = record { step = step; entry = entry }

-- whether a piece of a plan is the handle's own: a step by its entry, a return by the name that it says
abbrev pub is_own_by : ℕ → Plan → Entry → Bool
is_own_by h (Do step) entry = is_own h (place_of step entry)
is_own_by h (Return g n) entry = g == h

-- entries with these behind them, if the step or piece that gave them is the handle's own
abbrev pub with_own : (is_own : Bool) → (more entries : List Entry) → List Entry
with_own true more entries = entries ++ more
with_own false more entries = entries

-- of these, those that are marked as the handle's own
unfoldable pub picked : {A : Type 0} → List Bool → List A → List A
picked [] xs = []
picked (mine ∷ marks) [] = []
picked (mine ∷ marks) (x ∷ xs) = if mine then x ∷ picked marks xs else picked marks xs

-- of the rules of a plan's submissions, those of the pieces that are marked
unfoldable pub picked_rules : List Bool → List Plan → List Rule → List Rule
picked_rules [] plan rules = []
picked_rules (mine ∷ marks) [] rules = []
picked_rules (mine ∷ marks) (piece ∷ plan) rules =
    let rest : List Rule = picked_rules marks plan (rules_after piece rules) in
    if mine && is_submission piece then first_rule rules ∷ rest else rest

-- the first mark and those behind it; none is no mark
abbrev pub IsNext : (old new : List Bool) → Bool → Type 0
IsNext [] new mine = (mine ≡ false) × (new ≡ [])
IsNext (mark ∷ marks) new mine = (mine ≡ mark) × (new ≡ marks)

-- a step was made amid the others; whether it is the handle's own stands behind the rest, and so does its entry, if it is
abbrev pub Shares : {P : Type 0} → ℕ → Step → (core core' : State P) → (part part' : Part) → Type 0
Shares h step core core' part part' = (entry : Entry) × TurnsWorld core step entry core' × (part'.own ≡ part.own ++ is_own h (place_of step entry) ∷ [])
    × (part'.entries ≡ with_own (is_own h (place_of step entry)) (entry ∷ []) part.entries)

-- a handle's part of a run of these steps: its entries, and which steps are its own
pub record IsPart (setup : Setup) (steps : List Step) (h : ℕ) (part : Part) : Type 0 where
  pub told : part.entries ≡ entries setup steps h
  pub steps_are : picked part.own steps ≡ own setup steps h

-- a core shows some world of these devices
abbrev pub ShowsSome : {P : Type 0} → Setup → State P → Type 0
ShowsSome setup core = (w : World) × ShowsWorld setup core w

-- steps were made by a core in which no name had a device open: what is told is the handle's part, over whichever devices; and the core still shows a world of these
abbrev pub TellsPart : {P : Type 0} → List Step → ℕ → (core core' : State P) → Part → Type 0
TellsPart steps h core core' part = (setup : Setup) → ShowsWorld setup core (new_world setup) → IsPart setup steps h part × ShowsSome setup core'

-- a step that is marked was made, and its entry stands behind the others
abbrev pub MakesOwn : {P : Type 0} → (mine : Bool) → Step → (core core' : State P) → (before after : List Entry) → Type 0
MakesOwn true step core core' before after = (entry : Entry) × TurnsWorld core step entry core' × (after ≡ before ++ entry ∷ [])
MakesOwn false step core core' before after = (core' ≡ core) × (after ≡ before)

-- the steps that are marked were made by a core in which no name had a device open: their entries, over whichever devices
abbrev pub RunsPicked : {P : Type 0} → List Step → List Bool → (core : State P) → List Entry → Type 0
RunsPicked steps marks core told = (setup : Setup) → ShowsWorld setup core (new_world setup) → told ≡ world_run setup (picked marks steps)

-- two runs side by side: that of a plan, and that of a handle's own pieces; and the callbacks that are left to each
pub record TwinState (P : Type 0) : Type 0 where
  pub run : PlanState P
  pub own : PlanState P
  pub left : List P
  pub its : List P

-- there is a callback left to either
abbrev pub AreLeft : {P : Type 0} → TwinState P → Type 0
AreLeft v = (0 < length v.left) × (0 < length v.its)

-- the entries that are told of a piece, of the run amid the others
abbrev pub shared_of : {P : Type 0} → Option (TwinPiece P) → List Entry
shared_of None = []
shared_of (Some t) = entries_of t.shared

-- and of the run alone
abbrev pub alone_of : {P : Type 0} → Option (TwinPiece P) → List Entry
alone_of None = []
alone_of (Some t) = entries_of t.alone

module _ {P : Type 0} (rule : P → Rule) where
  -- a piece that isn't the handle's own was performed amid the others, and nothing is told of it; one that is was performed by either run, with a callback of its own, and what came of it in either is told
  abbrev pub PerformsBoth : ℕ → Plan → (callback its : Option P) → (run run' own own' : PlanState P) → Option (TwinPiece P) → Type 0
  PerformsBoth h piece callback its run run' own own' None =
      (x : Performed P) × Performs rule run piece callback (entries_of x) run' × (is_own_by h piece x.entry ≡ false) × (own' ≡ own)
  PerformsBoth h piece callback its run run' own own' (Some t) =
      Performs rule run piece callback (entries_of t.shared) run' × (is_own_by h piece t.shared.entry ≡ true) × Performs rule own piece its (entries_of t.alone) own'

  -- so it is of two runs side by side; the callbacks that are left to them stay
  pub record PerformsTwice (h : ℕ) (piece : Plan) (callback mine : Option P) (old new : TwinState P) (told : Option (TwinPiece P)) : Type 0 where
    pub both : PerformsBoth h piece callback mine old.run new.run old.own new.own told
    pub left : new.left ≡ old.left
    pub its : new.its ≡ old.its

  -- a piece was performed with the next callbacks of either, where it submits
  pub record AdvancesBoth (h : ℕ) (piece : Plan) (old new : TwinState P) (told : Option (TwinPiece P)) : Type 0 where
    pub callback : Option P
    pub mine : Option P
    pub takes : TakesNext (is_submission piece) old.left new.left callback
    pub takes_its : TakesNext (is_submission piece) old.its new.its mine
    pub both : PerformsBoth h piece callback mine old.run new.run old.own new.own told

  -- no piece was performed: each run shows the first stage of its own devices, and has these callbacks
  pub record Begins (setup other : Setup) (callbacks others : List P) (v : TwinState P) : Type 0 where
    pub run : (rules : List Rule) → ShowsStage rule setup v.run (first_stage setup rules)
    pub own : (rules : List Rule) → ShowsStage rule other v.own (first_stage other rules)
    pub left : v.left ≡ callbacks
    pub its : v.its ≡ others

  -- both stand at the beginning of a plan: no piece was performed, and there is a callback for each submission, over the same devices and with callbacks of the same rules
  pub record StartsBoth (setup : Setup) (plan : List Plan) (rules : List Rule) (twins : TwinState P) : Type 0 where
    pub begins : Begins setup setup twins.left twins.its twins
    pub under : rules ≡ map rule twins.left
    pub again : map rule twins.its ≡ map rule twins.left
    pub enough : length twins.left ≡ count_by is_submission plan
    pub fixed : AllByRecursion (λ rule. rule ≢ Free) rules
    pub no_verdict : AllByRecursion (λ piece. is_verdict piece ≡ false) plan

  -- over some devices and under some rules
  abbrev pub CanStartBoth : List Plan → (twins : TwinState P) → Type 0
  CanStartBoth plan twins = (setup : Setup) × (rules : List Rule) × StartsBoth setup plan rules twins

-- each callback stands among these entries at most once
abbrev pub AreCalledOnce : List Entry → Type 0
AreCalledOnce entries = (n : ℕ) → times n (numbers_called entries) ≤ 1

-- those of one endpoint that were neither cancelled nor timed out are called in the order of their numbers
abbrev pub AreCalledInOrder : List Entry → Type 0
AreCalledInOrder entries = (ep : ℕ) → IsStrictlyIncreasing (uncut_numbers ep (calls entries))

-- what is told of a plan under these rules: the handle's entries amid the others, of the steps that the plan stands for;
-- what the handle's machine says alone over its own of these, and what a system of its own does;
-- that is the run of what its own part of the plan stands for; both are the same, with each callback once at most and in order
pub record TellsPlan (setup : Setup) (plan : List Plan) (rules : List Rule) (h : ℕ) (told : Comparison) : Type 0 where
  pub shared : told.shared ≡ entries setup (expand setup plan rules) h
  pub machine : told.alone ≡ alone setup (own setup (expand setup plan rules) h) h
  pub runs : told.alone ≡ world_run setup (own setup (expand setup plan rules) h)
  pub part : told.alone ≡ world_run setup (expand setup (own_plan setup plan rules h) (own_rules setup plan rules h))
  pub same : told.shared ≡ told.alone
  pub once : AreCalledOnce told.shared
  pub order : AreCalledInOrder told.shared

-- a handle's part of a run of a plan: its entries, which pieces are its own, and which rules are those of its submissions
pub record IsPlanPart (setup : Setup) (plan : List Plan) (rules : List Rule) (h : ℕ) (part : Part) : Type 0 where
  pub told : part.entries ≡ entries setup (expand setup plan rules) h
  pub pieces_are : picked part.own plan ≡ own_plan setup plan rules h
  pub rules_are : picked_rules part.own plan rules ≡ own_rules setup plan rules h

module _ {P : Type 0} (rule : P → Rule) where
  -- a piece was performed amid the others; whether it is the handle's own stands behind the rest, and so does what is told of it, if it is
  abbrev pub SharesPiece : ℕ → Plan → (callback : Option P) → (run run' : PlanState P) → (part part' : Part) → Type 0
  SharesPiece h piece callback run run' part part' = (x : Performed P) × Performs rule run piece callback (entries_of x) run' × (part'.own ≡ part.own ++ is_own_by h piece x.entry ∷ [])
      × (part'.entries ≡ with_own (is_own_by h piece x.entry) (entries_of x) part.entries)

  -- a piece that is marked was performed, and what is told of it stands behind the others
  abbrev pub PerformsOwn : (mine : Bool) → Plan → (callback : Option P) → (run run' : PlanState P) → (before after : List Entry) → Type 0
  PerformsOwn true piece callback run run' before after = (x : Performed P) × Performs rule run piece callback (entries_of x) run' × (after ≡ before ++ entries_of x)
  PerformsOwn false piece callback run run' before after = (run' ≡ run) × (after ≡ before)

  -- a run stands at the beginning of a plan, with these callbacks for its submissions: no piece was performed, and no rule is Free
  pub record Starts (setup : Setup) (rules : List Rule) (callbacks : List P) (run : PlanState P) : Type 0 where
    pub shows : (rs : List Rule) → ShowsStage rule setup run (first_stage setup rs)
    pub under : rules ≡ map rule callbacks
    pub fixed : AllByRecursion (λ rule. rule ≢ Free) rules

  -- a run shows some stage over these devices
  abbrev pub ShowsSomeStage : Setup → PlanState P → Type 0
  ShowsSomeStage setup run = (s : Stage) × ShowsStage rule setup run s

  -- a plan was performed by a run that stood at its beginning: what is told is the handle's part, over whichever devices; and the run still shows a stage over these
  abbrev pub TellsPlanPart : List Plan → ℕ → (callbacks : List P) → (run run' : PlanState P) → Part → Type 0
  TellsPlanPart plan h callbacks run run' part = (setup : Setup) (rules : List Rule) → Starts setup rules callbacks run → IsPlanPart setup plan rules h part × ShowsSomeStage setup run'

  -- the pieces that are marked were performed by a run that stood at their beginning: their entries, over whichever devices
  abbrev pub DrivesPicked : List Plan → List Bool → (callbacks : List P) → (run : PlanState P) → List Entry → Type 0
  DrivesPicked plan marks callbacks run told = (setup : Setup) (rules : List Rule) → Starts setup rules callbacks run → told ≡ world_run setup (expand setup (picked marks plan) (picked_rules marks plan rules))
