-- What is kept amid a plan, and the stage of the plan that it shows.
use Rattle.std.specs.Prelude.{◌≡◌, ℕ, ◌<◌, ◌≤◌, Bool, true, false, nat_eq, List, [], ◌∷◌, length, Option, Some, None, IfSome, slice_get, slice_index_or, if◌then◌else◌}
use Rattle.std.specs.Option.{option_map_or}
use Rattle.std.specs.Map.{lookup}
use Rattle.usb_model.specs.declared.entry.Entry.{Entry}
use Rattle.usb_model.specs.declared.plan.Plan.{Plan}
use Rattle.usb_model.specs.declared.plan.Plan.TheVariants.{Do, Return}
use Rattle.usb_model.specs.declared.reply.Reply.{Reply}
use Rattle.usb_model.specs.declared.reply.Reply.TheVariants.{Called}
use Rattle.usb_model.specs.declared.reply.Returned.{Returned}
use Rattle.usb_model.specs.declared.result.InCallback.{InCallback}
use Rattle.usb_model.specs.declared.step.Step.{Step}
use Rattle.usb_model.specs.declared.step.Step.TheVariants.{Take}
use Rattle.usb_model.specs.declared.verdict.Rule.{Rule}
use Rattle.usb_model.specs.declared.verdict.Verdict.{Verdict}
use Rattle.usb_model.specs.Numbers.{takes_payload}
use Rattle.usb_model.specs.Setup.{Setup}
use Rattle.usb_model.specs.World.{World, turn}
use Rattle.usb_model.specs.World.Journal.{run_from}
use Rattle.usb_model.specs.World.Plans.{FitsReturn, Stage, first_rule, is_submission, noted, return_steps, returning, stage_after}
use Rattle.usb_core.specs.Public.{Carries, Kept, ShowsWorld, State, StillCarries}
use Rattle.usb_core.specs.Steps.{left_over}
use Rattle.usb_core.specs.declared.results.Taken.{Taken}
use Rattle.usb_plans.specs.declared.plan_run.Performed.{Performed}
use Rattle.proof_laws.specs.InCallbacks.{IsTold, ends_callback, is_answer, is_there}

-- whether a piece of a plan is a verdict by itself, which no plan holds
abbrev pub is_verdict : Plan → Bool
is_verdict (Do step) = is_answer step
is_verdict (Return h n) = false

-- steps that a piece of a plan may stand for: a step is itself, a return is the steps of a verdict that fits its rule
abbrev pub StandsFor : Setup → Stage → Plan → List Step → Type 0
StandsFor setup s (Do step) steps = steps ≡ step ∷ []
StandsFor setup s (Return h n) steps = (v : Verdict) × FitsReturn (returning s h n) (s.book h n) v × (steps ≡ return_steps setup s.world h n v)

-- the callbacks of one name that run, by number, each with what it is told; and for how many more there is room
pub record NameRuns (P : Type 0) : Type 0 where
  pub callbacks : List (ℕ × Taken P)
  pub room : ℕ

-- what is kept amid a plan: the core, and by name the callbacks that run
pub record PlanState (P : Type 0) : Type 0 where
  pub core : State P
  pub running : List (NameRuns P)

-- the value that an option has, as a list
abbrev pub of_option : {A : Type 0} → Option A → List A
of_option None = []
of_option (Some x) = x ∷ []

-- the entries of a piece of a plan
abbrev pub entries_of : {P : Type 0} → Performed P → List Entry
entries_of x = x.entry ∷ of_option x.stop

-- what comes back of the callback that is given with a piece of a plan, of whose first entry this is the reply: all of it, but where a transfer was submitted with it
abbrev pub given_back : {P : Type 0} → Plan → Reply → Option P → Option P
given_back (Do step) reply callback = left_over (takes_payload step) reply callback
given_back (Return h n) reply callback = callback

-- none of the names and numbers
abbrev pub nowhere : (h n : ℕ) → Bool
nowhere h n = false

-- which callback is still called, behind its verdict with this reply
abbrev pub still_called : (ended : Bool) → (h n : ℕ) → (g m : ℕ) → Bool
still_called true h n g m = false
still_called false h n g m = is_there h n g m

-- the stage behind one step, of which a number that it gives is under this rule
abbrev pub stage_behind : Setup → Stage → Step → Rule → List Rule → Stage
stage_behind setup s step r rules = record { world = (turn setup s.world step).world; book = noted s.book (turn setup s.world step).entry r; rules = rules }

-- how many bytes the next result has
abbrev pub next_bytes : World → ℕ
next_bytes w = option_map_or (λ t. length t.piece.bytes) (slice_get w.results 0) 0

-- the callback that is called by a piece: of a return, that of its name and number
abbrev pub called_by : Plan → (h n : ℕ) → Bool
called_by (Do step) h n = false
called_by (Return g m) h n = is_there g m h n

module _ {P : Type 0} where
  -- one name's callback of this number
  abbrev pub running_in : NameRuns P → ℕ → Option (Taken P)
  running_in xs n = lookup (nat_eq n) xs.callbacks

  -- those of a name; none where there is no such name
  abbrev pub runs_of : List (NameRuns P) → (h : ℕ) → NameRuns P
  runs_of v h = slice_index_or v h (record { callbacks = []; room = 0 })

  -- the callback of this name and number
  abbrev pub running_at : List (NameRuns P) → (h n : ℕ) → Option (Taken P)
  running_at v h n = running_in (runs_of v h) n

  -- for how many more of a name there is room
  abbrev pub room_of : List (NameRuns P) → (h : ℕ) → ℕ
  room_of v h = (runs_of v h).room

  -- the callbacks that run behind an entry with this reply: the one that came out runs too
  abbrev pub RunsToo : Reply → Option P → (old new : List (NameRuns P)) → Type 0
  RunsToo (Called r) (Some c) old new = (h n : ℕ) → running_at new h n ≡ (if is_there r.h r.n h n then Some (record { returned = r; payload = c }) else running_at old h n)
  RunsToo reply out old new = (h n : ℕ) → running_at new h n ≡ running_at old h n

  -- a reply tells of what went out: what is due to its callback
  abbrev pub TellsOf : Reply → Option (Taken P) → Type 0
  TellsOf reply None = Unit {0}
  TellsOf reply (Some t) = reply ≡ Called t.returned

  -- the callback that came out with this result runs too: it is the very one that was kept with the result's transfer, and it is told this result as it is
  pub record ComesOut (r : Returned) (old new : PlanState P) : Type 0 where
    pub callback : P
    pub its : (kept : Kept P) → Carries kept old.core → kept r.h r.n ≡ Some callback
    pub runs : (h n : ℕ) → running_at new.running h n ≡ (if is_there r.h r.n h n then Some (record { returned = r; payload = callback }) else running_at old.running h n)

  -- what the next result needs: memory for a copy of its bytes, and room for its callback, which then runs
  pub record HasRoom (v : PlanState P) (memory : ℕ) : Type 0 where
    pub bytes : (setup : Setup) (w : World) → ShowsWorld setup v.core w → next_bytes w ≤ memory
    pub callback : (setup : Setup) (w : World) → ShowsWorld setup v.core w → IfSome (slice_get w.results 0) (λ x. 0 < room_of v.running x.name)

  -- nothing that a core shows or carries changed, if there was memory for a copy of what goes out by the step
  abbrev pub StaysWith : Step → (memory : ℕ) → State P → State P → Type 0
  StaysWith step memory old new = (setup : Setup) (w : World) → ShowsWorld setup old w → (step ≡ Take → next_bytes w ≤ memory) → ShowsWorld setup new w × StillCarries old new

  -- the callbacks that run behind a step with this reply: those that ran; and where it is that one was called, this one
  abbrev pub RunBehindStep : Reply → (old new : PlanState P) → Type 0
  RunBehindStep (Called r) old new = (setup : Setup) (w : World) → ShowsWorld setup old.core w → ComesOut r old new
  RunBehindStep reply old new = (h n : ℕ) → running_at new.running h n ≡ running_at old.running h n

  -- and behind a return: those that ran, but for the one that returned
  abbrev pub RunBehindReturn : (h n : ℕ) → (old new : PlanState P) → Type 0
  RunBehindReturn h n old new = (g m : ℕ) → running_at new.running g m ≡ (if is_there h n g m then None else running_at old.running g m)

  -- and behind a piece of a plan whose first entry has this reply
  abbrev pub RunBehind : Plan → Reply → (old new : PlanState P) → Type 0
  RunBehind (Do step) reply old new = RunBehindStep reply old new
  RunBehind (Return h n) reply old new = RunBehindReturn h n old new

  -- a callback runs just where its transfer is in it, and is told what became of the transfer
  abbrev pub IsRunning : Option (Taken P) → Option InCallback → Type 0
  IsRunning None None = Unit {0}
  IsRunning (Some t) (Some x) = IsTold t.returned x
  IsRunning _ _ = ⊥

  -- but for one that was called and whose verdict is to be made. called: whether this is it
  abbrev pub IsRunningBut : (called : Bool) → Option (Taken P) → Option InCallback → Type 0
  IsRunningBut false o x = IsRunning o x
  IsRunningBut true None x = Unit {0}
  IsRunningBut true (Some t) x = ⊥

  -- rule: of a callback
  module _ (rule : P → Rule) where
    -- a stage of a plan is shown, but for a callback that was called and whose verdict is to be made: its world by the core;
    -- under a name and a number the core carries a callback of the rule that the stage's book says; and those run whose transfers are in them
    pub record ShowsBut (setup : Setup) (called : (h n : ℕ) → Bool) (v : PlanState P) (s : Stage) : Type 0 where
      pub world : ShowsWorld setup v.core s.world
      pub kept : Kept P
      pub carries : Carries kept v.core
      pub under : (h n : ℕ) (c : P) → kept h n ≡ Some c → rule c ≡ s.book h n
      pub running : (h n : ℕ) → IsRunningBut (called h n) (running_at v.running h n) (returning s h n)
      pub its : (h n : ℕ) (t : Taken P) → running_at v.running h n ≡ Some t → kept h n ≡ Some t.payload

    -- a stage of a plan is shown
    abbrev pub ShowsStage : Setup → PlanState P → Stage → Type 0
    ShowsStage setup v s = ShowsBut setup nowhere v s

    -- what was shown of a stage still is
    abbrev pub StillShows : PlanState P → PlanState P → Type 0
    StillShows old new = (setup : Setup) (called : (h n : ℕ) → Bool) (s : Stage) → ShowsBut setup called old s → ShowsBut setup called new s

    -- no memory was found for a piece: the stage before it is still shown, but for the callback of a return, which was called
    abbrev pub FindsNone : PlanState P → Plan → PlanState P → Type 0
    FindsNone old piece new = (setup : Setup) (s : Stage) → ShowsStage setup old s → ShowsBut setup (called_by piece) new s

    -- the callback that is given, if one is, has this rule
    abbrev pub IsUnder : Rule → Option P → Type 0
    IsUnder r callback = IfSome callback (λ c. rule c ≡ r)

    -- a step was made that is no verdict: it is the world's, and the next stage is shown
    abbrev pub MakesStep : PlanState P → Step → Option P → Entry → PlanState P → Type 0
    MakesStep old step callback entry new = (setup : Setup) (s : Stage) (r : Rule) (rules : List Rule) → ShowsStage setup old s → (takes_payload step ≡ true → IsUnder r callback)
        → (entry ≡ (turn setup s.world step).entry) × ShowsStage setup new (stage_behind setup s step r rules)

    -- a callback's verdict was made, or refused
    abbrev pub MakesAnswer : PlanState P → (h n : ℕ) → Step → Option P → Entry → PlanState P → Type 0
    MakesAnswer old h n answer callback entry new = (setup : Setup) (s : Stage) (r : Rule) (rules : List Rule) → ShowsBut setup (is_there h n) old s → IsUnder r callback
        → (entry ≡ (turn setup s.world answer).entry) × ShowsBut setup (still_called (ends_callback entry.reply) h n) new (stage_behind setup s answer r rules)

    -- a piece of a plan was performed: by steps that it may stand for, with their entries; and the stage behind them is shown
    abbrev pub Performs : PlanState P → Plan → Option P → List Entry → PlanState P → Type 0
    Performs old piece callback entries new = (setup : Setup) (s : Stage) → ShowsStage setup old s → (is_submission piece ≡ true → IsUnder (first_rule s.rules) callback)
        → (steps : List Step) × StandsFor setup s piece steps × (entries ≡ run_from setup s.world steps) × ShowsStage setup new (stage_after setup s piece steps)

    -- at a stage a callback returned with this verdict: it fits, the entries are those of these steps, and the stage behind them is shown
    abbrev pub ReturnsBy : Setup → Stage → (h n : ℕ) → Verdict → (steps : List Step) → List Entry → PlanState P → Type 0
    ReturnsBy setup s h n v steps entries new = FitsReturn (returning s h n) (s.book h n) v × (entries ≡ run_from setup s.world steps) × ShowsStage setup new (stage_after setup s (Return h n) steps)

    -- may: the verdicts that a callback's code may give when it is told this
    module _ (may : P → Returned → Verdict → Type 0) where
      -- this callback was called with what it is told, and gave a verdict that its code may give: the entries are those of a return with just this verdict
      abbrev pub GivesVerdict : PlanState P → (h n : ℕ) → Taken P → List Entry → Type 0
      GivesVerdict old h n taken entries = (v : Verdict) × may taken.payload taken.returned v × ((setup : Setup) (s : Stage) → ShowsStage setup old s → entries ≡ run_from setup s.world (return_steps setup s.world h n v))

      -- where a callback runs under a name and a number, it is this one that was called
      abbrev pub CallsThere : PlanState P → (h n : ℕ) → List Entry → Type 0
      CallsThere old h n entries = (t : Taken P) → running_at old.running h n ≡ Some t → GivesVerdict old h n t entries

      -- so it is where a piece of a plan is a return
      abbrev pub Calls : PlanState P → Plan → List Entry → Type 0
      Calls old (Do step) entries = Unit {0}
      Calls old (Return h n) entries = CallsThere old h n entries

      -- a callback that was taken out was called and returned, as a piece of a plan: taken is what it was told, and it. No other came or went
      abbrev pub Returns : PlanState P → (h n : ℕ) → Taken P → List Entry → PlanState P → Type 0
      Returns old h n taken entries new = (v : Verdict) × may taken.payload taken.returned v × (new.running ≡ old.running)
          × ((setup : Setup) (s : Stage) (x : InCallback) → ShowsBut setup (is_there h n) old s → returning s h n ≡ Some x → IsTold taken.returned x → rule taken.payload ≡ s.book h n → ReturnsBy setup s h n v (return_steps setup s.world h n v) entries new)
