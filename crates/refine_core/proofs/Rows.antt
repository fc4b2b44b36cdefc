-- Steps of the core, one behind another.
use Rattle.std.proofs.Common.{◌≡◌, ℕ, zero, suc, ◌+◌, refl, ap, ap₂, subst, subst₂, sym, ◌∙◌, arith, List, [], ◌∷◌, ◌++◌}
use Rattle.std.specs.Prelude.{replicate}
use Rattle.std.proofs.lemmas.List.{append_assoc}
use Rattle.usb_model.specs.declared.entry.Entry.{Entry}
use Rattle.usb_model.specs.declared.step.Step.{Step}
use Rattle.usb_model.specs.Setup.{Setup}
use Rattle.usb_model.specs.World.{World, turn, world_from}
use Rattle.usb_model.specs.World.Journal.{journal_from, run_from}
use Rattle.refine_world.specs.Shows.{Core, Shows}
use Rattle.refine_world.specs.Calls.{step_core}
use Rattle.refine_world.specs.Lively.{IsFine}
use Rattle.refine_world.proofs.Calls.Whole.{whole_steps}
use Rattle.refine_core.specs.State.{IsState, Keeps, State}
use Rattle.refine_core.specs.Steps.{DoesCoreStep, DoesCoreSteps, TurnsInRow, core_behind, core_entries}

-- of two rows of steps the entries stand behind one another
core_entries_on : (setup : Setup) (c : Core) (first behind : List Step) → core_entries setup c (first ++ behind) ≡ core_entries setup c first ++ core_entries setup (core_behind setup c first) behind
unfolding core_entries core_behind
core_entries_on setup c [] behind = refl
core_entries_on setup c (step ∷ steps) behind = ap (λ (es : List Entry). (step_core setup c step).entry ∷ es) (core_entries_on setup (step_core setup c step).core steps behind)

-- and the core is that behind both
pub core_behind_on : (setup : Setup) (c : Core) (first behind : List Step) → core_behind setup c (first ++ behind) ≡ core_behind setup (core_behind setup c first) behind
unfolding core_behind
core_behind_on setup c [] behind = refl
core_behind_on setup c (step ∷ steps) behind = core_behind_on setup (step_core setup c step).core steps behind

-- from a core that shows a world they are the world's turns
pub steps_run : (setup : Setup) (w : World) (c : Core) (steps : List Step) → IsFine setup → Shows setup w c → (core_entries setup c steps ≡ run_from setup w steps) × Shows setup (world_from setup w steps) (core_behind setup c steps)
unfolding core_entries core_behind journal_from world_from
steps_run setup w c [] fine shows = (refl, shows)
steps_run setup w c (step ∷ steps) fine shows =
    let one = whole_steps setup fine w c shows step in
    let rest = steps_run setup (turn setup w step).world (step_core setup c step).core steps fine one.1 in
    (ap₂ (λ (e : Entry) (es : List Entry). e ∷ es) one.0 rest.0, rest.1)

module _ {P : Type 0} where
  -- one step is a row of steps
  pub does_one : (old new : State P) (step : Step) (entry : Entry) → DoesCoreStep old step entry new → DoesCoreSteps old (step ∷ []) (entry ∷ []) new
  unfolding core_entries core_behind
  does_one old new step entry does setup w c keeps shows =
      let done = does setup w c keeps shows in
      (ap (λ (e : Entry). e ∷ []) done.0, done.1)

  -- two rows are one
  pub does_on : (old mid new : State P) (first behind : List Step) (es fs : List Entry) → DoesCoreSteps old first es mid → DoesCoreSteps mid behind fs new → DoesCoreSteps old (first ++ behind) (es ++ fs) new
  does_on old mid new first behind es fs one two setup w c keeps shows =
      let done = one setup w c keeps shows in
      let shown = steps_run setup w c first keeps.fine shows in
      let more = two setup (world_from setup w first) (core_behind setup c first) done.1 shown.1 in (
        ap₂ (λ (a b : List Entry). a ++ b) done.0 more.0 ∙ sym (core_entries_on setup c first behind),
        subst (λ (v : Core). Keeps setup new v) (sym (core_behind_on setup c first behind)) more.1,
      )

  -- they are turns of the world
  pub runs : (old new : State P) (steps : List Step) (entries : List Entry) → DoesCoreSteps old steps entries new → TurnsInRow old steps entries new
  runs old new steps entries does setup w shown =
      let done = does setup w shown.0 shown.1 shown.2 in
      let run = steps_run setup w shown.0 steps shown.1.fine shown.2 in
      (done.0 ∙ run.0, (core_behind setup shown.0 steps, done.1, run.1))

  -- so some world is shown again
  pub shows_behind : (old new : State P) (steps : List Step) (entries : List Entry) → DoesCoreSteps old steps entries new → IsState old → IsState new
  shows_behind old new steps entries does is =
      let run = runs old new steps entries does is.0 is.1 is.2 in
      (is.0, world_from is.0 is.1 steps, run.1)

-- so many of the same and then more of it are as many in all
replicate_on : {A : Type 0} (a b : ℕ) (x : A) → replicate a x ++ replicate b x ≡ replicate (a + b) x
replicate_on zero b x =
    let same : b ≡ 0 + b = omega arith in
    ap (λ (n : ℕ). replicate n x) same
replicate_on (suc a) b x =
    let same : suc (a + b) ≡ suc a + b = omega arith in
    ap (λ (xs : List _). x ∷ xs) (replicate_on a b x) ∙ ap (λ (n : ℕ). replicate n x) same

-- and one more of it
replicate_one : {A : Type 0} (a : ℕ) (x : A) → replicate a x ++ x ∷ [] ≡ replicate (a + 1) x
replicate_one a x = replicate_on a 1 x

module _ {P : Type 0} where
  -- no step leaves all as it is
  pub does_none : (s : State P) → DoesCoreSteps s [] [] s
  unfolding core_entries core_behind
  does_none s setup w c keeps shows = (refl, keeps)

  -- the same entry so many times, and a step behind them
  pub row_one : (old mid new : State P) (step : Step) (each last : Entry) (k : ℕ) → DoesCoreSteps old (replicate k step) (replicate k each) mid → DoesCoreStep mid step last new → DoesCoreSteps old (replicate (k + 1) step) (replicate k each ++ last ∷ []) new
  row_one old mid new step each last k row one =
      subst (λ (steps : List Step). DoesCoreSteps old steps (replicate k each ++ last ∷ []) new) (replicate_one k step)
      (does_on old mid new (replicate k step) (step ∷ []) (replicate k each) (last ∷ []) row (does_one mid new step last one))

  -- the same entry so many times, and such a row behind them
  pub row_on : (old mid new : State P) (step : Step) (each last : Entry) (a k : ℕ) → DoesCoreSteps old (replicate a step) (replicate a each) mid → DoesCoreSteps mid (replicate (k + 1) step) (replicate k each ++ last ∷ []) new
      → DoesCoreSteps old (replicate (a + k + 1) step) (replicate (a + k) each ++ last ∷ []) new
  row_on old mid new step each last a k row more =
      let all : a + (k + 1) ≡ a + k + 1 = omega arith in
      subst₂ (λ (steps : List Step) (entries : List Entry). DoesCoreSteps old steps entries new)
      (replicate_on a (k + 1) step ∙ ap (λ (n : ℕ). replicate n step) all)
      (sym (append_assoc (replicate a each) (replicate k each) (last ∷ [])) ∙ ap (λ (entries : List Entry). entries ++ last ∷ []) (replicate_on a k each))
      (does_on old mid new (replicate a step) (replicate (k + 1) step) (replicate a each) (replicate k each ++ last ∷ []) row more)

  -- where the last entry is the same it is one of them
  pub row_more : (old new : State P) (step : Step) (each last : Entry) (k : ℕ) → last ≡ each → DoesCoreSteps old (replicate (k + 1) step) (replicate k each ++ last ∷ []) new → DoesCoreSteps old (replicate (k + 1) step) (replicate (k + 1) each) new
  row_more old new step each last k same row =
      subst (λ (entries : List Entry). DoesCoreSteps old (replicate (k + 1) step) entries new) (ap (λ (x : Entry). replicate k each ++ x ∷ []) same ∙ replicate_one k each) row

  -- a step before such a row
  pub row_first : (old mid new : State P) (step : Step) (first each last : Entry) (k : ℕ) → first ≡ each → DoesCoreStep old step first mid → DoesCoreSteps mid (replicate (k + 1) step) (replicate k each ++ last ∷ []) new
      → DoesCoreSteps old (replicate (k + 1 + 1) step) (replicate (k + 1) each ++ last ∷ []) new
  row_first old mid new step first each last k same one row =
      let all : 1 + k ≡ k + 1 = omega arith in
      subst (λ (n : ℕ). DoesCoreSteps old (replicate (n + 1) step) (replicate n each ++ last ∷ []) new) all
      (row_on old mid new step each last 1 k (does_one old mid step each (subst (λ (x : Entry). DoesCoreStep old step x mid) same one)) row)
