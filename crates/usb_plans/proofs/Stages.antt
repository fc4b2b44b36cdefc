-- Which stage of a plan is shown behind each step.
use Rattle.std.proofs.Common.{◌≡◌, ℕ, ◌==◌, Bool, true, false, List, [], ◌∷◌, map, Option, Some, None, refl, ap, sym, ◌∙◌, subst}
use Rattle.std.specs.Prelude.{◌&&◌, if◌then◌else◌, is_some, option_map, slice_get}
use Rattle.std.proofs.lemmas.Bool.{and_parts, eqb-true}
use Rattle.std.proofs.lemmas.Option.{same_Some}
use Rattle.usb_model.specs.declared.entry.Entry.{Entry}
use Rattle.usb_model.specs.declared.reply.Reply.{Reply}
use Rattle.usb_model.specs.declared.reply.Reply.TheVariants as reply
use Rattle.usb_model.specs.declared.reply.Returned.{Returned}
use Rattle.usb_model.specs.declared.result.InCallback.{InCallback}
use Rattle.usb_model.specs.declared.step.Step.{Step}
use Rattle.usb_model.specs.declared.step.Step.TheVariants.{Answer, Take}
use Rattle.usb_model.specs.declared.verdict.Rule.{Rule}
use Rattle.usb_model.specs.declared.verdict.Verdict.{Verdict}
use Rattle.usb_model.specs.Numbers.{takes_payload}
use Rattle.usb_model.specs.Setup.{Setup}
use Rattle.usb_model.specs.Machine.Calls.{callback_of}
use Rattle.usb_model.specs.World.{World, new_world, turn, turn_of_nobody}
use Rattle.usb_model.specs.Laws.Places.{call_of}
use Rattle.usb_model.specs.World.Plans.{Book, Stage, first_stage, noted, noted_by, returning}
use Rattle.usb_core.specs.Public.{Carries, Kept, ShowsWorld, State, TurnsWorld, result_of}
use Rattle.usb_core.specs.declared.results.Taken.{Taken}
use Rattle.usb_tables.specs.declared.transfer.Transfer.{Transfer as InFlight}
use Rattle.usb_tables.specs.TransfersInFlight.{EndedOf}
use Rattle.usb_core.specs.Steps.{GoesOut, first_payload, handed_out, kept_after, kept_by}
use Rattle.usb_plans.specs.PlanRuns.{IsRunning, IsRunningBut, IsUnder, MakesAnswer, MakesStep, NameRuns, PlanState, RunBehindStep, RunsToo, ShowsBut, ShowsStage, nowhere, running_at, still_called}
use Rattle.proof_laws.specs.InCallbacks.{AnswerEnds, CallsBack, IsReached, IsTold, KeepsCallbacks, SameCallbacks, TakeCalls, callback_at, ends_callback, is_answer, is_of_callback, is_there}
use Rattle.proof_laws.proofs.InCallbacks.{keeps_callbacks}
use Rattle.proof_laws.proofs.Takes.{is_take, no_call}

-- a world that is shown is one that a run leads to
pub reached : {P : Type 0} (setup : Setup) (core : State P) (w : World) → ShowsWorld setup core w → IsReached setup w
reached setup core w (c, keeps, shows) = (shows.steps, shows.reached)

-- where nothing is in its callback none runs
none_runs : {P : Type 0} (called : Bool) (o : Option (Taken P)) (x : Option InCallback) → x ≡ None → IsRunningBut called o x → o ≡ None
none_runs false None x none runs = refl
none_runs false (Some t) None none runs = absurd runs
none_runs false (Some t) (Some x) none runs = absurd cc
none_runs true None x none runs = refl
none_runs true (Some t) x none runs = absurd runs

-- nor the one that is called
called_runs : {P : Type 0} (o : Option (Taken P)) (x : Option InCallback) → IsRunningBut true o x → o ≡ None
called_runs None x runs = refl
called_runs (Some t) x runs = absurd runs

-- a number that an entry gives was in no callback, and is a submission's
abbrev GivesFresh : World → Step → Entry → Type 0
GivesFresh w step entry = (h n : ℕ) → entry.owner ≡ Some h → entry.reply ≡ reply.Number n → (takes_payload step ≡ true) × (callback_at w h n ≡ None)

module _ {P : Type 0} (rule : P → Rule) where
  -- what is kept has the rules of the book
  abbrev AreUnder : Kept P → Book → Type 0
  AreUnder kept book = (h n : ℕ) (c : P) → kept h n ≡ Some c → rule c ≡ book h n

  -- also behind an entry
  under_by : (kept : Kept P) (book : Book) (takes : Bool) (owner : Option ℕ) (r : Reply) (payload : Option P) (its : Rule) → ((h n : ℕ) → owner ≡ Some h → r ≡ reply.Number n → takes ≡ true)
      → (takes ≡ true → is_some payload ≡ true) → (takes ≡ true → IsUnder rule its payload) → AreUnder kept book → AreUnder (kept_by kept takes owner r payload) (noted_by book owner r its)
  under_by kept book true None r payload its gives given under all = all
  under_by kept book false None r payload its gives given under all = all
  under_by kept book false (Some h) (reply.Number n) payload its gives given under all = absurd (cc (gives h n refl refl))
  under_by kept book true (Some h) (reply.Number n) None its gives given under all = absurd (cc (given refl))
  under_by kept book true (Some h) (reply.Number n) (Some p) its gives given under all = λ g m c e. by_test ((h == g) && (n == m)) g m c e
    where
      by_test : (b : Bool) (g m : ℕ) (c : P) → (if b then Some p else kept g m) ≡ Some c → rule c ≡ (if b then its else book g m)
      by_test true g m c e = ap rule (sym (same_Some p c e)) ∙ under refl
      by_test false g m c e = all g m c e
  under_by kept book false (Some h) _ payload its gives given under all = all
  under_by kept book true (Some h) _ payload its gives given under all = all

  -- a callback that runs is kept under its name and number
  abbrev AreKept : List (NameRuns P) → Kept P → Type 0
  AreKept running kept = (h n : ℕ) (t : Taken P) → running_at running h n ≡ Some t → kept h n ≡ Some t.payload

  -- also behind an entry, whose number runs nowhere
  kept_stays : (running : List (NameRuns P)) (kept : Kept P) (takes : Bool) (owner : Option ℕ) (r : Reply) (payload : Option P) → ((h n : ℕ) → owner ≡ Some h → r ≡ reply.Number n → running_at running h n ≡ None)
      → AreKept running kept → AreKept running (kept_by kept takes owner r payload)
  kept_stays running kept true (Some h) (reply.Number n) (Some p) fresh its = λ g m t e. by_test g m t e ((h == g) && (n == m)) refl
    where
      by_test : (g m : ℕ) (t : Taken P) → running_at running g m ≡ Some t → (b : Bool) → ((h == g) && (n == m)) ≡ b → (if b then Some p else kept g m) ≡ Some t.payload
      by_test g m t e true same =
          let both = and_parts (h == g) (n == m) same in
          let none : running_at running g m ≡ None = subst (λ k. running_at running k m ≡ None) (eqb-true h g both.0) (subst (λ k. running_at running h k ≡ None) (eqb-true n m both.1) (fresh h n refl refl)) in
          absurd (cc (none, e))
      by_test g m t e false differ = its g m t e
  kept_stays running kept true (Some h) (reply.Number n) None fresh its = its
  kept_stays running kept true None r payload fresh its = its
  kept_stays running kept false owner r payload fresh its = its
  kept_stays running kept true (Some h) _ payload fresh its = its

  -- what a step of the core does to what is shown of a stage but its callbacks
  record StepsOn (setup : Setup) (old : State P) (step : Step) (callback : Option P) (entry : Entry) (new : State P) : Type 0 where
    turned : TurnsWorld old step entry new
    carries : (kept : Kept P) → Carries kept old → Carries (kept_after kept step entry callback) new
    given : takes_payload step ≡ true → is_some callback ≡ true

  -- the parts of the next stage that the callbacks have no part in
  record CoreBehind (setup : Setup) (s : Stage) (step : Step) (its : Rule) (entry : Entry) (new : State P) (kept : Kept P) : Type 0 where
    entry_is : entry ≡ (turn setup s.world step).entry
    world : ShowsWorld setup new (turn setup s.world step).world
    carries : Carries kept new
    under : AreUnder kept (noted s.book (turn setup s.world step).entry its)
    fresh : GivesFresh s.world step entry

  core_behind : (setup : Setup) (called : (h n : ℕ) → Bool) (v : PlanState P) (s : Stage) (step : Step) (callback : Option P) (its : Rule) (entry : Entry) (new : State P)
      → (shown : ShowsBut rule setup called v s) → (takes_payload step ≡ true → IsUnder rule its callback) → StepsOn setup v.core step callback entry new → CoreBehind setup s step its entry new (kept_after shown.kept step entry callback)
  core_behind setup called v s step callback its entry new shown under steps = record {
    entry_is = now.0;
    world = now.1;
    carries = steps.carries shown.kept shown.carries;
    under = subst (λ e. AreUnder (kept_after shown.kept step entry callback) (noted s.book e its)) now.0
        (under_by shown.kept s.book (takes_payload step) entry.owner entry.reply callback its (λ h n owned gives. (fresh h n owned gives).0) steps.given under shown.under);
    fresh = fresh;
  }
    where
      now : (entry ≡ (turn setup s.world step).entry) × ShowsWorld setup new (turn setup s.world step).world
      now = steps.turned setup s.world shown.world

      fresh : GivesFresh s.world step entry
      fresh h n owned gives = (keeps_callbacks setup s.world (reached setup v.core s.world shown.world)).fresh step h n (ap (λ e. e.owner) (sym now.0) ∙ owned) (ap (λ e. e.reply) (sym now.0) ∙ gives)

  -- the callbacks are kept where none comes out
  kept_behind : (setup : Setup) (called : (h n : ℕ) → Bool) (v : PlanState P) (s : Stage) (step : Step) (callback : Option P) (entry : Entry) → (shown : ShowsBut rule setup called v s) → GivesFresh s.world step entry
      → AreKept v.running (kept_after shown.kept step entry callback)
  kept_behind setup called v s step callback entry shown fresh =
      kept_stays v.running shown.kept (takes_payload step) entry.owner entry.reply callback
      (λ h n owned gives. none_runs (called h n) (running_at v.running h n) (callback_at s.world h n) (fresh h n owned gives).1 (shown.running h n)) shown.its

  -- a verdict that was made
  pub answered : (old : PlanState P) (h n : ℕ) (verdict : Verdict) (callback : Option P) (entry : Entry) (new : PlanState P) → TurnsWorld old.core (Answer h n verdict) entry new.core
      → ((kept : Kept P) → Carries kept old.core → Carries (kept_after kept (Answer h n verdict) entry callback) new.core) → (takes_payload (Answer h n verdict) ≡ true → is_some callback ≡ true)
      → new.running ≡ old.running → MakesAnswer rule old h n (Answer h n verdict) callback entry new
  answered old h n verdict callback entry new turned carries given same setup s r rules shown under = (
    b.entry_is,
    record {
      world = b.world;
      kept = kept_after shown.kept step entry callback;
      carries = b.carries;
      under = b.under;
      running = λ g m. subst (λ v. IsRunningBut (still_called ends h n g m) (running_at v g m) (callback_at after g m)) (sym same) (by_ends ends ends_is g m);
      its = subst (λ v. AreKept v (kept_after shown.kept step entry callback)) (sym same) (kept_behind setup (is_there h n) old s step callback entry shown b.fresh);
    },
  )
    where
      step : Step
      step = Answer h n verdict

      b : CoreBehind setup s step r entry new.core (kept_after shown.kept step entry callback)
      b = core_behind setup (is_there h n) old s step callback r entry new.core shown (λ takes. under) (record { turned = turned; carries = carries; given = given })

      ends : Bool
      ends = ends_callback entry.reply

      after : World
      after = (turn setup s.world step).world

      ends_is : AnswerEnds ends h n s.world after
      ends_is = subst (λ (e : Entry). AnswerEnds (ends_callback e.reply) h n s.world after) (sym b.entry_is) ((keeps_callbacks setup s.world (reached setup old.core s.world shown.world)).answers h n verdict)

      ended : (g m : ℕ) (there : Bool) → callback_at after g m ≡ (if there then None else callback_at s.world g m) → IsRunningBut there (running_at old.running g m) (callback_at s.world g m) → IsRunning (running_at old.running g m) (callback_at after g m)
      ended g m true is runs = rw (is, called_runs (running_at old.running g m) (callback_at s.world g m) runs) tt
      ended g m false is runs = subst (IsRunning (running_at old.running g m)) (sym is) runs

      by_ends : (e : Bool) → AnswerEnds e h n s.world after → (g m : ℕ) → IsRunningBut (still_called e h n g m) (running_at old.running g m) (callback_at after g m)
      by_ends true is g m = ended g m (is_there h n g m) (is g m) (shown.running g m)
      by_ends false is g m = subst (IsRunningBut (is_there h n g m) (running_at old.running g m)) (sym (is g m)) (shown.running g m)

-- a world in which no result waits has an idle Take
idle_take : (setup : Setup) (w : World) → w.results ≡ [] → (turn setup w Take).entry.reply ≡ reply.Idle
unfolding turn turn_of_nobody
idle_take setup w none = rw none refl

-- and where no payload would go out, none waits
none_ended : {P : Type 0} (core : State P) (setup : Setup) (w : World) → ShowsWorld setup core w → first_payload core ≡ None → w.results ≡ []
none_ended {P = P} core setup w (c, keeps, shows) none = sym shows.results ∙ (keeps.ended ∙ ap (map result_of) (by_first core.flights.ended none))
  where
    by_first : (xs : List (EndedOf (InFlight P))) → option_map (λ x. x.transfer.payload) (slice_get xs 0) ≡ None → xs ≡ []
    by_first [] none = refl
    by_first (x ∷ xs) none = absurd cc

-- a step that is no Take hands nothing out
pub none_goes : {P : Type 0} (core : State P) (step : Step) → (step ≡ Take → ⊥) → handed_out core step ≡ None
none_goes core Take apart = absurd (apart refl)
none_goes core _ apart = refl

-- what hands out something is a Take
hands_out : {P : Type 0} (core : State P) (step : Step) → is_of_callback step ≡ false → handed_out core step ≡ None
hands_out core Take none = absurd cc
hands_out core _ none = refl

module _ {P : Type 0} (rule : P → Rule) where
  -- where none comes out, those run that ran
  none_comes : (r : Reply) (out : Option P) (old new : List (NameRuns P)) → out ≡ None → RunsToo r out old new → (h n : ℕ) → running_at new h n ≡ running_at old h n
  none_comes (reply.Called r) None old new none runs = runs
  none_comes _ None old new none runs = runs
  none_comes r (Some c) old new none runs = absurd cc

  -- the callbacks that run behind a step, and what is kept of them
  record RunBehind (w after : World) (old new : List (NameRuns P)) (kept : Kept P) : Type 0 where
    running : (h n : ℕ) → IsRunning (running_at new h n) (callback_at after h n)
    its : AreKept rule new kept

  -- where no transfer comes into its callback, or leaves it
  same_run : (w after : World) (old new : List (NameRuns P)) (kept : Kept P) → ((h n : ℕ) → running_at new h n ≡ running_at old h n) → SameCallbacks w after → ((h n : ℕ) → IsRunning (running_at old h n) (callback_at w h n))
      → AreKept rule old kept → RunBehind w after old new kept
  same_run w after old new kept same stays runs its = record {
    running = λ h n. subst (λ o. IsRunning o (callback_at after h n)) (sym (same h n)) (subst (IsRunning (running_at old h n)) (sym (stays h n)) (runs h n));
    its = λ h n t e. its h n t (sym (same h n) ∙ e);
  }

  -- where one does
  one_runs : (r : Returned) (c : P) (w after : World) (old new : List (NameRuns P)) (kept : Kept P) → RunsToo (reply.Called r) (Some c) old new → CallsBack r w after → kept r.h r.n ≡ Some c
      → ((h n : ℕ) → IsRunning (running_at old h n) (callback_at w h n)) → AreKept rule old kept → RunBehind w after old new kept
  one_runs r c w after old new kept more calls its_is runs its = record {
    running = λ h n. by_test h n (is_there r.h r.n h n) refl (more h n);
    its = λ h n t e. kept_test h n t (is_there r.h r.n h n) refl (sym (more h n) ∙ e);
  }
    where
      taken : Taken P
      taken = record { returned = r; payload = c }

      at : (h n : ℕ) → is_there r.h r.n h n ≡ true → (r.h ≡ h) × (r.n ≡ n)
      at h n there = let both = and_parts (r.h == h) (r.n == n) there in (eqb-true r.h h both.0, eqb-true r.n n both.1)

      told : IsRunning (Some taken) (callback_at after r.h r.n)
      told = subst (IsRunning (Some taken)) (sym calls.its.1) calls.its.2

      by_test : (h n : ℕ) (b : Bool) → is_there r.h r.n h n ≡ b → running_at new h n ≡ (if b then Some taken else running_at old h n) → IsRunning (running_at new h n) (callback_at after h n)
      by_test h n true there is =
          let same = at h n there in
          subst (λ o. IsRunning o (callback_at after h n)) (sym is) (subst (λ k. IsRunning (Some taken) (callback_at after k n)) same.0 (subst (λ k. IsRunning (Some taken) (callback_at after r.h k)) same.1 told))
      by_test h n false differ is = subst (λ o. IsRunning o (callback_at after h n)) (sym is) (subst (IsRunning (running_at old h n)) (sym (calls.others h n differ)) (runs h n))

      kept_test : (h n : ℕ) (t : Taken P) (b : Bool) → is_there r.h r.n h n ≡ b → (if b then Some taken else running_at old h n) ≡ Some t → kept h n ≡ Some t.payload
      kept_test h n t true there e =
          let same = at h n there in
          subst (λ k. kept k n ≡ Some t.payload) same.0 (subst (λ k. kept r.h k ≡ Some t.payload) same.1 (its_is ∙ ap (λ (x : Taken P). Some x.payload) (same_Some taken t e)))
      kept_test h n t false differ e = its h n t e

  -- behind a Take
  take_runs : (setup : Setup) (w after : World) (core : State P) (r : Reply) (out : Option P) (old new : List (NameRuns P)) (kept : Kept P) → ShowsWorld setup core w → out ≡ first_payload core → GoesOut kept out r
      → r ≡ (turn setup w Take).entry.reply → TakeCalls r w after → RunsToo r out old new → ((h n : ℕ) → IsRunning (running_at old h n) (callback_at w h n)) → AreKept rule old kept → RunBehind w after old new kept
  take_runs setup w after core (reply.Called r) (Some c) old new kept shown out_is goes reply_is calls more runs its = one_runs r c w after old new kept more calls goes runs its
  take_runs setup w after core (reply.Called r) None old new kept shown out_is goes reply_is calls more runs its =
      let idle : (turn setup w Take).entry.reply ≡ reply.Idle = idle_take setup w (none_ended core setup w shown (sym out_is)) in absurd (cc (reply_is, idle))
  take_runs setup w after core _ (Some c) old new kept shown out_is goes reply_is calls more runs its = absurd goes
  take_runs setup w after core _ None old new kept shown out_is goes reply_is calls more runs its = same_run w after old new kept more calls runs its

  -- a step that was made, and that is no verdict
  pub made : (old : PlanState P) (step : Step) (callback out : Option P) (entry : Entry) (new : PlanState P) → is_answer step ≡ false → TurnsWorld old.core step entry new.core
      → ((kept : Kept P) → Carries kept old.core → Carries (kept_after kept step entry callback) new.core) → (takes_payload step ≡ true → is_some callback ≡ true) → out ≡ handed_out old.core step
      → ((kept : Kept P) → Carries kept old.core → GoesOut kept out entry.reply) → RunsToo entry.reply out old.running new.running → MakesStep rule old step callback entry new
  made old step callback out entry new apart turned carries given out_is goes runs setup s r rules shown under = (
    b.entry_is,
    record {
      world = b.world;
      kept = kept_after shown.kept step entry callback;
      carries = b.carries;
      under = b.under;
      running = behind.running;
      its = behind.its;
    },
  )
    where
      b : CoreBehind rule setup s step r entry new.core (kept_after shown.kept step entry callback)
      b = core_behind rule setup nowhere old s step callback r entry new.core shown under (record { turned = turned; carries = carries; given = given })

      after : World
      after = (turn setup s.world step).world

      ran : AreKept rule old.running (kept_after shown.kept step entry callback)
      ran = kept_behind rule setup nowhere old s step callback entry shown b.fresh

      known : KeepsCallbacks setup s.world
      known = keeps_callbacks setup s.world (reached setup old.core s.world shown.world)

      other : is_of_callback step ≡ false → RunBehind s.world after old.running new.running (kept_after shown.kept step entry callback)
      other none = same_run s.world after old.running new.running (kept_after shown.kept step entry callback) (none_comes entry.reply out old.running new.running (out_is ∙ hands_out old.core step none) runs) (known.others step none) shown.running ran

      by_take : (x : Step) → step ≡ x → is_answer x ≡ false → RunBehind s.world after old.running new.running (kept_after shown.kept step entry callback)
      by_take Take is plain =
          take_runs setup s.world after old.core entry.reply out old.running new.running (kept_after shown.kept step entry callback) shown.world (out_is ∙ ap (handed_out old.core) is)
          (subst (λ k. GoesOut k out entry.reply) (sym (ap (λ x. kept_after shown.kept x entry callback) is)) (goes shown.kept shown.carries))
          (ap (λ e. e.reply) b.entry_is ∙ ap (λ x. (turn setup s.world x).entry.reply) is)
          (subst (λ (e : Entry). TakeCalls e.reply s.world after) (sym b.entry_is) (subst (λ x. TakeCalls (turn setup s.world x).entry.reply s.world (turn setup s.world x).world) (sym is) known.takes)) runs shown.running ran
      by_take (Answer h n v) is plain = absurd cc
      by_take _ is plain = other (ap is_of_callback is)

      behind : RunBehind s.world after old.running new.running (kept_after shown.kept step entry callback)
      behind = by_take step refl apart

-- the callbacks that run behind a step: where it says that one was called, one came out
pub comes_out : {P : Type 0} (old new : PlanState P) (step : Step) (out : Option P) (entry : Entry) (core : State P) → TurnsWorld old.core step entry core → out ≡ handed_out old.core step → ((kept : Kept P) → Carries kept old.core → GoesOut kept out entry.reply)
    → RunsToo entry.reply out old.running new.running → RunBehindStep entry.reply old new
comes_out {P = P} old new step out entry core turned out_is goes runs = by_reply entry.reply out refl out_is goes runs
  where
    -- in a world that is shown none is called where none is handed out
    not_without : (r : Returned) → entry.reply ≡ reply.Called r → None ≡ handed_out old.core step → (setup : Setup) (w : World) → ShowsWorld setup old.core w → ⊥
    not_without r is none setup w shown = by_step step refl none
      where
        replied : (turn setup w step).entry.reply ≡ reply.Called r
        replied = sym (ap (λ e. e.reply) (turned setup w shown).0) ∙ is

        calls : call_of (turn setup w step).entry.reply ≡ r ∷ []
        calls = ap call_of replied

        by_step : (x : Step) → step ≡ x → None ≡ handed_out old.core x → ⊥
        by_step Take same nothing =
            let idle : (turn setup w Take).entry.reply ≡ reply.Idle = idle_take setup w (none_ended old.core setup w shown (sym nothing)) in
            let called : (turn setup w Take).entry.reply ≡ reply.Called r = subst (λ x. (turn setup w x).entry.reply ≡ reply.Called r) same replied in
            absurd (cc (idle, called))
        by_step _ same nothing =
            let silent : call_of (turn setup w step).entry.reply ≡ [] = no_call setup w (reached setup old.core w shown) step (ap is_take same) in
            absurd (cc (silent, calls))

    by_reply : (r : Reply) (o : Option P) → entry.reply ≡ r → o ≡ handed_out old.core step → ((kept : Kept P) → Carries kept old.core → GoesOut kept o r) → RunsToo r o old.running new.running → RunBehindStep r old new
    by_reply (reply.Called r) (Some c) is handed gone more = λ setup w shown. record { callback = c; its = gone; runs = more }
    by_reply (reply.Called r) None is handed gone more = λ setup w shown. absurd (not_without r is handed setup w shown)
    by_reply _ None is handed gone more = more
    by_reply _ (Some c) is handed gone more = more

module _ {P : Type 0} (rule : P → Rule) where
  -- before the first step
  pub first_shown : (setup : Setup) (v : PlanState P) (rules : List Rule) → ShowsWorld setup v.core (new_world setup) → ((kept : Kept P) → Carries kept v.core) → ((h n : ℕ) → running_at v.running h n ≡ None) → ShowsStage rule setup v (first_stage setup rules)
  unfolding new_world callback_of
  first_shown setup v rules shows carries none = record {
    world = shows;
    kept = λ h n. None;
    carries = carries (λ h n. None);
    under = λ h n c e. absurd cc;
    running = λ h n. rw (none h n) tt;
    its = λ h n t e. absurd (cc (none h n, e));
  }

  -- with one callback taken out, which is called
  pub taken_out : (setup : Setup) (old new : PlanState P) (s : Stage) (h n : ℕ) → ShowsStage rule setup old s → new.core ≡ old.core → ((g m : ℕ) → running_at new.running g m ≡ (if is_there h n g m then None else running_at old.running g m))
      → ShowsBut rule setup (is_there h n) new s
  taken_out setup old new s h n shown same out = record {
    world = subst (λ c. ShowsWorld setup c s.world) (sym same) shown.world;
    kept = shown.kept;
    carries = subst (Carries shown.kept) (sym same) shown.carries;
    under = shown.under;
    running = λ g m. by_test g m (is_there h n g m) (out g m);
    its = λ g m t e. its g m t (is_there h n g m) (sym (out g m) ∙ e);
  }
    where
      by_test : (g m : ℕ) (b : Bool) → running_at new.running g m ≡ (if b then None else running_at old.running g m) → IsRunningBut b (running_at new.running g m) (returning s g m)
      by_test g m true is = rw is tt
      by_test g m false is = subst (λ o. IsRunning o (returning s g m)) (sym is) (shown.running g m)

      its : (g m : ℕ) (t : Taken P) (b : Bool) → (if b then None else running_at old.running g m) ≡ Some t → shown.kept g m ≡ Some t.payload
      its g m t true e = absurd cc
      its g m t false e = shown.its g m t e

  -- one that runs is of a transfer in its callback, is told what became of it, and is under its rule
  pub record IsDue (s : Stage) (h n : ℕ) (t : Taken P) : Type 0 where
    pub its : InCallback
    pub there : returning s h n ≡ Some its
    pub told : IsTold t.returned its
    pub under : rule t.payload ≡ s.book h n

  pub due : (setup : Setup) (v : PlanState P) (s : Stage) (h n : ℕ) (t : Taken P) → ShowsStage rule setup v s → running_at v.running h n ≡ Some t → IsDue s h n t
  due setup v s h n t shown runs = by_callback (returning s h n) refl (subst (λ o. IsRunning o (returning s h n)) runs (shown.running h n))
    where
      by_callback : (o : Option InCallback) → returning s h n ≡ o → IsRunning (Some t) (returning s h n) → IsDue s h n t
      by_callback None is told = absurd (subst (IsRunning (Some t)) is told)
      by_callback (Some x) is told = record { its = x; there = is; told = subst (IsRunning (Some t)) is told; under = shown.under h n t.payload (shown.its h n t runs) }

  -- where none runs, no transfer is in its callback
  pub none_due : (setup : Setup) (v : PlanState P) (s : Stage) (h n : ℕ) → ShowsStage rule setup v s → running_at v.running h n ≡ None → returning s h n ≡ None
  none_due setup v s h n shown none = by_callback (returning s h n) (subst (λ o. IsRunning o (returning s h n)) none (shown.running h n))
    where
      by_callback : (o : Option InCallback) → IsRunning {P = P} None o → o ≡ None
      by_callback None runs = refl
      by_callback (Some x) runs = absurd runs

  -- none is called any more where its transfer isn't in its callback
  pub none_called : (setup : Setup) (v : PlanState P) (s : Stage) (h n : ℕ) → ShowsBut rule setup (is_there h n) v s → returning s h n ≡ None → ShowsStage rule setup v s
  none_called setup v s h n shown none = record {
    world = shown.world;
    kept = shown.kept;
    carries = shown.carries;
    under = shown.under;
    running = λ g m. by_test g m (is_there h n g m) refl (shown.running g m);
    its = shown.its;
  }
    where
      by_test : (g m : ℕ) (b : Bool) → is_there h n g m ≡ b → IsRunningBut b (running_at v.running g m) (returning s g m) → IsRunning (running_at v.running g m) (returning s g m)
      by_test g m true there runs =
          let both = and_parts (h == g) (n == m) there in
          let gone : returning s g m ≡ None = subst (λ k. returning s k m ≡ None) (eqb-true h g both.0) (subst (λ k. returning s h k ≡ None) (eqb-true n m both.1) none) in
          rw (called_runs (running_at v.running g m) (returning s g m) runs, gone) tt
      by_test g m false differ runs = runs
