-- What is still shown where memory is refused.
use Rattle.std.proofs.Common.{◌≡◌, ℕ, ◌<◌, ◌≤◌, ◌∙◌, Bool, true, false, List, [], ◌∷◌, length, Option, Some, None, Result, Ok, Err, IfOk, inr, refl, ap, sym, subst, slice_get, arith}
use Rattle.std.specs.Prelude.{IfSome, IsOk, OnErr, if◌then◌else◌, is_some, option_map}
use Rattle.std.specs.Option.{option_map_or}
use Rattle.std.proofs.lemmas.Option.{same_Some}
use Rattle.usb_model.specs.declared.entry.Entry.{Entry}
use Rattle.usb_model.specs.declared.plan.Plan.{Plan}
use Rattle.usb_model.specs.declared.plan.Plan.TheVariants.{Do, Return}
use Rattle.usb_model.specs.declared.reply.Reply.{Reply}
use Rattle.usb_model.specs.declared.reply.Reply.TheVariants as reply
use Rattle.usb_model.specs.declared.reply.Returned.{Returned}
use Rattle.usb_model.specs.declared.result.TransferResult.{TransferResult}
use Rattle.usb_model.specs.declared.shared.Tagged.{Tagged}
use Rattle.usb_model.specs.declared.step.Step.{Step}
use Rattle.usb_model.specs.declared.step.Step.TheVariants.{Take}
use Rattle.usb_model.specs.declared.verdict.Rule.{Rule}
use Rattle.usb_model.specs.Buffer.{Buffer}
use Rattle.usb_model.specs.Machine.Turns.{effect, take_effect}
use Rattle.usb_model.specs.Setup.{Setup}
use Rattle.usb_model.specs.World.{World, is_blocked, machine_of, turn, turn_of, turn_of_nobody}
use Rattle.usb_model.specs.World.Plans.{Stage, returning}
use Rattle.proof_model.proofs.Lists.Pieces.{same_name}
use Rattle.refine_core.specs.Calls.{returned_of}
use Rattle.usb_core.specs.Due.{told_by}
use Rattle.usb_core.specs.Inventory.{waiting_result}
use Rattle.usb_core.specs.Public.{Carries, ShowsWorld, State, StillCarries, TurnsWorld, called_entry}
use Rattle.usb_core.specs.Steps.{handed_out}
use Rattle.usb_core.specs.declared.inventory.WaitingResult.{WaitingResult}
use Rattle.usb_core.specs.declared.results.Taken.{Taken}
use Rattle.proof_laws.specs.InCallbacks.{is_there}
use Rattle.usb_plans.specs.Drives.{StaysAt}
use Rattle.usb_plans.specs.PlanRuns.{ComesOut, FindsNone, HasRoom, IsRunningBut, MakesStep, PlanState, RunBehindStep, ShowsBut, StaysWith, StillShows, TellsOf, next_bytes, nowhere, room_of, running_at}
use Rattle.usb_plans.proofs.Stages.{taken_out}

-- a Take says what the callback of the oldest result is told, if one waits
take_says : (setup : Setup) (w : World) → (turn setup w Take).entry ≡ called_entry (option_map returned_of (slice_get w.results 0))
unfolding turn turn_of turn_of_nobody effect take_effect is_blocked machine_of
take_says setup w = by_results w.results refl
  where
    by_results : (rs : List (Tagged TransferResult)) → w.results ≡ rs → (turn setup w Take).entry ≡ called_entry (option_map returned_of (slice_get w.results 0))
    by_results [] is = rw is refl
    by_results (x ∷ xs) is = rw (is, same_name x.name) refl

-- what is told has the bytes of the result
bytes_of : (r : Returned) (o : Option (Tagged TransferResult)) → called_entry (Some r) ≡ called_entry (option_map returned_of o) → length r.bytes ≡ option_map_or (λ t. length t.piece.bytes) o 0
bytes_of r None same = absurd (cc (ap (λ (e : Entry). e.reply) same))
bytes_of r (Some t) same = ap (λ (e : Entry). length (told_by e.reply).bytes) same

-- and its name
name_of : (r : Returned) (o : Option (Tagged TransferResult)) (Q : ℕ → Type 0) → called_entry (Some r) ≡ called_entry (option_map returned_of o) → IfSome o (λ x. Q x.name) → Q r.h
name_of r None Q same has = absurd (cc (ap (λ (e : Entry). e.reply) same))
name_of r (Some t) Q same has = subst Q (sym (ap (λ (e : Entry). (told_by e.reply).h) same)) has

-- what holds anyhow holds where memory is refused
pub on_err : {A E : Type 0} (r : Result A E) (X : Type 0) → X → OnErr r X
on_err (Ok x) X holds = tt
on_err (Err e) X holds = holds

-- what follows from what holds there holds there too
pub on_err_so : {A E : Type 0} (r : Result A E) (X Y : Type 0) → (X → Y) → OnErr r X → OnErr r Y
on_err_so (Ok x) X Y so holds = tt
on_err_so (Err e) X Y so holds = so holds

-- a call that succeeds where there is room doesn't fail there
pub never_fails : {A B E : Type 0} (o : Option A) (Q : A → Type 0) (r : Result B E) (e : E) → r ≡ Err e → is_some o ≡ true → IfSome o Q → IfSome o (λ x. Q x → IsOk r) → ⊥
never_fails None Q r e failed some has succeeds = absurd cc
never_fails (Some x) Q r e failed some has succeeds = absurd (cc (subst IsOk failed (succeeds has)))

module _ {P : Type 0} where
  -- there is room for the bytes of the oldest result, if there was memory for them
  pub has_bytes : (old new : State P) (memory : ℕ) (x : Option (Taken P)) (t : Taken P) → x ≡ Some t → TurnsWorld old Take (called_entry (option_map (λ y. y.returned) x)) new → memory < length t.returned.bytes → StaysWith Take memory old new
  has_bytes old new memory x t some turned short setup w shown room =
      let told : called_entry (Some t.returned) ≡ called_entry (option_map returned_of (slice_get w.results 0)) = ap (λ o. called_entry (option_map (λ y. y.returned) o)) (sym some) ∙ ((turned setup w shown).0 ∙ take_says setup w) in
      absurd (omega (arith, short, bytes_of t.returned (slice_get w.results 0) told, room refl))

  -- and for its callback
  pub has_place : (v : PlanState P) (core : State P) (step : Step) (entry : Entry) (taken : Option (Taken P)) (memory : ℕ) → TurnsWorld v.core step entry core → option_map (λ t. t.payload) taken ≡ handed_out v.core step → TellsOf entry.reply taken
      → (step ≡ Take → HasRoom v memory) → is_some taken ≡ true → (setup : Setup) (w : World) → ShowsWorld setup v.core w → IfSome taken (λ t. 0 < room_of v.running t.returned.h)
  has_place v core step entry None memory turned out told room goes setup w shown = absurd cc
  has_place v core step entry (Some t) memory turned out told room goes setup w shown = by_step step refl out
    where
      by_step : (x : Step) → step ≡ x → option_map (λ (y : Taken P). y.payload) (Some t) ≡ handed_out v.core x → 0 < room_of v.running t.returned.h
      by_step Take is hands =
          let says : entry ≡ called_entry (option_map returned_of (slice_get w.results 0)) = (turned setup w shown).0 ∙ (ap (λ x. (turn setup w x).entry) is ∙ take_says setup w) in
          by_first (slice_get w.results 0) says ((room is).callback setup w shown)
        where
          by_first : (o : Option (Tagged TransferResult)) → entry ≡ called_entry (option_map returned_of o) → IfSome o (λ x. 0 < room_of v.running x.name) → 0 < room_of v.running t.returned.h
          by_first None says has = absurd (cc (ap (λ (e : Entry). e.reply) says, told))
          by_first (Some x) says has =
              let same : t.returned ≡ returned_of x = ap told_by (sym told ∙ ap (λ (e : Entry). e.reply) says) in
              subst (λ h. 0 < room_of v.running h) (sym (ap (λ (r : Returned). r.h) same)) has
      by_step _ is hands = absurd cc

  -- no result waits
  pub none_next : (v : PlanState P) (memory : ℕ) (o : Option WaitingResult) → o ≡ None → ((setup : Setup) (w : World) → ShowsWorld setup v.core w → o ≡ option_map waiting_result (slice_get w.results 0)) → HasRoom v memory
  none_next v memory o none is = record {
    bytes = λ setup w shown. (by_first (slice_get w.results 0) (sym none ∙ is setup w shown)).0;
    callback = λ setup w shown. (by_first (slice_get w.results 0) (sym none ∙ is setup w shown)).1;
  }
    where
      by_first : (x : Option (Tagged TransferResult)) → None ≡ option_map waiting_result x → (option_map_or (λ t. length t.piece.bytes) x 0 ≤ memory) × IfSome x (λ t. 0 < room_of v.running t.name)
      by_first None e = (omega (arith), tt)
      by_first (Some t) e = absurd cc

  -- one does, and there is room for it
  has_next : (v : PlanState P) (memory : ℕ) (o : Option WaitingResult) (next : WaitingResult) → o ≡ Some next → ((setup : Setup) (w : World) → ShowsWorld setup v.core w → o ≡ option_map waiting_result (slice_get w.results 0))
      → ((setup : Setup) (w : World) → ShowsWorld setup v.core w → memory ≡ next_bytes w) → 0 < room_of v.running next.h → HasRoom v memory
  has_next v memory o next some is long room = record {
    bytes = λ setup w shown. omega (arith, long setup w shown);
    callback = λ setup w shown. by_first (slice_get w.results 0) (sym some ∙ is setup w shown);
  }
    where
      by_first : (x : Option (Tagged TransferResult)) → Some next ≡ option_map waiting_result x → IfSome x (λ t. 0 < room_of v.running t.name)
      by_first None e = absurd cc
      by_first (Some t) e = subst (λ h. 0 < room_of v.running h) (ap (λ (x : WaitingResult). x.h) (same_Some next (waiting_result t) e)) room

  -- and memory, where it is found
  pub room_made : {E : Type 0} (v : PlanState P) (memory : ℕ) (r : Result Buffer E) (o : Option WaitingResult) (next : WaitingResult) → IfOk r (λ b. b ≡ record { items = []; capacity = memory; lent = false }) → o ≡ Some next
      → ((setup : Setup) (w : World) → ShowsWorld setup v.core w → o ≡ option_map waiting_result (slice_get w.results 0)) → ((setup : Setup) (w : World) → ShowsWorld setup v.core w → memory ≡ next_bytes w) → 0 < room_of v.running next.h
      → IfOk r (λ b. HasRoom v b.capacity)
  room_made v memory (Ok b) o next made some is long room = subst (HasRoom v) (sym (ap (λ (b : Buffer). b.capacity) made)) (has_next v memory o next some is long room)
  room_made v memory (Err e) o next made some is long room = tt

  module _ (rule : P → Rule) where
    -- a stage, by a core that shows its world and carries what it did, beside the same callbacks
    still_shown : (setup : Setup) (called : (h n : ℕ) → Bool) (old new : PlanState P) (s : Stage) → ShowsWorld setup new.core s.world → StillCarries old.core new.core → ((h n : ℕ) → running_at new.running h n ≡ running_at old.running h n)
        → ShowsBut rule setup called old s → ShowsBut rule setup called new s
    still_shown setup called old new s world still same shown = record {
      world = world;
      kept = shown.kept;
      carries = still shown.kept shown.carries;
      under = shown.under;
      running = λ h n. subst (λ o. IsRunningBut (called h n) o (returning s h n)) (sym (same h n)) (shown.running h n);
      its = λ h n t e. shown.its h n t (sym (same h n) ∙ e);
    }

    -- there was no room for what goes out
    pub no_room : (old new : PlanState P) → new.core ≡ old.core → ((h n : ℕ) → running_at new.running h n ≡ running_at old.running h n) → StillShows rule old new
    no_room old new core same setup called s shown = still_shown setup called old new s (subst (λ c. ShowsWorld setup c s.world) (sym core) shown.world) (λ kept. subst (Carries kept) (sym core)) same shown

    -- there was, and the core found no memory
    pub no_step : (old mid new : PlanState P) (step : Step) (memory : ℕ) → mid.core ≡ old.core → ((h n : ℕ) → running_at mid.running h n ≡ running_at old.running h n) → (step ≡ Take → HasRoom mid memory) → StaysWith step memory mid.core new.core
        → new.running ≡ mid.running → StillShows rule old new
    no_step old mid new step memory core same room stays run setup called s shown =
        let before : ShowsBut rule setup called mid s = no_room old mid core same setup called s shown in
        let now : ShowsWorld setup new.core s.world × StillCarries mid.core new.core = stays setup s.world before.world (λ is. (room is).bytes setup s.world before.world) in
        still_shown setup called mid new s now.0 now.1 (λ h n. ap (λ v. running_at v h n) run) before

    -- what is made from there on is made from before
    pub made_from : (old mid : PlanState P) (step : Step) (callback : Option P) (entry : Entry) (new : PlanState P) → mid.core ≡ old.core → ((h n : ℕ) → running_at mid.running h n ≡ running_at old.running h n) → MakesStep rule mid step callback entry new
        → MakesStep rule old step callback entry new
    made_from old mid step callback entry new core same made setup s r rules shown under = made setup s r rules (no_room old mid core same setup nowhere s shown) under

    -- the verdict of a callback that was taken out and called found no memory
    pub no_return : (old mid new : PlanState P) (h n : ℕ) → mid.core ≡ old.core → ((g m : ℕ) → running_at mid.running g m ≡ (if is_there h n g m then None else running_at old.running g m)) → StillShows rule mid new → FindsNone rule old (Return h n) new
    no_return old mid new h n core out still setup s shown = still setup (is_there h n) s (taken_out rule setup old mid s h n shown core out)

    -- a step found no memory, as a piece
    pub no_do : (old new : PlanState P) (step : Step) → StillShows rule old new → FindsNone rule old (Do step) new
    no_do old new step still setup s shown = still setup nowhere s shown

    -- a piece found none
    pub none_for : (old new : PlanState P) (piece : Plan) → FindsNone rule old piece new → StaysAt rule old piece new
    none_for old new piece none setup s shown = inr (none setup s shown)

module _ {P : Type 0} where
  -- the callbacks that run behind a step, from before as from there on
  pub runs_from : (r : Reply) (old mid new : PlanState P) → mid.core ≡ old.core → ((h n : ℕ) → running_at mid.running h n ≡ running_at old.running h n) → RunBehindStep r mid new → RunBehindStep r old new
  runs_from (reply.Called r) old mid new core same runs = λ setup w shown.
      let out : ComesOut r mid new = runs setup w (subst (λ c. ShowsWorld setup c w) (sym core) shown) in
      record {
        callback = out.callback;
        its = λ kept carried. out.its kept (subst (Carries kept) (sym core) carried);
        runs = λ h n. out.runs h n ∙ ap (λ o. if is_there r.h r.n h n then Some (record { returned = r; payload = out.callback }) else o) (same h n);
      }
  runs_from _ old mid new core same runs = λ h n. runs h n ∙ same h n
