-- What is called back is what was made, over every run.
use Rattle.std.proofs.Common.{Bool, List, None, Option, Some, [], ap, append-nil, append_assoc, arith, false, inl, inr, length, length-append, map, refl, subst, sym, true, ℕ, ◌++◌, ◌==◌, ◌∙◌, ◌∷◌, ◌≡◌}
use Rattle.std.specs.Prelude.{if◌then◌else◌}
use Rattle.std.proofs.lemmas.Bool.{cond-false, cond-true, eqb-true}
use Rattle.std.proofs.lemmas.List.{length-map, map-append}
use Rattle.std.specs.List.{AllByRecursion}
use Rattle.usb_model.specs.declared.endpoint.Endpoint.{Endpoint}
use Rattle.usb_model.specs.declared.entry.Entry.{Entry}
use Rattle.usb_model.specs.declared.handle.Handle.{Handle}
use Rattle.usb_model.specs.declared.reply.Reply.{Reply}
use Rattle.usb_model.specs.declared.reply.Returned.{Returned}
use Rattle.usb_model.specs.declared.result.InCallback.{InCallback}
use Rattle.usb_model.specs.declared.result.TransferResult.{TransferResult}
use Rattle.usb_model.specs.declared.step.Step.TheVariants.{Answer, Claim, Close, Open, Release, Reset, Take, Unplug}
use Rattle.usb_model.specs.declared.step.Step.{Step}
use Rattle.usb_model.specs.declared.verdict.Verdict.TheVariants.{Stop}
use Rattle.usb_model.specs.declared.endpoint_effect.EndpointEffect.{EndpointEffect}
use Rattle.usb_model.specs.declared.effect.Effect.{Effect}
use Rattle.usb_model.specs.declared.effect.Change.TheVariants.{Drops, Frees, Gains, Keeps, Renews}
use Rattle.usb_model.specs.Fitness.{IsWell}
use Rattle.usb_model.specs.Laws.Calls.{CallbacksAreOfCalls, CallsWhatWasMade, IsOfCall, made, made_by, made_from, made_of_turn, returned, waiting}
use Rattle.usb_model.specs.Laws.Places.{call_of, calls}
use Rattle.usb_model.specs.Machine.Calls.{called_back, without}
use Rattle.usb_model.specs.Machine.Turns.{effect, machine_after, take_effect, takes_result}
use Rattle.usb_model.specs.Machine.{Machine, at_endpoint, device_of, does, is_gone, new_machine, says}
use Rattle.usb_model.specs.Setup.{Setup, packet_size_of}
use Rattle.usb_model.specs.World.Journal.{entries, is_unplug, journal, journal_from}
use Rattle.usb_model.specs.World.Shared.{past_first}
use Rattle.usb_model.specs.World.{World, is_blocked, machine_of, new_world, owner_of, turn, turn_by, turn_of, world_from}
use Rattle.proof_model.proofs.Machines.Deeds.{IsDone, IsRest, IsWork, again, again_with, anew, asks_it, claims, claims_again, clears, closes, commands, delivers, only_rests, opens, releases, resets, serves, stays, stops, submits, takes, works}
use Rattle.proof_model.proofs.Machines.Done.{is_done}
use Rattle.proof_model.proofs.Machines.Well.{well_kept, well_new}
use Rattle.proof_model.proofs.Places.Placed.{bare_calls, takes_no_result}
use Rattle.proof_model.proofs.Handles.Isolation.{IsEither, IsNothing, IsOwnTurn, blocked_is_not, blocked_turn, effect_to, entries_from, entries_less, entries_more, free_own, is_own_step, new_machine_of, turn_blocked, turn_free, turn_to}
use Rattle.proof_model.proofs.Lists.Parts.{each_append, each_weaker}
use Rattle.proof_model.proofs.Lists.Pieces.{same_name}
use Rattle.proof_model.proofs.Work.Replies.{asks_told, command_told, deliver_told, serve_told, told_plain}

-- a transfer in its callback is of one of these results
record IsAmong (results : List TransferResult) (x : InCallback) : Type 0 where
  before : List TransferResult
  result : TransferResult
  behind : List TransferResult
  there : results ≡ before ++ result ∷ behind
  number : x.n ≡ result.n
  request : x.request ≡ result.request
  round : x.round ≡ result.round
  status : x.status ≡ result.status

-- and of one of these and more
among_more : (results more : List TransferResult) (x : InCallback) → IsAmong results x → IsAmong (results ++ more) x
among_more results more x a = record {
  before = a.before;
  result = a.result;
  behind = a.behind ++ more;
  there = ap (λ l. l ++ more) a.there ∙ append_assoc a.before (a.result ∷ a.behind) more;
  number = a.number;
  request = a.request;
  round = a.round;
  status = a.status;
}

-- of what was made and what was told so far: the results that were called back
record IsTold (h : ℕ) (m : Machine) (results : List TransferResult) (told : List Returned) : Type 0 where
  called : List TransferResult
  all : results ≡ called ++ m.results
  calls_them : told ≡ map (returned h) called
  in_callbacks : AllByRecursion (IsAmong called) m.handle.in_callbacks

-- of the callbacks that are left it holds too
pub each_without : (P : InCallback → Type 0) (n : ℕ) (xs : List InCallback) → AllByRecursion P xs → AllByRecursion P (without n xs)
unfolding without
each_without P n [] p = tt
each_without P n (x ∷ xs) p = by_test (x.n == n) (each_without P n xs p.1)
  where
    by_test : (b : Bool) → AllByRecursion P (without n xs) → AllByRecursion P (if b then without n xs else x ∷ without n xs)
    by_test true rest = rest
    by_test false rest = (p.0, rest)

-- a step that takes no result, and puts none into its callback
told_kept : (h : ℕ) (m m' : Machine) (results more : List TransferResult) (told : List Returned) (r : Reply) → call_of r ≡ [] → m'.results ≡ m.results ++ more → ((P : InCallback → Type 0) → AllByRecursion P m.handle.in_callbacks → AllByRecursion P m'.handle.in_callbacks)
    → IsTold h m results told → IsTold h m' (results ++ more) (told ++ call_of r)
told_kept h m m' results more told r none joined fewer t = record {
  called = t.called;
  all = ap (λ l. l ++ more) t.all ∙ (append_assoc t.called m.results more ∙ ap (λ l. t.called ++ l) (sym joined));
  calls_them = ap (λ l. told ++ l) none ∙ (append-nil told ∙ t.calls_them);
  in_callbacks = fewer (IsAmong t.called) t.in_callbacks;
}

-- one that takes a result out to its callback
told_taken : (setup : Setup) (h : ℕ) (m : Machine) (x : TransferResult) (xs results : List TransferResult) (told : List Returned) → m.results ≡ x ∷ xs → IsTold h m results told
    → IsTold h (machine_after setup m Take (take_effect h m (x ∷ xs))) (results ++ []) (told ++ returned h x ∷ [])
unfolding machine_after take_effect
told_taken setup h m x xs results told is t = record {
  called = t.called ++ x ∷ [];
  all = append-nil results ∙ (t.all ∙ (ap (λ l. t.called ++ l) is ∙ (sym (append_assoc t.called (x ∷ []) xs) ∙ ap (λ l. (t.called ++ x ∷ []) ++ l) rest)));
  calls_them = ap (λ l. l ++ returned h x ∷ []) t.calls_them ∙ sym (map-append (returned h) t.called (x ∷ []));
  in_callbacks =
      each_append (IsAmong (t.called ++ x ∷ [])) m.handle.in_callbacks (record { n = x.n; request = x.request; round = x.round; status = x.status } ∷ [])
      (each_weaker (IsAmong t.called) (IsAmong (t.called ++ x ∷ [])) m.handle.in_callbacks (among_more t.called (x ∷ [])) t.in_callbacks)
      (record { before = t.called; result = x; behind = []; there = refl; number = refl; request = refl; round = refl; status = refl }, tt);
}
  where
    rest : xs ≡ past_first true m.results ++ []
    rest = ap (λ l. past_first true l) (sym is) ∙ sym (append-nil (past_first true m.results))

-- work leaves no more in callbacks
pub work_callbacks : (setup : Setup) (m : Machine) (ep : ℕ) (e : Endpoint) (step : Step) (handle : Handle) (d : EndpointEffect) (P : InCallback → Type 0) → IsWork setup m ep e step handle d → AllByRecursion P m.handle.in_callbacks → AllByRecursion P handle.in_callbacks
work_callbacks setup m ep e step handle d P (submits (anew g r) at fine short) p = p
work_callbacks setup m ep e step handle d P (submits (again g k x in_call) at fine short) p = each_without P x.n m.handle.in_callbacks p
work_callbacks setup m ep e step handle d P (submits (again_with g k bytes x in_call) at fine short) p = each_without P x.n m.handle.in_callbacks p
work_callbacks setup m ep e step handle d P _ p = p

-- and calls nothing back
work_calls : (setup : Setup) (m : Machine) (ep : ℕ) (e : Endpoint) (step : Step) (handle : Handle) (d : EndpointEffect) → IsWork setup m ep e step handle d → call_of d.reply ≡ []
work_calls setup m ep e step handle d (serves dev) = (told_plain d.reply (serve_told (packet_size_of setup (device_of m) ep) (is_gone m) e)).0
work_calls setup m ep e step handle d (commands o os is) = (told_plain d.reply (command_told (packet_size_of setup (device_of m) ep) ep e o e.state)).0
work_calls setup m ep e step handle d (delivers event ns is) = (told_plain d.reply (deliver_told (packet_size_of setup (device_of m) ep) ep (is_gone m) e event)).0
work_calls setup m ep e step handle d (asks_it {ask = ask} n i is at free) = (told_plain d.reply (asks_told e n ask)).0
work_calls setup m ep e step handle d (submits is at fine short) = refl
work_calls setup m ep e step handle d (clears g empty) = refl

-- what holds after a step of the machine
abbrev ToldAfter : Setup → ℕ → Machine → Step → Effect → List TransferResult → List Returned → Type 0
ToldAfter setup h m step done results told = IsTold h (machine_after setup m step done) (results ++ done.results) (told ++ call_of done.reply)

-- a step that takes and makes nothing
told_resting : (setup : Setup) (h : ℕ) (m : Machine) (step : Step) (done : Effect) (results : List TransferResult) (told : List Returned) → call_of done.reply ≡ [] → past_first (takes_result step) m.results ≡ m.results
    → ((P : InCallback → Type 0) → AllByRecursion P m.handle.in_callbacks → AllByRecursion P done.handle.in_callbacks) → IsTold h m results told → ToldAfter setup h m step done results told
unfolding machine_after
told_resting setup h m step done results told none stay fewer t = told_kept h m (machine_after setup m step done) results done.results told done.reply none (ap (λ l. l ++ done.results) stay) fewer t

-- a step without work
told_rest : (setup : Setup) (h : ℕ) (m : Machine) (step : Step) (done : Effect) (results : List TransferResult) (told : List Returned) → IsRest setup h m step done → IsTold h m results told → ToldAfter setup h m step done results told
unfolding take_effect
told_rest setup h m step done results told (stays {r = r} bare t) k = told_resting setup h m step (says m r) results told (bare_calls step r bare) t.results (λ P p. p) k
told_rest setup h m step done results told (claims_again g i) k = told_resting setup h m (Claim g i) (does m.handle Keeps) results told refl refl (λ P p. p) k
told_rest setup h m step done results told (stops g n x in_call) k = told_resting setup h m (Answer g n Stop) (does (called_back m x.n) Keeps) results told refl refl (λ P p. each_without P x.n m.handle.in_callbacks p) k
told_rest setup h m step done results told (opens g dev none) k = told_resting setup h m (Open g dev) (does (record m.handle { device = Some dev }) Frees) results told refl refl (λ P p. p) k
told_rest setup h m step done results told (closes g idle) k = told_resting setup h m (Close g) (does (record m.handle { device = None }) Frees) results told refl refl (λ P p. p) k
told_rest setup h m step done results told (claims g i opened free) k = told_resting setup h m (Claim g i) (does m.handle (Gains (device_of m) i)) results told refl refl (λ P p. p) k
told_rest setup h m step done results told (releases g i idle) k = told_resting setup h m (Release g i) (does m.handle (Drops (device_of m) i)) results told refl refl (λ P p. p) k
told_rest setup h m step done results told (resets g idle) k = told_resting setup h m (Reset g) (does m.handle (Renews (device_of m))) results told refl refl (λ P p. p) k
told_rest setup h m step done results told (takes x xs is) k = told_taken setup h m x xs results told is k

-- any step
told_done : (setup : Setup) (h : ℕ) (m : Machine) (step : Step) (done : Effect) (results : List TransferResult) (told : List Returned) → IsDone setup h m step done → IsTold h m results told → ToldAfter setup h m step done results told
unfolding machine_after at_endpoint
told_done setup h m step done results told (only_rests rest) k = told_rest setup h m step done results told rest k
told_done setup h m step done results told (works {handle = handle} {d = d} ep e here work) k =
    told_kept h m (machine_after setup m step (at_endpoint handle (device_of m) ep d)) results d.results told d.reply (work_calls setup m ep e step handle d work)
    (ap (λ b. past_first b m.results ++ d.results) (takes_no_result setup m ep e step handle d work)) (λ P p. work_callbacks setup m ep e step handle d P work p) k

-- where nobody is in the way, a step makes the results of its effect
made_free : (setup : Setup) (g : ℕ) (w : World) (step : Step) → is_blocked setup g w (effect_to setup g w step).change ≡ false → made_by setup g w step ≡ (effect_to setup g w step).results
made_free setup g w step q = cond-false (is_blocked setup g w (effect_to setup g w step).change) _ _ q

-- and where somebody is, none
made_blocked : (setup : Setup) (g : ℕ) (w : World) (step : Step) → is_blocked setup g w (effect_to setup g w step).change ≡ true → made_by setup g w step ≡ []
made_blocked setup g w step q = cond-true (is_blocked setup g w (effect_to setup g w step).change) _ _ q

-- the turn of a step with an owner
owned_turn : (setup : Setup) (g : ℕ) (w : World) (step : Step) → owner_of setup w step ≡ Some g → turn setup w step ≡ turn_of setup g w step
unfolding turn
owned_turn setup g w step own = ap (λ o. turn_by setup o w step) own

-- an Unplug makes no result
unplug_makes_none : (setup : Setup) (h : ℕ) (w : World) (step : Step) → is_unplug step ≡ true → made_of_turn setup h w step (owner_of setup w step) ≡ (effect_to setup h w step).results
unfolding effect
unplug_makes_none setup h w (Unplug dev) q = refl
unplug_makes_none setup h w _ q = absurd cc

-- a turn of the handle makes the results of its effect
made_own : (setup : Setup) (h : ℕ) (w : World) (step : Step) → IsOwnTurn setup h w step (turn setup w step) → made_of_turn setup h w step (owner_of setup w step) ≡ (effect_to setup h w step).results
made_own setup h w step own = by_unplug (is_unplug step) refl
  where
    by_blocked : is_unplug step ≡ false → (b : Bool) → is_blocked setup h w (effect_to setup h w step).change ≡ b → made_by setup h w step ≡ (effect_to setup h w step).results
    by_blocked owned true q =
        let its : turn setup w step ≡ blocked_turn h w = owned_turn setup h w step (own.0 owned) ∙ turn_blocked setup h w step q in
        absurd (cc (own.2, ap (λ t. is_own_step h step t.entry) its, blocked_is_not h h step owned))
    by_blocked owned false q = made_free setup h w step q

    by_unplug : (b : Bool) → is_unplug step ≡ b → made_of_turn setup h w step (owner_of setup w step) ≡ (effect_to setup h w step).results
    by_unplug true q = unplug_makes_none setup h w step q
    by_unplug false q =
        ap (made_of_turn setup h w step) (own.0 q) ∙ (cond-true (h == h) (made_by setup h w step) [] (same_name h) ∙ by_blocked q (is_blocked setup h w (effect_to setup h w step).change) refl)

-- and one that is nothing to it makes none of its results
made_none : (setup : Setup) (h : ℕ) (w : World) (step : Step) → IsNothing setup h w step (turn setup w step) → made_of_turn setup h w step (owner_of setup w step) ≡ []
made_none setup h w step nothing = by_owner (owner_of setup w step) refl
  where
    by_blocked : owner_of setup w step ≡ Some h → (b : Bool) → is_blocked setup h w (effect_to setup h w step).change ≡ b → made_by setup h w step ≡ []
    by_blocked own true q = made_blocked setup h w step q
    by_blocked own false q =
        let its : is_own_step h step (turn setup w step).entry ≡ true = ap (λ t. is_own_step h step t.entry) (owned_turn setup h w step own ∙ turn_free setup h w step q) ∙ (free_own setup h w step own).2 in
        absurd (cc (nothing.0, its))

    by_name : (g : ℕ) → owner_of setup w step ≡ Some g → (b : Bool) → (g == h) ≡ b → (if b then made_by setup g w step else []) ≡ []
    by_name g own true q =
        let same : g ≡ h = eqb-true g h q in
        subst (λ k. made_by setup k w step ≡ []) (sym same) (by_blocked (own ∙ ap (λ k. Some k) same) (is_blocked setup h w (effect_to setup h w step).change) refl)
    by_name g own false q = refl

    by_owner : (o : Option ℕ) → owner_of setup w step ≡ o → made_of_turn setup h w step o ≡ []
    by_owner None own = refl
    by_owner (Some g) own = by_name g own (g == h) refl

-- what the first entry calls back comes first
calls-cons : (x : Entry) (xs : List Entry) → calls (x ∷ xs) ≡ call_of x.reply ++ calls xs
unfolding calls
calls-cons x xs = refl

-- over a run from a world on
told_from : (setup : Setup) (h : ℕ) (w : World) (steps : List Step) (results : List TransferResult) (told : List Returned) → IsWell setup (machine_of setup h w) → IsTold h (machine_of setup h w) results told
    → IsTold h (machine_of setup h (world_from setup w steps)) (results ++ made_from setup h w steps) (told ++ calls (entries_from setup h w steps))
unfolding world_from journal_from calls made_from
told_from setup h w [] results told well k = rw (append-nil results, append-nil told) k
told_from setup h w (step ∷ steps) results told well k = by_turn (turn_to setup h w step) (told_from setup h (turn setup w step).world steps)
  where
    later : World
    later = (turn setup w step).world

    last : Machine
    last = machine_of setup h (world_from setup later steps)

    Later : Type 0
    Later = (rs : List TransferResult) (ts : List Returned) → IsWell setup (machine_of setup h later) → IsTold h (machine_of setup h later) rs ts
        → IsTold h last (rs ++ made_from setup h later steps) (ts ++ calls (entries_from setup h later steps))

    by_turn : IsEither setup h w step (turn setup w step) → Later
        → IsTold h last (results ++ (made_of_turn setup h w step (owner_of setup w step) ++ made_from setup h later steps)) (told ++ calls (entries_from setup h w (step ∷ steps)))
    by_turn (inl own) rest =
        let done : Effect = effect_to setup h w step in
        let now : ToldAfter setup h (machine_of setup h w) step done results told = told_done setup h (machine_of setup h w) step done results told (is_done setup h (machine_of setup h w) step well) k in
        let more : calls (entries_from setup h w (step ∷ steps)) ≡ call_of done.reply ++ calls (entries_from setup h later steps) =
        ap calls (entries_more setup h w step steps own.2) ∙ (calls-cons (turn setup w step).entry (entries_from setup h later steps) ∙ ap (λ e. call_of e.reply ++ calls (entries_from setup h later steps)) own.1) in
        rw (made_own setup h w step own, more, ← append_assoc results done.results (made_from setup h later steps), ← append_assoc told (call_of done.reply) (calls (entries_from setup h later steps)))
        (rest (results ++ done.results) (told ++ call_of done.reply) (subst (IsWell setup) (sym own.3) (well_kept setup h (machine_of setup h w) step well))
        (subst (λ m. IsTold h m (results ++ done.results) (told ++ call_of done.reply)) (sym own.3) now))
    by_turn (inr nothing) rest =
        rw (made_none setup h w step nothing, ap calls (entries_less setup h w step steps nothing.0))
        (rest results told (subst (IsWell setup) (sym nothing.1) well) (subst (λ m. IsTold h m results told) (sym nothing.1) k))

-- nothing was made and nothing told of a machine that was never opened
told_new : (h : ℕ) → IsTold h new_machine [] []
unfolding new_machine
told_new h = record { called = []; all = refl; calls_them = refl; in_callbacks = tt }

-- where a run ends
told_at : (setup : Setup) (steps : List Step) (h : ℕ) → IsTold h (machine_of setup h (world_from setup (new_world setup) steps)) (made setup steps h) (calls (entries setup steps h))
unfolding made journal
told_at setup steps h =
    told_from setup h (new_world setup) steps [] [] (subst (IsWell setup) (sym (new_machine_of setup h)) (well_new setup)) (subst (λ m. IsTold h m [] []) (sym (new_machine_of setup h)) (told_new h))

-- what is called back is what was made
pub calls_what_was_made : (setup : Setup) (steps : List Step) (h : ℕ) → CallsWhatWasMade setup steps h
unfolding machine_of
calls_what_was_made setup steps h =
    let t = told_at setup steps h in
    ap (map (returned h)) t.all ∙ (map-append (returned h) t.called (waiting setup steps h) ∙ ap (λ l. l ++ map (returned h) (waiting setup steps h)) (sym t.calls_them))

-- and each transfer in its callback is of a result that was called back
pub callbacks_are_of_calls : (setup : Setup) (steps : List Step) (h : ℕ) → CallbacksAreOfCalls setup steps h
unfolding machine_of
callbacks_are_of_calls setup steps h =
    let t = told_at setup steps h in
    each_weaker (IsAmong t.called) (IsOfCall (made setup steps h) (length (calls (entries setup steps h)))) ((world_from setup (new_world setup) steps).names h).in_callbacks
    (λ x a. record {
      before = a.before;
      result = a.result;
      behind = a.behind ++ waiting setup steps h;
      there = t.all ∙ (ap (λ l. l ++ waiting setup steps h) a.there ∙ append_assoc a.before (a.result ∷ a.behind) (waiting setup steps h));
      was_called = omega (arith, ap length t.calls_them, length-map t.called (returned h), ap length a.there, length-append a.before (a.result ∷ a.behind));
      number = a.number;
      request = a.request;
      round = a.round;
      status = a.status;
    })
    t.in_callbacks
