-- A transfer comes into its callback by a Take, and leaves it by a verdict.
use Rattle.std.proofs.Common.{◌≡◌, ℕ, ◌+◌, ◌==◌, ◌<◌, ◌≤◌, ◌⊎◌, Bool, true, false, inl, inr, List, [], ◌∷◌, ◌++◌, map, Option, Some, None, refl, ap, sym, ◌∙◌, subst, arith}
use Rattle.std.specs.Prelude.{◌&&◌, ◌||◌, if◌then◌else◌}
use Rattle.std.proofs.lemmas.Bool.{cases_lt, eqb-true, eqb-false}
use Rattle.usb_model.specs.declared.endpoint.Endpoint.{Endpoint}
use Rattle.usb_model.specs.declared.endpoint_effect.EndpointEffect.{EndpointEffect}
use Rattle.usb_model.specs.declared.effect.Effect.{Effect}
use Rattle.usb_model.specs.declared.handle.Handle.{Handle}
use Rattle.usb_model.specs.declared.refused.Refused.{Refused}
use Rattle.usb_model.specs.declared.reply.Reply.{Reply}
use Rattle.usb_model.specs.declared.reply.Reply.TheVariants as reply
use Rattle.usb_model.specs.declared.request.Request.{Request}
use Rattle.usb_model.specs.declared.result.InCallback.{InCallback}
use Rattle.usb_model.specs.declared.result.TransferResult.{TransferResult}
use Rattle.usb_model.specs.declared.step.Step.{Step}
use Rattle.usb_model.specs.declared.step.Step.TheVariants.{Answer, Take}
use Rattle.usb_model.specs.declared.verdict.Verdict.{Verdict}
use Rattle.usb_model.specs.declared.verdict.Verdict.TheVariants as verdict
use Rattle.usb_model.specs.Laws.Cut.{times}
use Rattle.usb_model.specs.Laws.Places.{InOnePlace, number_of, numbers_called}
use Rattle.usb_model.specs.Machine.{Machine, at_endpoint, device_of, is_gone, refused_if}
use Rattle.usb_model.specs.Machine.Calls.{answer_callback, answer_effect, callback_of, called_back, submit_effect, submit_to, without}
use Rattle.usb_model.specs.Machine.Turns.{effect, machine_after, take_effect}
use Rattle.usb_model.specs.Numbers.{takes_payload}
use Rattle.usb_model.specs.Setup.{Setup, packet_size_of}
use Rattle.usb_model.specs.World.{World, Turn, machine_of, turn, turn_by, turn_of_nobody}
use Rattle.usb_model.specs.World.Journal.{entries, is_unplug}
use Rattle.usb_model.specs.World.Shared.{first_name}
use Rattle.proof_model.proofs.Handles.Isolation.{IsEither, IsNothing, IsOwnTurn, effect_to, free_own, is_own_step, turn_free, turn_to}
use Rattle.proof_model.proofs.Lists.Pieces.{same_name}
use Rattle.proof_model.proofs.Lists.Times.{times-cons, times_here}
use Rattle.proof_model.proofs.Work.Moves.{Moves}
use Rattle.proof_model.proofs.Work.Replies.{asks_told, command_told, deliver_told, serve_told, told_plain}
use Rattle.proof_model.proofs.Work.StepMoves.{moves}
use Rattle.proof_model.proofs.Machines.Deeds.{IsDone, IsRest, IsWork, again, again_with, anew, asks_it, claims, claims_again, clears, closes, commands, delivers, idles, only_rests, opens, refuses, releases, resets, serves, stays, stops, submits, takes, unplugs, works}
use Rattle.proof_model.proofs.Machines.Done.{is_done}
use Rattle.proof_model.proofs.Places.Placed.{IsPlaced}
use Rattle.proof_model.proofs.Places.Runs.{IsKept, kept_at}
use Rattle.proof_laws.specs.InCallbacks.{AnswerEnds, IsReached, KeepsCallbacks, SameCallbacks, TakeCalls, callback_at, ends_callback, is_answer, is_of_callback}
use Rattle.proof_laws.proofs.UnblockedSteps.{gentle_else}
use Rattle.proof_laws.proofs.Verdicts.{answer_others, answer_own}

-- what a step leaves of the callbacks of its machine
abbrev Untouched : Machine → Handle → Type 0
Untouched m handle = handle.in_callbacks ≡ m.handle.in_callbacks

-- work at an endpoint, but for a verdict's
work_untouched : (setup : Setup) (m : Machine) (ep : ℕ) (e : Endpoint) (step : Step) (handle : Handle) (d : EndpointEffect) → IsWork setup m ep e step handle d → is_answer step ≡ false → Untouched m handle
work_untouched setup m ep e step handle d (serves dev) apart = refl
work_untouched setup m ep e step handle d (commands o os is) apart = refl
work_untouched setup m ep e step handle d (delivers event ns is) apart = refl
work_untouched setup m ep e step handle d (asks_it n i is at free) apart = refl
work_untouched setup m ep e step handle d (submits (anew g request) at fine short) apart = refl
work_untouched setup m ep e step handle d (submits (again g k x in_call) at fine short) apart = absurd cc
work_untouched setup m ep e step handle d (submits (again_with g k bytes x in_call) at fine short) apart = absurd cc
work_untouched setup m ep e step handle d (clears g empty) apart = refl

-- what a step does without work, but for a Take or a verdict
rest_untouched : (setup : Setup) (h : ℕ) (m : Machine) (step : Step) (done : Effect) → IsRest setup h m step done → is_of_callback step ≡ false → Untouched m done.handle
rest_untouched setup h m step done (stays bare t) apart = refl
rest_untouched setup h m step done (claims_again g i) apart = refl
rest_untouched setup h m step done (stops g k x in_call) apart = absurd cc
rest_untouched setup h m step done (opens g dev none) apart = refl
rest_untouched setup h m step done (closes g idle) apart = refl
rest_untouched setup h m step done (claims g i opened free) apart = refl
rest_untouched setup h m step done (releases g i idle) apart = refl
rest_untouched setup h m step done (resets g idle) apart = refl
rest_untouched setup h m step done (takes x xs is) apart = absurd cc

-- a step of neither is no verdict
no_answer : (step : Step) → is_of_callback step ≡ false → is_answer step ≡ false
no_answer Take apart = refl
no_answer (Answer g k v) apart = absurd cc
no_answer _ apart = refl

done_untouched : (setup : Setup) (h : ℕ) (m : Machine) (step : Step) (done : Effect) → IsDone setup h m step done → is_of_callback step ≡ false → Untouched m done.handle
unfolding at_endpoint
done_untouched setup h m step done (only_rests rest) apart = rest_untouched setup h m step done rest apart
done_untouched setup h m step done (works ep e here work) apart = work_untouched setup m ep e step _ _ work (no_answer step apart)

-- the callbacks of a name, where a turn is its own
own_callbacks : (setup : Setup) (h n : ℕ) (w : World) (step : Step) (t : Turn) → IsOwnTurn setup h w step t → callback_at t.world h n ≡ callback_of n (effect_to setup h w step).handle.in_callbacks
unfolding machine_of machine_after
own_callbacks setup h n w step t own = ap (λ m. callback_of n m.handle.in_callbacks) own.3

-- and where it is nothing to it
other_callbacks : (setup : Setup) (h n : ℕ) (w : World) (step : Step) (t : Turn) → IsNothing setup h w step t → callback_at t.world h n ≡ callback_at w h n
unfolding machine_of
other_callbacks setup h n w step t none = ap (λ m. callback_of n m.handle.in_callbacks) none.1

-- a name's callbacks are its machine's
pub machine_callbacks : (setup : Setup) (h n : ℕ) (w : World) → callback_of n (machine_of setup h w).handle.in_callbacks ≡ callback_at w h n
unfolding machine_of
machine_callbacks setup h n w = refl

-- what is known of a name's machine in a world that a run leads to
pub kept : (setup : Setup) (w : World) (r : IsReached setup w) (h : ℕ) → IsKept setup (machine_of setup h w) (numbers_called (entries setup r.0 h))
kept setup w (steps, is) h = subst (λ u. IsKept setup (machine_of setup h u) (numbers_called (entries setup steps h))) (sym is) (kept_at setup h steps)

-- a step that is neither a Take nor a verdict leaves the callbacks
others_untouched : (setup : Setup) (w : World) → IsReached setup w → (step : Step) → is_of_callback step ≡ false → SameCallbacks w (turn setup w step).world
others_untouched setup w reached step apart h n = by_turn (turn_to setup h w step)
  where
    m : Machine
    m = machine_of setup h w

    by_turn : IsEither setup h w step (turn setup w step) → callback_at (turn setup w step).world h n ≡ callback_at w h n
    by_turn (inl own) =
        own_callbacks setup h n w step (turn setup w step) own
        ∙ (ap (callback_of n) (done_untouched setup h m step (effect_to setup h w step) (is_done setup h m step (kept setup w reached h).well) apart) ∙ machine_callbacks setup h n w)
    by_turn (inr none) = other_callbacks setup h n w step (turn setup w step) none

-- a number that stands nowhere is in no callback
no_callback : (n : ℕ) (xs : List InCallback) → times n (map (λ x. x.n) xs) ≡ 0 → callback_of n xs ≡ None
unfolding callback_of
no_callback n [] none = refl
no_callback n (x ∷ xs) none = by_test (x.n == n) refl (no_callback n xs (omega (arith, none, times-cons n x.n (map (λ (x : InCallback). x.n) xs))))
  where
    by_test : (b : Bool) → (x.n == n) ≡ b → callback_of n xs ≡ None → (if b then Some x else callback_of n xs) ≡ None
    by_test true is rest = absurd (omega (arith, none, times_here n x.n (map (λ (x : InCallback). x.n) xs) (eqb-true x.n n is)))
    by_test false is rest = rest

-- a number is told by a submission alone: by work at an endpoint
work_gives : (setup : Setup) (m : Machine) (ep : ℕ) (e : Endpoint) (step : Step) (handle : Handle) (d : EndpointEffect) (n : ℕ) → IsWork setup m ep e step handle d → number_of d.reply ≡ n ∷ [] → takes_payload step ≡ true
work_gives setup m ep e step handle d n (serves dev) is = let none : number_of d.reply ≡ [] = (told_plain d.reply (serve_told (packet_size_of setup (device_of m) ep) (is_gone m) e)).1 in absurd cc
work_gives setup m ep e step handle d n (commands o os first) is = let none : number_of d.reply ≡ [] = (told_plain d.reply (command_told (packet_size_of setup (device_of m) ep) ep e o e.state)).1 in absurd cc
work_gives setup m ep e step handle d n (delivers event ns first) is = let none : number_of d.reply ≡ [] = (told_plain d.reply (deliver_told (packet_size_of setup (device_of m) ep) ep (is_gone m) e event)).1 in absurd cc
work_gives setup m ep e step handle d n (asks_it {ask = ask} k i its at free) is = let none : number_of d.reply ≡ [] = (told_plain d.reply (asks_told e k ask)).1 in absurd cc
work_gives setup m ep e step handle d n (submits (anew g request) at fine short) is = refl
work_gives setup m ep e step handle d n (submits (again g k x in_call) at fine short) is = refl
work_gives setup m ep e step handle d n (submits (again_with g k bytes x in_call) at fine short) is = refl
work_gives setup m ep e step handle d n (clears g empty) is = absurd cc

-- and by nothing else
rest_gives : (setup : Setup) (h : ℕ) (m : Machine) (step : Step) (done : Effect) (n : ℕ) → IsRest setup h m step done → number_of done.reply ≡ n ∷ [] → ⊥
unfolding take_effect
rest_gives setup h m step done n (stays (refuses why) t) is = cc
rest_gives setup h m step done n (stays idles t) is = cc
rest_gives setup h m step done n (stays (unplugs dev) t) is = cc
rest_gives setup h m step done n (claims_again g i) is = cc
rest_gives setup h m step done n (stops g k x in_call) is = cc
rest_gives setup h m step done n (opens g dev none) is = cc
rest_gives setup h m step done n (closes g idle) is = cc
rest_gives setup h m step done n (claims g i opened free) is = cc
rest_gives setup h m step done n (releases g i idle) is = cc
rest_gives setup h m step done n (resets g idle) is = cc
rest_gives setup h m step done n (takes x xs first) is = cc

done_gives : (setup : Setup) (h : ℕ) (m : Machine) (step : Step) (done : Effect) (n : ℕ) → IsDone setup h m step done → number_of done.reply ≡ n ∷ [] → takes_payload step ≡ true
unfolding at_endpoint
done_gives setup h m step done n (only_rests rest) is = absurd (rest_gives setup h m step done n rest is)
done_gives setup h m step done n (works ep e here work) is = work_gives setup m ep e step _ _ n work is

-- a number that is given is given to a submission; it is its machine's next, and in no callback
fresh : (setup : Setup) (w : World) → IsReached setup w → (step : Step) (h n : ℕ) → (turn setup w step).entry.owner ≡ Some h → (turn setup w step).entry.reply ≡ reply.Number n → (takes_payload step ≡ true) × (callback_at w h n ≡ None)
fresh setup w reached step h n owned gives = by_turn (turn_to setup h w step)
  where
    m : Machine
    m = machine_of setup h w

    by_moves : (r : Reply) → number_of r ≡ n ∷ [] → Moves h m (machine_after setup m step (effect_to setup h w step)) r → n ≡ m.handle.next_number
    by_moves r is (inl work) = let none : number_of r ≡ [] = work.gives in absurd cc
    by_moves r is (inr (inl s)) = let same : m.handle.next_number ∷ [] ≡ n ∷ [] = sym s.gives ∙ is in cc
    by_moves r is (inr (inr t)) = let none : number_of r ≡ [] = t.gives in absurd cc

    own_is : (o : Option ℕ) (r : Reply) → o ≡ Some h → r ≡ reply.Number n → is_own_step h step (record { owner = o; reply = r }) ≡ false → ⊥
    own_is o r o_is r_is apart =
        let its : is_own_step h step (record { owner = Some h; reply = reply.Number n }) ≡ false = sym (ap (λ k. is_own_step h step (record { owner = k; reply = reply.Number n })) o_is ∙ refl) ∙ (ap (λ k. is_own_step h step (record { owner = o; reply = k })) (sym r_is) ∙ apart) in
        by_unplug (is_unplug step) its
      where
        by_unplug : (b : Bool) → (b || ((h == h) && true)) ≡ false → ⊥
        by_unplug true e = absurd cc
        by_unplug false e = let same : (h == h) ≡ true = same_name h in absurd (cc (same, e))

    by_turn : IsEither setup h w step (turn setup w step) → (takes_payload step ≡ true) × (callback_at w h n ≡ None)
    by_turn (inl own) =
        let replied : reply.Number n ≡ (effect_to setup h w step).reply = sym gives ∙ ap (λ x. x.reply) own.1 in
        let next : n ≡ m.handle.next_number = by_moves (effect_to setup h w step).reply (ap number_of (sym replied)) (moves setup h m step) in (
          done_gives setup h m step (effect_to setup h w step) n (is_done setup h m step (kept setup w reached h).well) (ap number_of (sym replied)),
          sym (machine_callbacks setup h n w) ∙ no_callback n m.handle.in_callbacks ((kept setup w reached h).placed.not_given n (omega (arith, next))).in_no_callback,
        )
    by_turn (inr none) = absurd (own_is (turn setup w step).entry.owner (turn setup w step).entry.reply owned gives none.0)

-- what a verdict for this number leaves of the callbacks of its machine. ends: whether it ended its callback
abbrev AnswerLeaves : (ends : Bool) → (n : ℕ) → Machine → Handle → Type 0
AnswerLeaves true n m handle = (x : InCallback) × (callback_of n m.handle.in_callbacks ≡ Some x) × (handle.in_callbacks ≡ without x.n m.handle.in_callbacks)
AnswerLeaves false n m handle = Untouched m handle

abbrev Leaves : ℕ → Machine → Effect → Type 0
Leaves n m done = AnswerLeaves (ends_callback done.reply) n m done.handle

-- where it may be refused
leaves_if : (n : ℕ) (m : Machine) (b : Bool) (why : Refused) (rest : Effect) → Leaves n m rest → Leaves n m (refused_if m b why rest)
unfolding refused_if
leaves_if n m true why rest later = refl
leaves_if n m false why rest later = later

-- where it submits once more
submit_leaves : (setup : Setup) (n : ℕ) (m : Machine) (x : InCallback) (request : Request) (round : ℕ) (o : Option Endpoint) → callback_of n m.handle.in_callbacks ≡ Some x → Leaves n m (submit_to setup m (called_back m x.n) request round o)
unfolding submit_to at_endpoint
submit_leaves setup n m x request round None there = refl
submit_leaves setup n m x request round (Some e) there =
    leaves_if n m _ _ _ (leaves_if n m _ _ _ (leaves_if n m _ _ _ (leaves_if n m _ _ _ (leaves_if n m _ _ _ (x, there, refl)))))

-- each verdict
answer_leaves : (setup : Setup) (n : ℕ) (m : Machine) (v : Verdict) (o : Option InCallback) → callback_of n m.handle.in_callbacks ≡ o → Leaves n m (answer_callback setup m v o)
unfolding answer_callback submit_effect
answer_leaves setup n m v None there = refl
answer_leaves setup n m verdict.Stop (Some x) there = (x, there, refl)
answer_leaves setup n m verdict.Again (Some x) there = submit_leaves setup n m x _ _ _ there
answer_leaves setup n m (verdict.AgainWith bytes) (Some x) there = submit_leaves setup n m x _ _ _ there

-- the first of a number has this number
first_number : (n : ℕ) (xs : List InCallback) (x : InCallback) → callback_of n xs ≡ Some x → x.n ≡ n
unfolding callback_of
first_number n [] x there = absurd cc
first_number n (y ∷ ys) x there = by_test (y.n == n) refl there (first_number n ys x)
  where
    by_test : (b : Bool) → (y.n == n) ≡ b → (if b then Some y else callback_of n ys) ≡ Some x → (callback_of n ys ≡ Some x → x.n ≡ n) → x.n ≡ n
    by_test true is e rest = let same : y ≡ x = cc in ap (λ z. z.n) (sym same) ∙ eqb-true y.n n is
    by_test false is e rest = rest e

-- without the callbacks of one number the others are as before
callback_without : (n m : ℕ) (xs : List InCallback) → callback_of m (without n xs) ≡ (if n == m then None else callback_of m xs)
unfolding callback_of without
callback_without n m [] = by_test (n == m)
  where
    by_test : (b : Bool) → ◌≡◌ {A = Option InCallback} None (if b then None else None)
    by_test true = refl
    by_test false = refl
callback_without n m (x ∷ xs) = by_first (x.n == n) refl (callback_without n m xs)
  where
    dropped : (b c : Bool) → b ≡ c → callback_of m (without n xs) ≡ (if b then None else callback_of m xs) → callback_of m (without n xs) ≡ (if b then None else (if c then Some x else callback_of m xs))
    dropped true c same e = e
    dropped false true same e = absurd cc
    dropped false false same e = e

    stays_there : (b c : Bool) → (b ≡ true → c ≡ true → ⊥) → callback_of m (without n xs) ≡ (if b then None else callback_of m xs)
        → (if c then Some x else callback_of m (without n xs)) ≡ (if b then None else (if c then Some x else callback_of m xs))
    stays_there true true differ e = absurd (differ refl refl)
    stays_there false true differ e = refl
    stays_there true false differ e = e
    stays_there false false differ e = e

    by_first : (b : Bool) → (x.n == n) ≡ b → callback_of m (without n xs) ≡ (if n == m then None else callback_of m xs) → callback_of m (if b then without n xs else x ∷ without n xs) ≡ (if n == m then None else (if x.n == m then Some x else callback_of m xs))
    by_first true is rest = dropped (n == m) (x.n == m) (ap (λ k. k == m) (sym (eqb-true x.n n is))) rest
    by_first false is rest = stays_there (n == m) (x.n == m) (λ a b. eqb-false x.n n is (eqb-true x.n m b ∙ sym (eqb-true n m a))) rest

-- what a verdict makes of all callbacks
answer_ends : (setup : Setup) (w : World) (h n : ℕ) (v : Verdict) → AnswerEnds (ends_callback (turn setup w (Answer h n v)).entry.reply) h n w (turn setup w (Answer h n v)).world
unfolding effect answer_effect
answer_ends setup w h n v = subst (λ r. AnswerEnds (ends_callback r) h n w after) (sym (ap (λ x. x.reply) own.1)) (by_ends (ends_callback done.reply) (answer_leaves setup n m v (callback_of n m.handle.in_callbacks) refl))
  where
    m : Machine
    m = machine_of setup h w

    done : Effect
    done = effect_to setup h w (Answer h n v)

    after : World
    after = (turn setup w (Answer h n v)).world

    own : IsOwnTurn setup h w (Answer h n v) (turn setup w (Answer h n v))
    own = answer_own setup h w n v

    elsewhere : (g k : ℕ) → (h == g) ≡ false → callback_at after g k ≡ callback_at w g k
    elsewhere g k differ = other_callbacks setup g k w (Answer h n v) (turn setup w (Answer h n v)) (answer_others setup h g w n v differ)

    here : (k : ℕ) → callback_at after h k ≡ callback_of k done.handle.in_callbacks
    here k = own_callbacks setup h k w (Answer h n v) (turn setup w (Answer h n v)) own

    untouched : Untouched m done.handle → (g k : ℕ) (b : Bool) → (h == g) ≡ b → callback_at after g k ≡ callback_at w g k
    untouched same g k true is = subst (λ f. callback_at after f k ≡ callback_at w f k) (eqb-true h g is) (here k ∙ (ap (callback_of k) same ∙ machine_callbacks setup h k w))
    untouched same g k false is = elsewhere g k is

    left_out : (x : InCallback) → callback_of n m.handle.in_callbacks ≡ Some x → done.handle.in_callbacks ≡ without x.n m.handle.in_callbacks → (k : ℕ) → callback_at after h k ≡ (if n == k then None else callback_at w h k)
    left_out x there left k =
        here k ∙ (ap (callback_of k) left ∙ (callback_without x.n k m.handle.in_callbacks
        ∙ (ap (λ i. if i == k then None else callback_of k m.handle.in_callbacks) (first_number n m.handle.in_callbacks x there) ∙ ap (λ o. if n == k then None else o) (machine_callbacks setup h k w))))

    ended : (x : InCallback) → callback_of n m.handle.in_callbacks ≡ Some x → done.handle.in_callbacks ≡ without x.n m.handle.in_callbacks → (g k : ℕ) (b : Bool) → (h == g) ≡ b → callback_at after g k ≡ (if b && (n == k) then None else callback_at w g k)
    ended x there left g k true is = subst (λ f. callback_at after f k ≡ (if n == k then None else callback_at w f k)) (eqb-true h g is) (left_out x there left k)
    ended x there left g k false is = elsewhere g k is

    by_ends : (b : Bool) → AnswerLeaves b n m done.handle → AnswerEnds b h n w after
    by_ends true (x, there, left) = λ g k. ended x there left g k (h == g) refl
    by_ends false same = λ g k. untouched same g k (h == g) refl

-- the last of a list is found where none before it has its number
callback_last : (n : ℕ) (xs : List InCallback) (y : InCallback) → callback_of n xs ≡ None → y.n ≡ n → callback_of n (xs ++ y ∷ []) ≡ Some y
unfolding callback_of
callback_last n [] y none is = rw (is, same_name n) refl
callback_last n (x ∷ xs) y none is = by_test (x.n == n) none (callback_last n xs y)
  where
    by_test : (b : Bool) → (if b then Some x else callback_of n xs) ≡ None → (callback_of n xs ≡ None → y.n ≡ n → callback_of n (xs ++ y ∷ []) ≡ Some y) → (if b then Some x else callback_of n (xs ++ y ∷ [])) ≡ Some y
    by_test true e rest = absurd cc
    by_test false e rest = rest e is

-- and changes nothing for another number
callback_before : (n : ℕ) (xs : List InCallback) (y : InCallback) → (y.n == n) ≡ false → callback_of n (xs ++ y ∷ []) ≡ callback_of n xs
unfolding callback_of
callback_before n [] y differ = rw differ refl
callback_before n (x ∷ xs) y differ = ap (λ o. if x.n == n then Some x else o) (callback_before n xs y differ)

-- the number of a result that waits is in no callback
waits_uncalled : (m : Machine) (called : List ℕ) (x : TransferResult) (xs : List TransferResult) → IsPlaced m called → m.results ≡ x ∷ xs → callback_of x.n m.handle.in_callbacks ≡ None
waits_uncalled m called x xs placed is = no_callback x.n m.handle.in_callbacks (by_order (cases_lt x.n m.handle.next_number))
  where
    waits : times x.n (map (λ (r : TransferResult). r.n) m.results) ≡ 1 + times x.n (map (λ (r : TransferResult). r.n) xs)
    waits = ap (λ l. times x.n (map (λ (r : TransferResult). r.n) l)) is ∙ times_here x.n x.n (map (λ (r : TransferResult). r.n) xs) refl

    in_one : InOnePlace x.n m called → times x.n (map (λ (y : InCallback). y.n) m.handle.in_callbacks) ≡ 0
    in_one p = omega (arith, p.once, p.in_callback, waits)

    by_order : (x.n < m.handle.next_number) ⊎ (m.handle.next_number ≤ x.n) → times x.n (map (λ (y : InCallback). y.n) m.handle.in_callbacks) ≡ 0
    by_order (inl lt) = in_one (placed.given x.n lt)
    by_order (inr le) = (placed.not_given x.n le).in_no_callback

-- a Take of the name that has the first result
owned_take : (setup : Setup) (w : World) → IsReached setup w → (g : ℕ) → first_name w.results ≡ Some g → TakeCalls (turn setup w Take).entry.reply w (turn setup w Take).world
unfolding turn effect take_effect
owned_take setup w reached g its = subst (λ r. TakeCalls r w after) (sym (ap (λ x. x.reply) own.1)) (by_results m.results refl)
  where
    m : Machine
    m = machine_of setup g w

    done : Effect
    done = effect_to setup g w Take

    after : World
    after = (turn setup w Take).world

    own : IsOwnTurn setup g w Take (turn setup w Take)
    own = subst (λ o. IsOwnTurn setup g w Take (turn_by setup o w Take)) (sym its) (subst (IsOwnTurn setup g w Take) (sym (turn_free setup g w Take (gentle_else setup g w m Take refl))) (free_own setup g w Take its))

    same_some : (a b : ℕ) → ◌≡◌ {A = Option ℕ} (Some a) (Some b) → a ≡ b
    same_some a b e = cc

    elsewhere : (h n : ℕ) → (g == h) ≡ false → callback_at after h n ≡ callback_at w h n
    elsewhere h n differ = by_turn (turn_to setup h w Take)
      where
        by_turn : IsEither setup h w Take (turn setup w Take) → callback_at after h n ≡ callback_at w h n
        by_turn (inl o) = absurd (eqb-false g h differ (same_some g h (sym its ∙ o.0 refl)))
        by_turn (inr none) = other_callbacks setup h n w Take (turn setup w Take) none

    here : (n : ℕ) → callback_at after g n ≡ callback_of n (take_effect g m m.results).handle.in_callbacks
    here n = own_callbacks setup g n w Take (turn setup w Take) own

    by_results : (rs : List TransferResult) → m.results ≡ rs → TakeCalls (take_effect g m m.results).reply w after
    by_results [] is = subst (λ l. TakeCalls (take_effect g m l).reply w after) (sym is) (λ h n. idle h n (g == h) refl)
      where
        idle : (h n : ℕ) (b : Bool) → (g == h) ≡ b → callback_at after h n ≡ callback_at w h n
        idle h n true same = subst (λ f. callback_at after f n ≡ callback_at w f n) (eqb-true g h same) (here n ∙ (ap (λ l. callback_of n (take_effect g m l).handle.in_callbacks) is ∙ machine_callbacks setup g n w))
        idle h n false differ = elsewhere h n differ
    by_results (x ∷ xs) is = subst (λ l. TakeCalls (take_effect g m l).reply w after) (sym is) (record {
      its = (y, new x.n ∙ callback_last x.n m.handle.in_callbacks y (waits_uncalled m (numbers_called (entries setup reached.0 g)) x xs (kept setup w reached g).placed is) refl, (refl, refl));
      others = λ h n. other h n (g == h) refl;
    })
      where
        y : InCallback
        y = record { n = x.n; request = x.request; round = x.round; status = x.status }

        new : (n : ℕ) → callback_at after g n ≡ callback_of n (m.handle.in_callbacks ++ y ∷ [])
        new n = here n ∙ ap (λ l. callback_of n (take_effect g m l).handle.in_callbacks) is

        other : (h n : ℕ) (b : Bool) → (g == h) ≡ b → (b && (x.n == n)) ≡ false → callback_at after h n ≡ callback_at w h n
        other h n true same differ = subst (λ f. callback_at after f n ≡ callback_at w f n) (eqb-true g h same) (new n ∙ (callback_before n m.handle.in_callbacks y differ ∙ machine_callbacks setup g n w))
        other h n false same differ = elsewhere h n same

-- what a Take makes of all callbacks
take_calls : (setup : Setup) (w : World) → IsReached setup w → TakeCalls (turn setup w Take).entry.reply w (turn setup w Take).world
unfolding turn turn_of_nobody
take_calls setup w reached = by_owner (first_name w.results) refl
  where
    Calls : Turn → Type 0
    Calls t = TakeCalls t.entry.reply w t.world

    nobodys : Calls (turn_of_nobody setup w Take)
    nobodys = λ h n. refl

    by_owner : (o : Option ℕ) → first_name w.results ≡ o → Calls (turn_by setup (first_name w.results) w Take)
    by_owner None none = subst (λ o. Calls (turn_by setup o w Take)) (sym none) nobodys
    by_owner (Some g) its = owned_take setup w reached g its

-- in every world that a run leads to
pub keeps_callbacks : (setup : Setup) (w : World) → IsReached setup w → KeepsCallbacks setup w
keeps_callbacks setup w reached = record {
  takes = take_calls setup w reached;
  answers = answer_ends setup w;
  others = others_untouched setup w reached;
  fresh = fresh setup w reached;
}
