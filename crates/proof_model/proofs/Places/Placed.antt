-- Each number that was given is in one place, and no other in any: of a machine, and of the numbers that were called back.
use Rattle.std.proofs.Common.{Bool, List, None, Option, Some, [], ap, append-nil, arith, false, inl, inr, map, refl, subst, sym, true, ℕ, ◌++◌, ◌+◌, ◌<◌, ◌==◌, ◌∙◌, ◌∷◌, ◌≡◌, ◌≤◌}
use Rattle.std.specs.Prelude.{if◌then◌else◌}
use Rattle.std.proofs.lemmas.Bool.{eqb-false, eqb-true}
use Rattle.std.proofs.lemmas.List.{map-append}
use Rattle.usb_model.specs.declared.endpoint.Endpoint.{Endpoint}
use Rattle.usb_model.specs.declared.handle.Handle.{Handle}
use Rattle.usb_model.specs.declared.result.InCallback.{InCallback}
use Rattle.usb_model.specs.declared.result.TransferResult.{TransferResult}
use Rattle.usb_model.specs.declared.reply.Reply.{Reply}
use Rattle.usb_model.specs.declared.request.Request.{Request}
use Rattle.usb_model.specs.declared.step.Step.TheVariants.{Take}
use Rattle.usb_model.specs.declared.step.Step.{Step}
use Rattle.usb_model.specs.Machine.Calls.{submitted, without}
use Rattle.usb_model.specs.Laws.Cut.{times}
use Rattle.usb_model.specs.declared.endpoint_effect.EndpointEffect.{EndpointEffect}
use Rattle.usb_model.specs.Endpoint.{fresh, live_numbers}
use Rattle.usb_model.specs.declared.effect.Effect.{Effect}
use Rattle.usb_model.specs.Machine.{Machine, device_of, at_endpoint, endpoint_at, is_gone, says}
use Rattle.usb_model.specs.Laws.Places.{InNoPlace, InOnePlace, call_of, numbers_at}
use Rattle.usb_model.specs.Setup.{Setup, packet_size_of}
use Rattle.usb_model.specs.World.Shared.{past_first}
use Rattle.usb_model.specs.Machine.Turns.{machine_after, take_effect, takes_result}
use Rattle.proof_model.proofs.Machines.Acts.{IsNewOrGone, Rests, Stays, end_set, rests_at, works_elsewhere}
use Rattle.proof_model.proofs.Machines.Deeds.{IsBare, IsDone, IsRest, IsSubmission, IsWork, again, again_with, anew, asks_it, cancels, claims, claims_again, cleared, clears, closes, commands, delivers, expires, idles, line_at, only_rests, opens, refuses, releases, resets, serves, stays, stops, submits, takes, unplugs, works}
use Rattle.usb_model.specs.Fitness.{IsWell, errands_of}
use Rattle.proof_model.proofs.Places.Exact.{IsExact, exact_ask, exact_command, exact_deliver, exact_if_same, exact_serve}
use Rattle.proof_model.proofs.Machines.Well.{first_news, fit_at}
use Rattle.usb_model.specs.Coherence.{IsCoherent}
use Rattle.proof_model.proofs.Work.Lines.{lives-push, result_numbers}
use Rattle.proof_model.proofs.Work.Moves.{lives_at}
use Rattle.proof_model.proofs.Work.StepMoves.{moves}
use Rattle.proof_model.proofs.Lists.Pieces.{either_way}
use Rattle.proof_model.proofs.Work.Replies.{asks_told, command_told, deliver_told, serve_told, told_plain}
use Rattle.proof_model.proofs.Lists.Times.{times-append, times-cons, times_none, times_one}

-- the numbers of those in callbacks
abbrev pub callback_numbers : List InCallback → List ℕ
callback_numbers xs = map (λ x. x.n) xs

-- each number that was given is in one place, and none that was not
pub record IsPlaced (m : Machine) (called : List ℕ) : Type 0 where
  pub given : (n : ℕ) → n < m.handle.next_number → InOnePlace n m called
  pub not_given : (n : ℕ) → m.handle.next_number ≤ n → InNoPlace n m called

-- a number may pass on from one endpoint
pub record Passes (n : ℕ) (m m' : Machine) (called called' : List ℕ) : Type 0 where
  pub from : ℕ
  pub once : times n called' + (times n (result_numbers m'.results) + times n (lives_at m' from)) ≡ times n called + (times n (result_numbers m.results) + times n (lives_at m from))
  pub others : (ep : ℕ) → (from == ep) ≡ false → times n (lives_at m' ep) ≡ times n (lives_at m ep)
  pub onward : times n called + times n (result_numbers m.results) ≤ times n called' + times n (result_numbers m'.results)
  pub in_callbacks : times n (callback_numbers m'.handle.in_callbacks) + times n called ≤ times n (callback_numbers m.handle.in_callbacks) + times n called'

-- it stays in one place
one_place_kept : (n : ℕ) (m m' : Machine) (called called' : List ℕ) → Passes n m m' called called' → InOnePlace n m called → InOnePlace n m' called'
one_place_kept n m m' called called' move p = by_home (move.from == p.home) refl
  where
    by_home : (b : Bool) → (move.from == p.home) ≡ b → InOnePlace n m' called'
    by_home true is =
        let same : move.from ≡ p.home = eqb-true move.from p.home is in
        record {
          home = p.home;
          once = subst (λ k. times n called' + (times n (result_numbers m'.results) + times n (lives_at m' k)) ≡ times n called + (times n (result_numbers m.results) + times n (lives_at m k))) same move.once ∙ p.once;
          nowhere_else = λ ep other. move.others ep (subst (λ k. (k == ep) ≡ false) (sym same) other) ∙ p.nowhere_else ep other;
          in_callback = omega (arith, move.in_callbacks, p.in_callback);
        }
    by_home false other =
        let none : times n (lives_at m move.from) ≡ 0 = p.nowhere_else move.from (either_way p.home move.from ∙ other) in
        let none_now : times n (lives_at m' move.from) ≡ 0 = omega (arith, move.once, move.onward, none) in
        let here : times n (lives_at m' p.home) ≡ times n (lives_at m p.home) = move.others p.home other in
        record {
          home = p.home;
          once = omega (arith, move.once, none, none_now, here, p.once);
          nowhere_else = λ ep elsewhere. by_from ep elsewhere none_now (move.from == ep) refl;
          in_callback = omega (arith, move.in_callbacks, p.in_callback);
        }
      where
        by_from : (ep : ℕ) → (p.home == ep) ≡ false → times n (lives_at m' move.from) ≡ 0 → (b : Bool) → (move.from == ep) ≡ b → times n (lives_at m' ep) ≡ 0
        by_from ep elsewhere none_now true same = subst (λ k. times n (lives_at m' k) ≡ 0) (eqb-true move.from ep same) none_now
        by_from ep elsewhere none_now false differ = move.others ep differ ∙ p.nowhere_else ep elsewhere

-- or in none
no_place_kept : (n : ℕ) (m m' : Machine) (called called' : List ℕ) → Passes n m m' called called' → InNoPlace n m called → InNoPlace n m' called'
no_place_kept n m m' called called' move p =
    let gone : times n called' + (times n (result_numbers m'.results) + times n (lives_at m' move.from)) ≡ 0 = omega (arith, move.once, p.uncalled, p.no_result, p.not_in_progress move.from) in
    record {
      uncalled = omega (arith, gone);
      no_result = omega (arith, gone);
      not_in_progress = λ ep. by_from ep (omega (arith, gone)) (move.from == ep) refl;
      in_no_callback = omega (arith, gone, move.in_callbacks, p.uncalled, p.in_no_callback);
    }
  where
    by_from : (ep : ℕ) → times n (lives_at m' move.from) ≡ 0 → (b : Bool) → (move.from == ep) ≡ b → times n (lives_at m' ep) ≡ 0
    by_from ep none true same = subst (λ k. times n (lives_at m' k) ≡ 0) (eqb-true move.from ep same) none
    by_from ep none false differ = move.others ep differ ∙ p.not_in_progress ep

-- a step that moves each number, and gives none, keeps the places
placed_if_moves : (m m' : Machine) (called called' : List ℕ) → m'.handle.next_number ≡ m.handle.next_number → ((n : ℕ) → Passes n m m' called called') → IsPlaced m called → IsPlaced m' called'
placed_if_moves m m' called called' same moves p = record {
  given = λ n lt. one_place_kept n m m' called called' (moves n) (p.given n (omega (arith, lt, same)));
  not_given = λ n le. no_place_kept n m m' called called' (moves n) (p.not_given n (omega (arith, le, same)));
}

-- a number is given: it is in progress at its endpoint
placed_if_submits : (m m' : Machine) (called : List ℕ) (ep : ℕ) → m'.handle.next_number ≡ m.handle.next_number + 1 → m'.results ≡ m.results → lives_at m' ep ≡ lives_at m ep ++ m.handle.next_number ∷ []
    → ((at : ℕ) → (ep == at) ≡ false → lives_at m' at ≡ lives_at m at) → ((n : ℕ) → times n (callback_numbers m'.handle.in_callbacks) ≤ times n (callback_numbers m.handle.in_callbacks)) → IsPlaced m called → IsPlaced m' called
placed_if_submits m m' called ep next results here others fewer p = record {
  given = λ n lt. by_number n (m.handle.next_number == n) refl (omega (arith, lt, next));
  not_given = λ n le. no_place_kept n m m' called called (moves n (λ q. omega (arith, q, le, next))) (p.not_given n (omega (arith, le, next)));
}
  where
    times_here : (n : ℕ) → times n (lives_at m' ep) ≡ times n (lives_at m ep) + times n (m.handle.next_number ∷ [])
    times_here n = ap (times n) here ∙ times-append n (lives_at m ep) (m.handle.next_number ∷ [])

    moves : (n : ℕ) → (m.handle.next_number ≡ n → ⊥) → Passes n m m' called called
    moves n differ = record {
      from = ep;
      once = rw results (omega (arith, times_here n, times_none n m.handle.next_number differ));
      others = λ at other. ap (times n) (others at other);
      onward = rw results (omega arith);
      in_callbacks = omega (arith, fewer n);
    }

    new : (n : ℕ) → m.handle.next_number ≡ n → InNoPlace n m called → InOnePlace n m' called
    new n same none = record {
      home = ep;
      once = rw results (omega (arith, none.uncalled, none.no_result, times_here n, none.not_in_progress ep, times_one n m.handle.next_number same));
      nowhere_else = λ at other. ap (times n) (others at other) ∙ none.not_in_progress at;
      in_callback = omega (arith, fewer n, none.in_no_callback);
    }

    by_number : (n : ℕ) (b : Bool) → (m.handle.next_number == n) ≡ b → n < m.handle.next_number + 1 → InOnePlace n m' called
    by_number n true is lt = let same : m.handle.next_number ≡ n = eqb-true m.handle.next_number n is in new n same (p.not_given n (omega (arith, same)))
    by_number n false other lt =
        let differ : m.handle.next_number ≡ n → ⊥ = eqb-false m.handle.next_number n other in
        one_place_kept n m m' called called (moves n differ) (p.given n (omega (arith, lt, differ)))

-- an empty line has none in progress
pub none_idle : (o : Option Endpoint) → line_at o ≡ [] → numbers_at o ≡ []
unfolding live_numbers
none_idle None e = refl
none_idle (Some x) e = rw e refl

-- a new endpoint has no numbers
none_new : (setup : Setup) (ep : ℕ) (o : Option Endpoint) → IsNewOrGone setup ep o → numbers_at o ≡ []
unfolding live_numbers fresh
none_new setup ep o (inl e) = rw e refl
none_new setup ep o (inr e) = rw e.1 refl

-- where no work is done, the numbers in progress stay
pub lives_rest : (setup : Setup) (ep : ℕ) (m m' : Machine) (step : Step) → Rests setup ep m m' step → lives_at m' ep ≡ lives_at m ep
lives_rest setup ep m m' step (inl s) = ap numbers_at s.end
lives_rest setup ep m m' step (inr r) = none_new setup ep (endpoint_at m' ep) r.end ∙ sym (none_idle (endpoint_at m ep) r.idle.no_line)

-- a step that makes no result and calls nobody
placed_rests : (setup : Setup) (m m' : Machine) (step : Step) (called : List ℕ) → m'.handle.next_number ≡ m.handle.next_number → m'.results ≡ m.results → ((n : ℕ) → times n (callback_numbers m'.handle.in_callbacks) ≤ times n (callback_numbers m.handle.in_callbacks))
    → ((ep : ℕ) → Rests setup ep m m' step) → IsPlaced m called → IsPlaced m' called
placed_rests setup m m' step called next results fewer rests p = placed_if_moves m m' called called next
    (λ n. record {
      from = 0;
      once = rw (results, lives_rest setup 0 m m' step (rests 0)) refl;
      others = λ ep other. ap (times n) (lives_rest setup ep m m' step (rests ep));
      onward = rw results (omega arith);
      in_callbacks = omega (arith, fewer n);
    })
    p

-- one that takes a result out to its callback
placed_takes : (setup : Setup) (m m' : Machine) (step : Step) (called : List ℕ) (x : TransferResult) → m'.handle.next_number ≡ m.handle.next_number → m.results ≡ x ∷ m'.results → callback_numbers m'.handle.in_callbacks ≡ callback_numbers m.handle.in_callbacks ++ x.n ∷ []
    → ((ep : ℕ) → Rests setup ep m m' step) → IsPlaced m called → IsPlaced m' (called ++ x.n ∷ [])
placed_takes setup m m' step called x next results out rests p = placed_if_moves m m' called (called ++ x.n ∷ []) next
    (λ n. record {
      from = 0;
      once = rw (results, lives_rest setup 0 m m' step (rests 0)) (omega (arith, times-append n called (x.n ∷ []), times-cons n x.n (result_numbers m'.results), times-cons n x.n []));
      others = λ ep other. ap (times n) (lives_rest setup ep m m' step (rests ep));
      onward = rw results (omega (arith, times-append n called (x.n ∷ []), times-cons n x.n (result_numbers m'.results), times-cons n x.n []));
      in_callbacks = rw out (omega (arith, times-append n called (x.n ∷ []), times-append n (callback_numbers m.handle.in_callbacks) (x.n ∷ [])));
    })
    p

-- one that works at an endpoint
placed_works : (setup : Setup) (m m' : Machine) (step : Step) (called : List ℕ) (ep : ℕ) (e : Endpoint) (d : EndpointEffect) → m'.handle.next_number ≡ m.handle.next_number → m'.results ≡ m.results ++ d.results → m'.handle.in_callbacks ≡ m.handle.in_callbacks → endpoint_at m ep ≡ Some e → endpoint_at m' ep ≡ Some d.endpoint
    → ((at : ℕ) → (ep == at) ≡ false → Stays at m m' step) → IsExact e d → IsPlaced m called → IsPlaced m' called
placed_works setup m m' step called ep e d next results out here there others is p = placed_if_moves m m' called called next
    (λ n. record {
      from = ep;
      once = rw (results, here, there) (omega (arith, is.exact n, joined n));
      others = λ at other. ap (λ o. times n (numbers_at o)) (others at other).end;
      onward = rw results (omega (arith, joined n));
      in_callbacks = rw out (omega arith);
    })
    p
  where
    joined : (n : ℕ) → times n (result_numbers (m.results ++ d.results)) ≡ times n (result_numbers m.results) + times n (result_numbers d.results)
    joined n = ap (times n) (map-append (λ x. x.n) m.results d.results) ∙ times-append n (result_numbers m.results) (result_numbers d.results)

-- a callback that ends leaves no more of its number
without_fewer : (n k : ℕ) (xs : List InCallback) → times n (callback_numbers (without k xs)) ≤ times n (callback_numbers xs)
unfolding without
without_fewer n k [] = omega arith
without_fewer n k (x ∷ xs) = by_test (x.n == k) (without_fewer n k xs)
  where
    by_test : (b : Bool) → times n (callback_numbers (without k xs)) ≤ times n (callback_numbers xs) → times n (callback_numbers (if b then without k xs else x ∷ without k xs)) ≤ times n (callback_numbers (x ∷ xs))
    by_test true rest = omega (arith, rest, times-cons n x.n (callback_numbers xs))
    by_test false rest = omega (arith, rest, times-cons n x.n (callback_numbers xs), times-cons n x.n (callback_numbers (without k xs)))

-- a submission takes no callback's number twice
submission_out : (handle : Handle) (step : Step) (left : Handle) (request : Request) (round : ℕ) → IsSubmission handle step left request round → (n : ℕ) → times n (callback_numbers left.in_callbacks) ≤ times n (callback_numbers handle.in_callbacks)
submission_out handle step left request round (anew g r) n = omega arith
submission_out handle step left request round (again g k x in_call) n = without_fewer n x.n handle.in_callbacks
submission_out handle step left request round (again_with g k bytes x in_call) n = without_fewer n x.n handle.in_callbacks

-- the numbers that a step's reply calls back
abbrev pub called_by : Reply → List ℕ
called_by r = map (λ x. x.n) (call_of r)

-- a reply without a call calls nothing back
calls_none : (P : List ℕ → Type 0) (called : List ℕ) (r : Reply) → call_of r ≡ [] → P called → P (called ++ called_by r)
calls_none P called r none p = rw (none, append-nil called) p

-- a step that works takes no result
pub takes_no_result : (setup : Setup) (m : Machine) (ep : ℕ) (e : Endpoint) (step : Step) (handle : Handle) (d : EndpointEffect) → IsWork setup m ep e step handle d → takes_result step ≡ false
takes_no_result setup m ep e step handle d (serves dev) = refl
takes_no_result setup m ep e step handle d (commands o os is) = refl
takes_no_result setup m ep e step handle d (delivers event ns is) = refl
takes_no_result setup m ep e step handle d (asks_it n i (cancels g k) here free) = refl
takes_no_result setup m ep e step handle d (asks_it n i (expires g k) here free) = refl
takes_no_result setup m ep e step handle d (submits (anew g r) at fine short) = refl
takes_no_result setup m ep e step handle d (submits (again g k x in_call) at fine short) = refl
takes_no_result setup m ep e step handle d (submits (again_with g k bytes x in_call) at fine short) = refl
takes_no_result setup m ep e step handle d (clears g empty) = refl

-- work that loses no number keeps the places
exact_placed : (setup : Setup) (m : Machine) (step : Step) (d : EndpointEffect) (ep : ℕ) (e : Endpoint) (called : List ℕ) → call_of d.reply ≡ [] → endpoint_at m ep ≡ Some e → IsWork setup m ep e step m.handle d → IsExact e d → IsPlaced m called
    → IsPlaced (machine_after setup m step (at_endpoint m.handle (device_of m) ep d)) (called ++ called_by d.reply)
unfolding machine_after at_endpoint
exact_placed setup m step d ep e called none here work is p =
    let done : Effect = at_endpoint m.handle (device_of m) ep d in
    calls_none (IsPlaced (machine_after setup m step done)) called d.reply none
    (placed_works setup m (machine_after setup m step done) step called ep e d refl (ap (λ b. past_first b m.results ++ d.results) (takes_no_result setup m ep e step m.handle d work)) refl here
    (end_set setup m ep e step m.handle d here work) (works_elsewhere setup m step m.handle d ep e work) is p)

-- a submission places its new number
submission_placed : (setup : Setup) (m : Machine) (step : Step) (left : Handle) (request : Request) (round ep : ℕ) (e : Endpoint) (called : List ℕ) → endpoint_at m ep ≡ Some e → IsSubmission m.handle step left request round
    → IsWork setup m ep e step (record left { next_number = m.handle.next_number + 1 }) (submitted m.handle.next_number request round e) → IsPlaced m called
    → IsPlaced (machine_after setup m step (at_endpoint (record left { next_number = m.handle.next_number + 1 }) (device_of m) ep (submitted m.handle.next_number request round e))) (called ++ [])
unfolding machine_after at_endpoint
submission_placed setup m step left request round ep e called here is work p =
    let handle : Handle = record left { next_number = m.handle.next_number + 1 } in
    let d : EndpointEffect = submitted m.handle.next_number request round e in
    let m' : Machine = machine_after setup m step (at_endpoint handle (device_of m) ep d) in
    rw (append-nil called)
    (placed_if_submits m m' called ep refl (ap (λ b. past_first b m.results ++ []) (takes_no_result setup m ep e step handle d work) ∙ append-nil m.results)
    (ap numbers_at (end_set setup m ep e step handle d here work) ∙ (lives-push e.line m.handle.next_number request round ∙ ap (λ o. numbers_at o ++ m.handle.next_number ∷ []) (sym here)))
    (λ at other. ap numbers_at (works_elsewhere setup m step handle d ep e work at other).end) (submission_out m.handle step left request round is) p)

-- each piece of work keeps the places
work_placed : (setup : Setup) (m : Machine) (ep : ℕ) (e : Endpoint) (step : Step) (handle : Handle) (d : EndpointEffect) (called : List ℕ) → IsWell setup m → endpoint_at m ep ≡ Some e → IsWork setup m ep e step handle d → IsPlaced m called
    → IsPlaced (machine_after setup m step (at_endpoint handle (device_of m) ep d)) (called ++ called_by d.reply)
work_placed setup m ep e step handle d called well here (serves dev) p =
    exact_placed setup m step d ep e called (told_plain d.reply (serve_told (packet_size_of setup (device_of m) ep) (is_gone m) e)).0 here (serves dev) (exact_serve _ _ e) p
work_placed setup m ep e step handle d called well here (commands o os is) p =
    exact_placed setup m step d ep e called (told_plain d.reply (command_told (packet_size_of setup (device_of m) ep) ep e o e.state)).0 here (commands o os is) (exact_command _ ep e o e.state) p
work_placed setup m ep e step handle d called well here (delivers event ns is) p =
    exact_placed setup m step d ep e called (told_plain d.reply (deliver_told (packet_size_of setup (device_of m) ep) ep (is_gone m) e event)).0 here (delivers event ns is)
    (exact_deliver _ ep _ e event _ _ (subst (λ l. IsCoherent e (errands_of ep m.orders) l) (first_news ep event m.news ns is).0 (fit_at setup m ep e well here).coherent)) p
work_placed setup m ep e step handle d called well here (asks_it {ask = ask} n i is at free) p =
    exact_placed setup m step d ep e called (told_plain d.reply (asks_told e n ask)).0 here (asks_it n i is at free) (exact_ask e n ask) p
work_placed setup m ep e step handle d called well here (submits {handle = left} {request = request} {round = round} is at fine short) p =
    submission_placed setup m step left request round ep e called here is (submits is at fine short) p
work_placed setup m ep e step handle d called well here (clears g empty) p =
    exact_placed setup m step d ep e called refl here (clears g empty) (exact_if_same e (cleared e) refl refl) p

-- the reply of a step that does no work, but for Take, calls nothing back
pub bare_calls : (step : Step) (r : Reply) → IsBare step r → call_of r ≡ []
bare_calls step r (refuses why) = refl
bare_calls step r idles = refl
bare_calls step r (unplugs dev) = refl

-- a step that leaves the results, and no more in callbacks
resting_placed : (setup : Setup) (h : ℕ) (m : Machine) (step : Step) (done : Effect) (called : List ℕ) → IsWell setup m → IsRest setup h m step done → call_of done.reply ≡ [] → done.handle.next_number ≡ m.handle.next_number
    → past_first (takes_result step) m.results ++ done.results ≡ m.results → ((n : ℕ) → times n (callback_numbers done.handle.in_callbacks) ≤ times n (callback_numbers m.handle.in_callbacks)) → IsPlaced m called → IsPlaced (machine_after setup m step done) (called ++ called_by done.reply)
unfolding machine_after
resting_placed setup h m step done called well is none next results fewer p =
    calls_none (IsPlaced (machine_after setup m step done)) called done.reply none
    (placed_rests setup m (machine_after setup m step done) step called next results fewer (λ ep. rests_at setup h m step done ep well is) p)

-- a result that is taken goes to what was called back
taking_placed : (setup : Setup) (h : ℕ) (m : Machine) (x : TransferResult) (xs : List TransferResult) (called : List ℕ) → IsWell setup m → m.results ≡ x ∷ xs → IsPlaced m called → IsPlaced (machine_after setup m Take (take_effect h m (x ∷ xs))) (called ++ x.n ∷ [])
unfolding machine_after take_effect
taking_placed setup h m x xs called well is p =
    placed_takes setup m (machine_after setup m Take (take_effect h m (x ∷ xs))) Take called x refl (is ∙ ap (λ l. x ∷ l) (ap (λ l. past_first true l) (sym is) ∙ sym (append-nil (past_first true m.results))))
    (map-append (λ y. y.n) m.handle.in_callbacks (record { n = x.n; request = x.request; round = x.round; status = x.status } ∷ [])) (λ ep. rests_at setup h m Take (take_effect h m (x ∷ xs)) ep well (takes x xs is)) p

-- a step that does no work keeps the places
rest_placed : (setup : Setup) (h : ℕ) (m : Machine) (step : Step) (done : Effect) (called : List ℕ) → IsWell setup m → IsRest setup h m step done → IsPlaced m called → IsPlaced (machine_after setup m step done) (called ++ called_by done.reply)
unfolding take_effect
rest_placed setup h m step done called well (stays {r = r} bare t) p =
    resting_placed setup h m step (says m r) called well (stays bare t) (bare_calls step r bare) refl (ap (λ l. l ++ []) t.results ∙ append-nil m.results) (λ n. omega arith) p
rest_placed setup h m step done called well (claims_again g i) p = resting_placed setup h m _ _ called well (claims_again g i) refl refl (append-nil m.results) (λ n. omega arith) p
rest_placed setup h m step done called well (stops g k x in_call) p = resting_placed setup h m _ _ called well (stops g k x in_call) refl refl (append-nil m.results) (λ n. without_fewer n x.n m.handle.in_callbacks) p
rest_placed setup h m step done called well (opens g dev none) p = resting_placed setup h m _ _ called well (opens g dev none) refl refl (append-nil m.results) (λ n. omega arith) p
rest_placed setup h m step done called well (closes g idle) p = resting_placed setup h m _ _ called well (closes g idle) refl refl (append-nil m.results) (λ n. omega arith) p
rest_placed setup h m step done called well (claims g i opened free) p = resting_placed setup h m _ _ called well (claims g i opened free) refl refl (append-nil m.results) (λ n. omega arith) p
rest_placed setup h m step done called well (releases g i idle) p = resting_placed setup h m _ _ called well (releases g i idle) refl refl (append-nil m.results) (λ n. omega arith) p
rest_placed setup h m step done called well (resets g idle) p = resting_placed setup h m _ _ called well (resets g idle) refl refl (append-nil m.results) (λ n. omega arith) p
rest_placed setup h m step done called well (takes x xs is) p = taking_placed setup h m x xs called well is p

-- each number stays in its place over a step
pub placed_after : (setup : Setup) (h : ℕ) (m : Machine) (step : Step) (done : Effect) (called : List ℕ) → IsWell setup m → IsDone setup h m step done → IsPlaced m called → IsPlaced (machine_after setup m step done) (called ++ called_by done.reply)
unfolding at_endpoint
placed_after setup h m step done called well (only_rests rest) p = rest_placed setup h m step done called well rest p
placed_after setup h m step done called well (works {handle = handle} {d = d} ep e here work) p = work_placed setup m ep e step handle d called well here work p
