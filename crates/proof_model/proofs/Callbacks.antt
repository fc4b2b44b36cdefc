-- Each transfer is called back at most once; at one endpoint, those that were neither cancelled nor timed out in order.
use Rattle.std.proofs.Common.{◌≡◌, ℕ, ◌<◌, ◌≤◌, ◌==◌, arith, Bool, true, false, ◌&&◌, ◌⊎◌, inl, inr, List, [], ◌∷◌, ◌++◌, map, refl, ap, sym, ◌∙◌, subst, append-nil, append_assoc}
use Rattle.std.specs.Prelude.{if◌then◌else◌}
use Rattle.std.specs.List.{AllByRecursion, filter}
use Rattle.std.proofs.lemmas.Bool.{cases_lt, eqb-true}
use Rattle.std.proofs.lemmas.List.{map-append}
use Rattle.std.proofs.lemmas.List.Elements.{filter-append}
use Rattle.usb_model.specs.declared.reply.Reply.{Reply}
use Rattle.usb_model.specs.declared.reply.Returned.{Returned}
use Rattle.usb_model.specs.declared.step.Step.{Step}
use Rattle.usb_model.specs.declared.result.TransferResult.{TransferResult}
use Rattle.usb_model.specs.Setup.{Setup}
use Rattle.usb_model.specs.Endpoint.Status.{is_uncut}
use Rattle.usb_model.specs.Machine.{Machine, new_machine}
use Rattle.usb_model.specs.Machine.Turns.{alone_from, alone, effect, machine_after}
use Rattle.usb_model.specs.World.Journal.{entries, own}
use Rattle.usb_model.specs.Laws.Cut.{times}
use Rattle.usb_model.specs.Laws.Places.{KeepsPlaces, call_of, calls, numbers_called}
use Rattle.usb_model.specs.World.{machine_of, new_world, world_from}
use Rattle.proof_model.proofs.Places.Runs.{keeps_places}
use Rattle.proof_model.proofs.Lists.Pieces.{same_name}
use Rattle.proof_model.proofs.Handles.Isolation.{sees_alone}
use Rattle.proof_model.proofs.Lists.Parts.{each_append, each_behind, each_front, each_part, IsPart, part_behind, part_map, part_filter}
use Rattle.proof_model.proofs.Work.Lines.{Key, uncut_keys}
use Rattle.proof_model.proofs.Work.Moves.{keys_at, told, DoesWork, Submits, Takes, Moves}
use Rattle.proof_model.proofs.Work.StepMoves.{moves}
use Rattle.usb_model.specs.Laws.Callbacks.{CallsInOrder, CallsOnce, uncut_numbers}
use Rattle.proof_model.proofs.Lists.Rises.{AllBelow, Rises, increasing, part_rises, below_more, below_up, rises_more, rises_front}

-- the machine after a step of its own
abbrev next_machine : Setup → ℕ → Machine → Step → Machine
next_machine setup h m step = machine_after setup m step (effect setup h m step)

-- and what it replies
abbrev reply_to : Setup → ℕ → Machine → Step → Reply
reply_to setup h m step = (effect setup h m step).reply

-- the numbers of the transfers at this endpoint
abbrev numbers_for : ℕ → List Key → List ℕ
numbers_for ep ks = map (λ k. k.n) (filter (λ k. k.ep == ep) ks)

-- of two lists together
numbers_for-append : (ep : ℕ) (xs ys : List Key) → numbers_for ep (xs ++ ys) ≡ numbers_for ep xs ++ numbers_for ep ys
numbers_for-append ep xs ys = ap (map (λ k. k.n)) (filter-append (λ k. k.ep == ep) xs ys) ∙ map-append (λ k. k.n) (filter (λ k. k.ep == ep) xs) (filter (λ k. k.ep == ep) ys)

-- of a part
numbers_for_part : (ep : ℕ) {xs ys : List Key} → IsPart xs ys → IsPart (numbers_for ep xs) (numbers_for ep ys)
numbers_for_part ep p = part_map (λ k. k.n) (part_filter (λ k. k.ep == ep) p)

-- each transfer is one of this endpoint
abbrev AreAt : ℕ → List Key → Type 0
AreAt ep ks = AllByRecursion (λ k. k.ep ≡ ep) ks

-- with one more of the endpoint
are_at_more : (ep n : ℕ) (xs : List Key) → AreAt ep xs → AreAt ep (xs ++ record { n = n; ep = ep } ∷ [])
are_at_more ep n xs a = each_append (λ k. k.ep ≡ ep) xs (record { n = n; ep = ep } ∷ []) a (refl, tt)

-- then none is one of another
none_for : (at ep : ℕ) (xs : List Key) → (at == ep) ≡ false → AreAt at xs → numbers_for ep xs ≡ []
none_for at ep [] differ a = refl
none_for at ep (x ∷ xs) differ a = rw (a.0, differ) (none_for at ep xs differ a.1)

-- the transfers in progress at an endpoint are those of the endpoint
abbrev ArePlaced : Machine → Type 0
ArePlaced m = (at : ℕ) → AreAt at (keys_at m at)

-- every step keeps them there
placed_kept : (h : ℕ) (m m' : Machine) (reply : Reply) → ArePlaced m → Moves h m m' reply → ArePlaced m'
placed_kept h m m' reply placed (inl w) at = by_test (w.ep == at) refl
  where
    by_test : (b : Bool) → (w.ep == at) ≡ b → AreAt at (keys_at m' at)
    by_test true e = subst (λ k. AreAt k (keys_at m' k)) (eqb-true w.ep at e) (each_behind (λ k. k.ep ≡ w.ep) (uncut_keys w.made) (keys_at m' w.ep) (each_part (λ k. k.ep ≡ w.ep) w.ordered_at (placed w.ep)))
    by_test false e = each_part (λ k. k.ep ≡ at) (w.others at e) (placed at)
placed_kept h m m' reply placed (inr (inl s)) at = by_test (s.ep == at) refl
  where
    by_test : (b : Bool) → (s.ep == at) ≡ b → AreAt at (keys_at m' at)
    by_test true e = subst (λ k. AreAt k (keys_at m' k)) (eqb-true s.ep at e) (rw s.key_here (are_at_more s.ep m.handle.next_number (keys_at m s.ep) (placed s.ep)))
    by_test false e = rw (s.others at e) (placed at)
placed_kept h m m' reply placed (inr (inr t)) at = rw (t.others at) (placed at)

-- the numbers that are to be called back at an endpoint, if none is cut
abbrev coming : ℕ → Machine → List ℕ
coming ep m = numbers_for ep (uncut_keys m.results) ++ numbers_for ep (keys_at m ep)

-- those that were called back until now, and those to come, rise
record IsOrdered (ep : ℕ) (called : List ℕ) (m : Machine) : Type 0 where
  rises : Rises (called ++ coming ep m)
  below : AllBelow m.handle.next_number (called ++ coming ep m)

-- the calls of a reply
abbrev called_now : ℕ → Reply → List ℕ
called_now ep reply = uncut_numbers ep (call_of reply)

-- of two lists of results together
uncut_keys-append : (xs ys : List TransferResult) → uncut_keys (xs ++ ys) ≡ uncut_keys xs ++ uncut_keys ys
uncut_keys-append xs ys =
    ap (map (λ x. record { n = x.n; ep = x.request.ep })) (filter-append (λ x. is_uncut x.status) xs ys)
    ∙ map-append (λ x. record { n = x.n; ep = x.request.ep }) (filter (λ x. is_uncut x.status) xs) (filter (λ x. is_uncut x.status) ys)

-- work leaves a part of what is to come
work_coming : (ep : ℕ) (m m' : Machine) (reply : Reply) → ArePlaced m → DoesWork m m' reply → IsPart (coming ep m') (coming ep m)
work_coming ep m m' reply placed w = by_test (w.ep == ep) refl
  where
    waiting : List ℕ
    waiting = numbers_for ep (uncut_keys m.results)

    results : numbers_for ep (uncut_keys m'.results) ≡ waiting ++ numbers_for ep (uncut_keys w.made)
    results = ap (λ l. numbers_for ep (uncut_keys l)) w.results
        ∙ (ap (numbers_for ep) (uncut_keys-append m.results w.made) ∙ numbers_for-append ep (uncut_keys m.results) (uncut_keys w.made))

    split : coming ep m' ≡ waiting ++ (numbers_for ep (uncut_keys w.made) ++ numbers_for ep (keys_at m' ep))
    split = ap (λ l. l ++ numbers_for ep (keys_at m' ep)) results ∙ append_assoc waiting (numbers_for ep (uncut_keys w.made)) (numbers_for ep (keys_at m' ep))

    made_elsewhere : (w.ep == ep) ≡ false → numbers_for ep (uncut_keys w.made) ≡ []
    made_elsewhere e = none_for w.ep ep (uncut_keys w.made) e (each_front (λ k. k.ep ≡ w.ep) (uncut_keys w.made) (keys_at m' w.ep) (each_part (λ k. k.ep ≡ w.ep) w.ordered_at (placed w.ep)))

    by_test : (b : Bool) → (w.ep == ep) ≡ b → IsPart (coming ep m') (coming ep m)
    by_test true e =
        rw (split, sym (numbers_for-append ep (uncut_keys w.made) (keys_at m' ep)))
        (part_behind waiting (subst (λ k. IsPart (numbers_for ep (uncut_keys w.made ++ keys_at m' k)) (numbers_for ep (keys_at m k))) (eqb-true w.ep ep e) (numbers_for_part ep w.ordered_at)))
    by_test false e = rw (split, made_elsewhere e) (part_behind waiting (numbers_for_part ep (w.others ep e)))

-- a submission is to come behind all, at its endpoint
submit_coming : (ep : ℕ) (m m' : Machine) (reply : Reply) → Submits m m' reply → (coming ep m' ≡ coming ep m ++ m.handle.next_number ∷ []) ⊎ (coming ep m' ≡ coming ep m)
submit_coming ep m m' reply s = by_test (s.ep == ep) refl
  where
    by_test : (b : Bool) → (s.ep == ep) ≡ b → (coming ep m' ≡ coming ep m ++ m.handle.next_number ∷ []) ⊎ (coming ep m' ≡ coming ep m)
    by_test true e =
        inl (subst (λ k. coming k m' ≡ coming k m ++ m.handle.next_number ∷ []) (eqb-true s.ep ep e)
        (rw (s.results, s.key_here, numbers_for-append s.ep (keys_at m s.ep) (record { n = m.handle.next_number; ep = s.ep } ∷ []), same_name s.ep)
        (sym (append_assoc (numbers_for s.ep (uncut_keys m.results)) (numbers_for s.ep (keys_at m s.ep)) (m.handle.next_number ∷ [])))))
    by_test false e = inr (rw (s.results, s.others ep e) refl)

-- the first result, and those behind it
first_coming : (ep h : ℕ) (x : TransferResult) (xs : List TransferResult) → numbers_for ep (uncut_keys (x ∷ xs)) ≡ uncut_numbers ep (told h x ∷ []) ++ numbers_for ep (uncut_keys xs)
first_coming ep h x xs = by_test (is_uncut x.status) (x.request.ep == ep) refl
  where
    waiting : List Key
    waiting = uncut_keys xs

    key : Key
    key = record { n = x.n; ep = x.request.ep }

    by_test : (b c : Bool) → (x.request.ep == ep) ≡ c
        → numbers_for ep (map (λ x. record { n = x.n; ep = x.request.ep }) (if b then x ∷ filter (λ x. is_uncut x.status) xs else filter (λ x. is_uncut x.status) xs))
        ≡ map (λ r. r.n) (if c && b then told h x ∷ [] else []) ++ numbers_for ep waiting
    by_test true true e = rw e
    by_test true false e = rw e
    by_test false true e = refl
    by_test false false e = refl

-- what is called was the first to come
take_coming : (ep h : ℕ) (m m' : Machine) (reply : Reply) → Takes h m m' reply → coming ep m ≡ called_now ep reply ++ coming ep m'
take_coming ep h m m' reply t =
    rw (t.calls, t.results, t.others ep)
    (ap (λ l. l ++ numbers_for ep (keys_at m ep)) (first_coming ep h t.result m'.results)
    ∙ append_assoc (uncut_numbers ep (told h t.result ∷ [])) (numbers_for ep (uncut_keys m'.results)) (numbers_for ep (keys_at m ep)))

-- every step keeps the order
ordered_kept : (ep h : ℕ) (called : List ℕ) (m m' : Machine) (reply : Reply) → IsOrdered ep called m → ArePlaced m → Moves h m m' reply → IsOrdered ep (called ++ called_now ep reply) m'
ordered_kept ep h called m m' reply o placed moved = by_case moved
  where
    uncalled : call_of reply ≡ [] → IsOrdered ep called m' → IsOrdered ep (called ++ called_now ep reply) m'
    uncalled none o' = subst (λ l. IsOrdered ep l m') (sym (append-nil called) ∙ ap (λ l. called ++ uncut_numbers ep l) (sym none)) o'

    by_work : DoesWork m m' reply → IsOrdered ep called m'
    by_work w =
        let part : IsPart (called ++ coming ep m') (called ++ coming ep m) = part_behind called (work_coming ep m m' reply placed w) in
        record { rises = part_rises part o.rises; below = rw w.next_number (each_part (λ x. x < m.handle.next_number) part o.below) }

    by_submit : Submits m m' reply → (coming ep m' ≡ coming ep m ++ m.handle.next_number ∷ []) ⊎ (coming ep m' ≡ coming ep m) → IsOrdered ep called m'
    by_submit s (inl e) =
        let behind : called ++ coming ep m' ≡ (called ++ coming ep m) ++ m.handle.next_number ∷ [] = ap (λ l. called ++ l) e ∙ sym (append_assoc called (coming ep m) (m.handle.next_number ∷ [])) in
        record { rises = rw behind (rises_more m.handle.next_number (called ++ coming ep m) o.rises o.below); below = rw (s.next_number, behind) (below_more m.handle.next_number (called ++ coming ep m) o.below) }
    by_submit s (inr e) = record { rises = rw e o.rises; below = rw (s.next_number, e) (below_up m.handle.next_number (called ++ coming ep m) o.below) }

    by_case : Moves h m m' reply → IsOrdered ep (called ++ called_now ep reply) m'
    by_case (inl w) = uncalled w.calls (by_work w)
    by_case (inr (inl s)) = uncalled s.calls (by_submit s (submit_coming ep m m' reply s))
    by_case (inr (inr t)) =
        let same : (called ++ called_now ep reply) ++ coming ep m' ≡ called ++ coming ep m =
        append_assoc called (called_now ep reply) (coming ep m') ∙ ap (λ l. called ++ l) (sym (take_coming ep h m m' reply t)) in
        record { rises = rw same o.rises; below = rw (t.next_number, same) o.below }

-- what is called from here on
abbrev called_from : ℕ → Setup → ℕ → Machine → List Step → List ℕ
called_from ep setup h m steps = uncut_numbers ep (calls (alone_from setup h m steps))

-- no step calls none
called_none : (ep : ℕ) (setup : Setup) (h : ℕ) (m : Machine) → called_from ep setup h m [] ≡ []
unfolding alone_from calls
called_none ep setup h m = refl

-- the first step's calls, and the others'
called_more : (ep : ℕ) (setup : Setup) (h : ℕ) (m : Machine) (step : Step) (steps : List Step)
    → called_from ep setup h m (step ∷ steps) ≡ called_now ep (reply_to setup h m step) ++ called_from ep setup h (next_machine setup h m step) steps
unfolding alone_from calls
called_more ep setup h m step steps =
    let rest : List Returned = calls (alone_from setup h (next_machine setup h m step) steps) in
    let now : List Returned = call_of (reply_to setup h m step) in
    ap (map (λ r. r.n)) (filter-append (λ r. (r.ep == ep) && is_uncut r.status) now rest)
    ∙ map-append (λ r. r.n) (filter (λ r. (r.ep == ep) && is_uncut r.status) now) (filter (λ r. (r.ep == ep) && is_uncut r.status) rest)

-- so over a run the calls rise
rises_from : (ep : ℕ) (setup : Setup) (h : ℕ) (called : List ℕ) (m : Machine) (steps : List Step) → IsOrdered ep called m → ArePlaced m → Rises (called ++ called_from ep setup h m steps)
rises_from ep setup h called m [] o placed = rw (called_none ep setup h m, append-nil called) (rises_front called (coming ep m) o.rises)
rises_from ep setup h called m (step ∷ steps) o placed =
    rw (called_more ep setup h m step steps, sym (append_assoc called (called_now ep (reply_to setup h m step)) (called_from ep setup h (next_machine setup h m step) steps)))
    (rises_from ep setup h (called ++ called_now ep (reply_to setup h m step)) (next_machine setup h m step) steps
    (ordered_kept ep h called m (next_machine setup h m step) (reply_to setup h m step) o placed (moves setup h m step))
    (placed_kept h m (next_machine setup h m step) (reply_to setup h m step) placed (moves setup h m step)))

-- at first nothing is to come
ordered_new : (ep : ℕ) → IsOrdered ep [] new_machine
unfolding new_machine
ordered_new ep = record { rises = tt; below = tt }

-- and nothing is in progress
placed_new : ArePlaced new_machine
unfolding new_machine
placed_new at = tt

-- the calls at one endpoint that were not cut come in order
pub calls_in_order : (setup : Setup) (steps : List Step) (h : ℕ) → CallsInOrder setup steps h
unfolding alone
calls_in_order setup steps h ep =
    increasing (uncut_numbers ep (calls (entries setup steps h)))
    (subst (λ es. Rises (uncut_numbers ep (calls es))) (sym (sees_alone setup steps h)) (rises_from ep setup h [] new_machine (own setup steps h) (ordered_new ep) placed_new))

-- and each at most once, since its number is in one place
pub calls_once : (setup : Setup) (steps : List Step) (h : ℕ) → CallsOnce setup steps h
calls_once setup steps h n = by_order (cases_lt n (machine_of setup h (world_from setup (new_world setup) steps)).handle.next_number)
  where
    kept : KeepsPlaces setup steps h
    kept = keeps_places setup steps h

    by_order : (n < (machine_of setup h (world_from setup (new_world setup) steps)).handle.next_number) ⊎ ((machine_of setup h (world_from setup (new_world setup) steps)).handle.next_number ≤ n)
        → times n (numbers_called (entries setup steps h)) ≤ 1
    by_order (inl lt) = omega (arith, (kept.given n lt).once)
    by_order (inr le) = omega (arith, (kept.not_given n le).uncalled)
