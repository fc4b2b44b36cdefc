-- Each call is the handle's, and comes after its number was given.
use Rattle.std.proofs.Common.{◌≡◌, ℕ, ◌+◌, ◌<◌, ◌≤◌, ◌==◌, Bool, true, false, not, ◌⊎◌, inl, inr, List, [], ◌∷◌, ◌++◌, Option, Some, refl, ap, sym, ◌∙◌, subst, arith, append-nil, append_assoc}
use Rattle.std.specs.Prelude.{if◌then◌else◌}
use Rattle.std.proofs.lemmas.Bool.{eqb-true, eqb-false, cases_lt}
use Rattle.usb_model.specs.declared.reply.Reply.{Reply}
use Rattle.usb_model.specs.declared.refused.Refused.TheVariants.{NotFound, NoDevice}
use Rattle.usb_model.specs.declared.reply.Reply.TheVariants.{Done, Refused, Called}
use Rattle.usb_model.specs.declared.reply.Returned.{Returned}
use Rattle.usb_model.specs.declared.entry.Entry.{Entry}
use Rattle.usb_model.specs.declared.step.Step.{Step}
use Rattle.usb_model.specs.declared.step.Step.TheVariants.{Unplug}
use Rattle.usb_model.specs.Setup.{Setup, is_device}
use Rattle.usb_model.specs.Machine.{Machine, new_machine}
use Rattle.usb_model.specs.Machine.Turns.{unplug_reply, effect, maker, alone_from, alone}
use Rattle.usb_model.specs.World.Journal.{own}
use Rattle.usb_model.specs.Laws.Cut.{times}
use Rattle.usb_model.specs.Laws.Places.{call_of, number_of, numbers_given}
use Rattle.proof_model.proofs.Handles.Isolation.{sees_alone}
use Rattle.proof_model.proofs.Lists.Times.{times-cons, times-append, times_one}
use Rattle.proof_model.proofs.Work.Lines.{result_numbers}
use Rattle.proof_model.proofs.Work.Moves.{told, Submits, Moves}
use Rattle.proof_model.proofs.Work.StepMoves.{moves}
use Rattle.usb_model.specs.Laws.Callbacks.{CallsAfterNumber}
use Rattle.proof_laws.proofs.Calls.{called_now, IsOnce, once_kept, next_machine, reply_to, once_new}

-- each number is somewhere at most once
abbrev AllOnce : Machine → Type 0
AllOnce m = (n : ℕ) → (called : ℕ) × IsOnce n called m

-- each number below the next was given
abbrev IsGiven : List ℕ → Machine → Type 0
IsGiven given m = (n : ℕ) → n < m.handle.next_number → 0 < times n given

-- every step keeps it, with what it gives
given_kept : (given : List ℕ) (h : ℕ) (m m' : Machine) (reply : Reply) → IsGiven given m → Moves h m m' reply → IsGiven (given ++ number_of reply) m'
given_kept given h m m' reply all moved n below = by_case moved
  where
    sum : times n (given ++ number_of reply) ≡ times n given + times n (number_of reply)
    sum = times-append n given (number_of reply)

    before : n < m.handle.next_number → 0 < times n (given ++ number_of reply)
    before lt = omega (arith, sum, all n lt)

    by_test : Submits m m' reply → (b : Bool) → (m.handle.next_number == n) ≡ b → 0 < times n (given ++ number_of reply)
    by_test s true e = omega (arith, sum, ap (times n) s.gives, times_one n m.handle.next_number (eqb-true m.handle.next_number n e))
    by_test s false e = let differs : m.handle.next_number ≡ n → ⊥ = eqb-false m.handle.next_number n e in before (omega (arith, s.next_number, below, differs))

    by_case : Moves h m m' reply → 0 < times n (given ++ number_of reply)
    by_case (inl w) = before (omega (arith, w.next_number, below))
    by_case (inr (inl s)) = by_test s (m.handle.next_number == n) refl
    by_case (inr (inr t)) = before (omega (arith, t.next_number, below))

-- an Unplug calls nothing back
unplug_calls : (setup : Setup) (gone : ℕ → Bool) (dev : ℕ) → call_of (unplug_reply setup gone dev) ≡ []
unplug_calls setup gone dev = by_test (is_device setup dev) (gone dev)
  where
    by_test : (b c : Bool) → call_of (if not b then Refused NotFound else (if c then Refused NoDevice else Done)) ≡ []
    by_test false c = refl
    by_test true true = refl
    by_test true false = refl

-- so a call has an owner
call_owned : (setup : Setup) (h : ℕ) (m : Machine) (step : Step) (r : Returned) → call_of (reply_to setup h m step) ≡ r ∷ [] → maker h step ≡ Some h
unfolding effect
call_owned setup h m (Unplug dev) r is = let none : call_of (unplug_reply setup m.gone dev) ≡ [] = unplug_calls setup m.gone dev in absurd cc
call_owned setup h m _ r is = refl

-- what is called is the handle's, and its number was given
abbrev IsOwnCall : ℕ → List ℕ → Option ℕ → Returned → Type 0
IsOwnCall h given owner r = (owner ≡ Some h) × (r.h ≡ h) × (0 < times r.n given)

-- a call, by what a step does
call_given : (given : List ℕ) (h : ℕ) (m m' : Machine) (reply : Reply) (owner : Option ℕ) (r : Returned) → owner ≡ Some h → IsGiven given m → AllOnce m → Moves h m m' reply → call_of reply ≡ r ∷ [] → IsOwnCall h given owner r
call_given given h m m' reply owner r owned all once (inl w) is = let none : call_of reply ≡ [] = w.calls in absurd cc
call_given given h m m' reply owner r owned all once (inr (inl s)) is = let none : call_of reply ≡ [] = s.calls in absurd cc
call_given given h m m' reply owner r owned all once (inr (inr t)) is = (owned, ap (λ x. x.h) (sym same), all r.n below)
  where
    only : (x y : Returned) → x ∷ [] ≡ y ∷ [] → x ≡ y
    only x y e = cc

    same : told h t.result ≡ r
    same = only (told h t.result) r (sym t.calls ∙ is)

    waits : times r.n (result_numbers m.results) ≡ times r.n (t.result.n ∷ []) + times r.n (result_numbers m'.results)
    waits = rw t.results (omega (arith, times-cons r.n t.result.n [], times-cons r.n t.result.n (result_numbers m'.results)))

    one : times r.n (t.result.n ∷ []) ≡ 1
    one = times_one r.n t.result.n (ap (λ x. x.n) same)

    by_order : (r.n < m.handle.next_number) ⊎ (m.handle.next_number ≤ r.n) → r.n < m.handle.next_number
    by_order (inl lt) = lt
    by_order (inr ahead) = absurd (omega (arith, waits, one, (once r.n).1.to_come ahead))

    below : r.n < m.handle.next_number
    below = by_order (cases_lt r.n m.handle.next_number)

-- lists that are the same have the same rest
entries_tail : (x y : Entry) (xs ys : List Entry) → x ∷ xs ≡ y ∷ ys → xs ≡ ys
entries_tail x y xs ys e = cc

-- and the same first
entries_head : (x y : Entry) (xs ys : List Entry) → x ∷ xs ≡ y ∷ ys → x ≡ y
entries_head x y xs ys e = cc

-- so it is over a run
calls_given : (setup : Setup) (h : ℕ) (given : List ℕ) (m : Machine) (steps : List Step) (before after : List Entry) (owner : Option ℕ) (r : Returned) → IsGiven given m → AllOnce m
    → alone_from setup h m steps ≡ before ++ record { owner = owner; reply = Called r } ∷ after → IsOwnCall h (given ++ numbers_given before) owner r
unfolding alone_from numbers_given
calls_given setup h given m [] [] after owner r all once is = absurd cc
calls_given setup h given m [] (b ∷ before) after owner r all once is = absurd cc
calls_given setup h given m (step ∷ steps) [] after owner r all once is =
    rw (append-nil given) (call_given given h m (next_machine setup h m step) (reply_to setup h m step) owner r owned all once (moves setup h m step) called)
  where
    entry_is : ◌≡◌ {A = Entry} (record { owner = maker h step; reply = reply_to setup h m step }) (record { owner = owner; reply = Called r })
    entry_is = entries_head _ _ _ _ is

    called : call_of (reply_to setup h m step) ≡ r ∷ []
    called = ap (λ x. call_of x.reply) entry_is

    owned : owner ≡ Some h
    owned = sym (ap (λ x. x.owner) entry_is) ∙ call_owned setup h m step r called
calls_given setup h given m (step ∷ steps) (b ∷ before) after owner r all once is =
    subst (λ l. IsOwnCall h l owner r) (append_assoc given (number_of (reply_to setup h m step)) (numbers_given before) ∙ ap (λ x. given ++ (number_of x ++ numbers_given before)) reply_is)
    (calls_given setup h (given ++ number_of (reply_to setup h m step)) (next_machine setup h m step) steps before after owner r
    (given_kept given h m (next_machine setup h m step) (reply_to setup h m step) all (moves setup h m step)) once_next (entries_tail _ _ _ _ is))
  where
    reply_is : reply_to setup h m step ≡ b.reply
    reply_is = ap (λ x. x.reply) (entries_head _ _ _ _ is)

    once_next : AllOnce (next_machine setup h m step)
    once_next n = ((once n).0 + called_now n (reply_to setup h m step), once_kept n (once n).0 h m (next_machine setup h m step) (reply_to setup h m step) (once n).1 (moves setup h m step))

-- at first none is below the next
given_new : IsGiven [] new_machine
unfolding new_machine
given_new n below = absurd (omega (arith, below))

-- each call is the handle's, after its number was given
pub calls_after_number : (setup : Setup) (steps : List Step) (h : ℕ) → CallsAfterNumber setup steps h
unfolding alone
calls_after_number setup steps h before after owner r is = record { owned = c.0; its = c.1; given = c.2 }
  where
    c : IsOwnCall h (numbers_given before) owner r
    c = calls_given setup h [] new_machine (own setup steps h) before after owner r given_new (λ n. (0, once_new n)) (sym (sees_alone setup steps h) ∙ is)
