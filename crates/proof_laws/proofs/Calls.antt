-- How often a number was called back, together with where it still is: at most once; and not before it is given.
use Rattle.std.proofs.Common.{◌≡◌, ℕ, ◌+◌, ◌≤◌, ◌==◌, Bool, true, false, inl, inr, List, [], ◌∷◌, map, refl, ap, sym, ◌∙◌, subst, arith}
use Rattle.std.proofs.lemmas.Bool.{eqb-true, eqb-false}
use Rattle.std.proofs.lemmas.List.{map-append}
use Rattle.usb_model.specs.declared.reply.Reply.{Reply}
use Rattle.usb_model.specs.declared.step.Step.{Step}
use Rattle.usb_model.specs.Setup.{Setup}
use Rattle.usb_model.specs.Machine.{Machine, new_machine}
use Rattle.usb_model.specs.Machine.Turns.{effect, machine_after}
use Rattle.usb_model.specs.Laws.Cut.{times}
use Rattle.usb_model.specs.Laws.Places.{call_of}
use Rattle.proof_model.proofs.Lists.Times.{times-cons, times-append, times_one, times_none}
use Rattle.proof_model.proofs.Work.Lines.{result_numbers}
use Rattle.proof_model.proofs.Work.Moves.{lives_at, DoesWork, Submits, Takes, Moves, work_less}

-- how often the number is called by this reply
abbrev pub called_now : ℕ → Reply → ℕ
called_now n reply = times n (map (λ r. r.n) (call_of reply))

-- how often it waits in results, or is in progress at this endpoint
abbrev pub waiting : ℕ → Machine → ℕ → ℕ
waiting n m home = times n (result_numbers m.results) + times n (lives_at m home)

-- so often was the number called back: together with where it still is, at most once; and not before it is given
pub record IsOnce (n called : ℕ) (m : Machine) : Type 0 where
  pub home : ℕ
  pub at_most : called + waiting n m home ≤ 1
  pub no_other : (at : ℕ) → (home == at) ≡ false → times n (lives_at m at) ≡ 0
  pub to_come : m.handle.next_number ≤ n → called + waiting n m home ≡ 0

-- no call calls no number
no_call : (n : ℕ) (reply : Reply) → call_of reply ≡ [] → called_now n reply ≡ 0
no_call n reply e = ap (λ l. times n (map (λ r. r.n) l)) e

-- results that are made were in progress before
work_waits : (n : ℕ) (m m' : Machine) (reply : Reply) (w : DoesWork m m' reply) (home : ℕ) → ((at : ℕ) → (home == at) ≡ false → times n (lives_at m at) ≡ 0)
    → waiting n m' home ≤ waiting n m home
work_waits n m m' reply w home no_other = by_test (home == w.ep) refl
  where
    after : times n (result_numbers m'.results) ≡ times n (result_numbers m.results) + times n (result_numbers w.made)
    after = ap (λ l. times n (result_numbers l)) w.results ∙ (ap (times n) (map-append (λ x. x.n) m.results w.made) ∙ times-append n (result_numbers m.results) (result_numbers w.made))

    by_test : (b : Bool) → (home == w.ep) ≡ b → waiting n m' home ≤ waiting n m home
    by_test true e = subst (λ k. waiting n m' k ≤ waiting n m k) (sym (eqb-true home w.ep e)) (omega (arith, after, w.once n))
    by_test false e = omega (arith, after, w.once n, no_other w.ep e, work_less m m' reply w n home)

-- work at an endpoint keeps it
work_once : (n called : ℕ) (m m' : Machine) (reply : Reply) → IsOnce n called m → DoesWork m m' reply → IsOnce n called m'
work_once n called m m' reply o w = record {
  home = o.home;
  at_most = omega (arith, o.at_most, less);
  no_other = λ at far. omega (arith, o.no_other at far, work_less m m' reply w n at);
  to_come = λ ahead. let before : called + waiting n m o.home ≡ 0 = o.to_come (omega (arith, w.next_number, ahead)) in omega (arith, before, less);
}
  where
    less : waiting n m' o.home ≤ waiting n m o.home
    less = work_waits n m m' reply w o.home o.no_other

-- a number that is still to come is in progress nowhere
nowhere : (n called : ℕ) (m : Machine) → IsOnce n called m → m.handle.next_number ≤ n → (at : ℕ) → times n (lives_at m at) ≡ 0
nowhere n called m o ahead at = by_test (o.home == at) refl
  where
    by_test : (b : Bool) → (o.home == at) ≡ b → times n (lives_at m at) ≡ 0
    by_test true e = subst (λ k. times n (lives_at m k) ≡ 0) (eqb-true o.home at e) (let none : called + waiting n m o.home ≡ 0 = o.to_come ahead in omega (arith, none))
    by_test false e = o.no_other at e

-- a submission that gives this number
given_once : (n called : ℕ) (m m' : Machine) (reply : Reply) → IsOnce n called m → Submits m m' reply → m.handle.next_number ≡ n → IsOnce n called m'
given_once n called m m' reply o s is = record {
  home = s.ep;
  at_most = omega (arith, before, results, here, nowhere n called m o (omega (arith, is)) s.ep);
  no_other = λ at far. rw (s.others at far) (nowhere n called m o (omega (arith, is)) at);
  to_come = λ ahead. omega (arith, s.next_number, ahead, is);
}
  where
    before : called + waiting n m o.home ≡ 0
    before = o.to_come (omega (arith, is))

    results : times n (result_numbers m'.results) ≡ times n (result_numbers m.results)
    results = ap (λ l. times n (result_numbers l)) s.results

    here : times n (lives_at m' s.ep) ≡ times n (lives_at m s.ep) + 1
    here = ap (times n) s.here ∙ (times-append n (lives_at m s.ep) (m.handle.next_number ∷ []) ∙ ap (λ k. times n (lives_at m s.ep) + k) (times_one n m.handle.next_number is))

-- one that gives another
other_once : (n called : ℕ) (m m' : Machine) (reply : Reply) → IsOnce n called m → Submits m m' reply → (m.handle.next_number ≡ n → ⊥) → IsOnce n called m'
other_once n called m m' reply o s differs = record {
  home = o.home;
  at_most = omega (arith, o.at_most, results, same o.home);
  no_other = λ at far. same at ∙ o.no_other at far;
  to_come = λ ahead. let before : called + waiting n m o.home ≡ 0 = o.to_come (omega (arith, s.next_number, ahead)) in omega (arith, before, results, same o.home);
}
  where
    results : times n (result_numbers m'.results) ≡ times n (result_numbers m.results)
    results = ap (λ l. times n (result_numbers l)) s.results

    by_test : (at : ℕ) (b : Bool) → (s.ep == at) ≡ b → times n (lives_at m' at) ≡ times n (lives_at m at)
    by_test at true e = subst (λ k. times n (lives_at m' k) ≡ times n (lives_at m k)) (eqb-true s.ep at e)
        (rw (s.here, times-append n (lives_at m s.ep) (m.handle.next_number ∷ []), times_none n m.handle.next_number differs) (omega arith))
    by_test at false e = rw (s.others at e) refl

    same : (at : ℕ) → times n (lives_at m' at) ≡ times n (lives_at m at)
    same at = by_test at (s.ep == at) refl

-- what is called was the first result
taken_waits : (n h : ℕ) (m m' : Machine) (reply : Reply) → Takes h m m' reply → (home : ℕ) → called_now n reply + waiting n m' home ≡ waiting n m home
taken_waits n h m m' reply t home =
    rw (t.calls, t.results, t.others home) (omega (arith, times-cons n t.result.n [], times-cons n t.result.n (result_numbers m'.results)))

-- a call
take_once : (n called h : ℕ) (m m' : Machine) (reply : Reply) → IsOnce n called m → Takes h m m' reply → IsOnce n (called + called_now n reply) m'
take_once n called h m m' reply o t = record {
  home = o.home;
  at_most = omega (arith, o.at_most, taken_waits n h m m' reply t o.home);
  no_other = λ at far. rw (t.others at) (o.no_other at far);
  to_come = λ ahead. let before : called + waiting n m o.home ≡ 0 = o.to_come (omega (arith, t.next_number, ahead)) in omega (arith, before, taken_waits n h m m' reply t o.home);
}

-- every step keeps it
pub once_kept : (n called h : ℕ) (m m' : Machine) (reply : Reply) → IsOnce n called m → Moves h m m' reply → IsOnce n (called + called_now n reply) m'
once_kept n called h m m' reply o moved = by_case moved
  where
    uncalled : called_now n reply ≡ 0 → IsOnce n called m' → IsOnce n (called + called_now n reply) m'
    uncalled none o' = subst (λ k. IsOnce n k m') (omega (arith, none)) o'

    by_test : Submits m m' reply → (b : Bool) → (m.handle.next_number == n) ≡ b → IsOnce n called m'
    by_test s true e = given_once n called m m' reply o s (eqb-true m.handle.next_number n e)
    by_test s false e = other_once n called m m' reply o s (eqb-false m.handle.next_number n e)

    by_case : Moves h m m' reply → IsOnce n (called + called_now n reply) m'
    by_case (inl w) = uncalled (no_call n reply w.calls) (work_once n called m m' reply o w)
    by_case (inr (inl s)) = uncalled (no_call n reply s.calls) (by_test s (m.handle.next_number == n) refl)
    by_case (inr (inr t)) = take_once n called h m m' reply o t

-- the machine after a step of its own
abbrev pub next_machine : Setup → ℕ → Machine → Step → Machine
next_machine setup h m step = machine_after setup m step (effect setup h m step)

-- and what it replies
abbrev pub reply_to : Setup → ℕ → Machine → Step → Reply
reply_to setup h m step = (effect setup h m step).reply

-- at first each number is still to come
pub once_new : (n : ℕ) → IsOnce n 0 new_machine
unfolding new_machine
once_new n = record { home = 0; at_most = omega arith; no_other = λ at far. refl; to_come = λ ahead. refl }
