-- A number that is no more in progress at an endpoint never is again.
use Rattle.std.proofs.Common.{Bool, List, None, Option, Some, [], ap, arith, false, inl, inr, not, refl, subst, sym, true, ℕ, ◌&&◌, ◌<◌, ◌==◌, ◌∙◌, ◌∷◌, ◌≡◌, ◌≤◌, ◌⊎◌}
use Rattle.std.specs.Prelude.{if◌then◌else◌, is_some}
use Rattle.std.proofs.lemmas.Bool.{cases_lt, eqb-true}
use Rattle.usb_model.specs.declared.endpoint.Endpoint.{Endpoint}
use Rattle.usb_model.specs.declared.item.Item.{Item}
use Rattle.usb_model.specs.declared.reply.Reply.{Reply}
use Rattle.usb_model.specs.declared.step.Step.{Step}
use Rattle.usb_model.specs.Endpoint.{has_in_progress, in_progress, is_blank, live_numbers}
use Rattle.usb_model.specs.Laws.Cut.{times}
use Rattle.usb_model.specs.World.Journal.{own}
use Rattle.usb_model.specs.Machine.{Machine, endpoint_at}
use Rattle.usb_model.specs.Laws.Places.{InOnePlace, numbers_at}
use Rattle.usb_model.specs.Setup.{Setup}
use Rattle.usb_model.specs.Machine.Turns.{effect, machine_after}
use Rattle.usb_model.specs.World.{World, machine_of, turn, world_from}
use Rattle.proof_model.proofs.Work.Lines.{progress_times}
use Rattle.proof_model.proofs.Places.Placed.{IsPlaced}
use Rattle.proof_model.proofs.Handles.Isolation.{IsEither, turn_to}
use Rattle.proof_model.proofs.Work.Moves.{Moves, lives_at, work_less}
use Rattle.proof_model.proofs.Work.StepMoves.{moves}
use Rattle.proof_model.proofs.Lists.Times.{times-append, times-cons, times_none}

-- given, and not in progress there
pub record IsGone (n ep : ℕ) (m : Machine) : Type 0 where
  pub behind : n < m.handle.next_number
  pub none : times n (lives_at m ep) ≡ 0

-- a number that is gone stays gone where it moves only as numbers may
gone_moves : (h n ep : ℕ) (m m' : Machine) (reply : Reply) → Moves h m m' reply → IsGone n ep m → IsGone n ep m'
gone_moves h n ep m m' reply (inl w) g = record { behind = omega (arith, w.next_number, g.behind); none = omega (arith, work_less m m' reply w n ep, g.none) }
gone_moves h n ep m m' reply (inr (inl s)) g = record { behind = omega (arith, s.next_number, g.behind); none = by_test (s.ep == ep) refl }
  where
    here : times n (lives_at m' s.ep) ≡ times n (lives_at m s.ep)
    here =
        let other : m.handle.next_number ≡ n → ⊥ = λ q. omega (arith, q, g.behind) in
        ap (times n) s.here ∙ omega (arith, times-append n (lives_at m s.ep) (m.handle.next_number ∷ []), times_none n m.handle.next_number other)

    by_test : (b : Bool) → (s.ep == ep) ≡ b → times n (lives_at m' ep) ≡ 0
    by_test true is = subst (λ k. times n (lives_at m' k) ≡ times n (lives_at m k)) (eqb-true s.ep ep is) here ∙ g.none
    by_test false other = ap (λ o. times n (numbers_at o)) (s.others ep other) ∙ g.none
gone_moves h n ep m m' reply (inr (inr t)) g = record { behind = omega (arith, t.next_number, g.behind); none = ap (λ o. times n (numbers_at o)) (t.others ep) ∙ g.none }

-- numbers go on
next_moves : (h : ℕ) (m m' : Machine) (reply : Reply) → Moves h m m' reply → m.handle.next_number ≤ m'.handle.next_number
next_moves h m m' reply (inl w) = omega (arith, w.next_number)
next_moves h m m' reply (inr (inl s)) = omega (arith, s.next_number)
next_moves h m m' reply (inr (inr t)) = omega (arith, t.next_number)

-- a number that was given stays given
pub next_rises : (setup : Setup) (h n : ℕ) (m : Machine) (step : Step) → n < m.handle.next_number → n < (machine_after setup m step (effect setup h m step)).handle.next_number
next_rises setup h n m step lt = omega (arith, lt, next_moves h m _ _ (moves setup h m step))

-- a number that is gone at an endpoint is gone after each step
pub gone_kept : (setup : Setup) (h n ep : ℕ) (m : Machine) (step : Step) → IsGone n ep m → IsGone n ep (machine_after setup m step (effect setup h m step))
gone_kept setup h n ep m step g = gone_moves h n ep m _ _ (moves setup h m step) g

-- a number that is gone at an endpoint is gone after each turn
gone_turn : (setup : Setup) (h n ep : ℕ) (w : World) (step : Step) → IsGone n ep (machine_of setup h w) → IsGone n ep (machine_of setup h (turn setup w step).world)
gone_turn setup h n ep w step g = by_turn (turn_to setup h w step)
  where
    by_turn : IsEither setup h w step (turn setup w step) → IsGone n ep (machine_of setup h (turn setup w step).world)
    by_turn (inl own) = subst (IsGone n ep) (sym own.3) (gone_kept setup h n ep (machine_of setup h w) step g)
    by_turn (inr nothing) = subst (IsGone n ep) (sym nothing.1) g

-- over a run
pub gone_from : (setup : Setup) (h n ep : ℕ) (w : World) (steps : List Step) → IsGone n ep (machine_of setup h w) → IsGone n ep (machine_of setup h (world_from setup w steps))
unfolding world_from
gone_from setup h n ep w [] g = g
gone_from setup h n ep w (step ∷ steps) g = gone_from setup h n ep (turn setup w step).world steps (gone_turn setup h n ep w step g)

-- a number that was given stays given after each turn
next_turn : (setup : Setup) (h n : ℕ) (w : World) (step : Step) → n < (machine_of setup h w).handle.next_number → n < (machine_of setup h (turn setup w step).world).handle.next_number
next_turn setup h n w step lt = by_turn (turn_to setup h w step)
  where
    by_turn : IsEither setup h w step (turn setup w step) → n < (machine_of setup h (turn setup w step).world).handle.next_number
    by_turn (inl own) = subst (λ m. n < m.handle.next_number) (sym own.3) (next_rises setup h n (machine_of setup h w) step lt)
    by_turn (inr nothing) = subst (λ m. n < m.handle.next_number) (sym nothing.1) lt

-- a number that was given stays given in each run
pub next_from : (setup : Setup) (h n : ℕ) (w : World) (steps : List Step) → n < (machine_of setup h w).handle.next_number → n < (machine_of setup h (world_from setup w steps)).handle.next_number
unfolding world_from
next_from setup h n w [] lt = lt
next_from setup h n w (step ∷ steps) lt = next_from setup h n (turn setup w step).world steps (next_turn setup h n w step lt)

-- what is in progress is among the numbers in progress, and what is not is not
pub live_times : (n : ℕ) (o : Option Endpoint) → has_in_progress n o ≡ true → 1 ≤ times n (numbers_at o)
live_times n None e = absurd cc
live_times n (Some x) e = by_item (in_progress n x.line) refl e
  where
    by_item : (i : Option Item) → in_progress n x.line ≡ i → is_some i ≡ true → 1 ≤ times n (live_numbers x.line)
    by_item None is q = absurd cc
    by_item (Some i) is q = progress_times n x.line i is

-- a number that is not found is not in the line
none_there : (n : ℕ) (line : List Item) → in_progress n line ≡ None → times n (live_numbers line) ≡ 0
unfolding in_progress live_numbers
none_there n [] e = refl
none_there n (x ∷ xs) e = by_tests (x.n == n) (is_blank x) refl e (none_there n xs)
  where
    by_tests : (b c : Bool) → (x.n == n) ≡ b → (if b && not c then Some x else in_progress n xs) ≡ None → (in_progress n xs ≡ None → times n (live_numbers xs) ≡ 0) → times n (if c then live_numbers xs else x.n ∷ live_numbers xs) ≡ 0
    by_tests true true q e rest = rest e
    by_tests true false q e rest = absurd cc
    by_tests false true q e rest = rest e
    by_tests false false q e rest = omega (arith, rest e, rw q at (times-cons n x.n (live_numbers xs)))

-- a number that is not in progress is not among the numbers
pub dead_times : (n : ℕ) (o : Option Endpoint) → has_in_progress n o ≡ false → times n (numbers_at o) ≡ 0
dead_times n None e = refl
dead_times n (Some x) e = by_item (in_progress n x.line) refl e
  where
    by_item : (i : Option Item) → in_progress n x.line ≡ i → is_some i ≡ false → times n (live_numbers x.line) ≡ 0
    by_item None is q = none_there n x.line is
    by_item (Some i) is q = absurd cc

-- a number that is gone is not in progress
pub gone_is_dead : (n ep : ℕ) (m : Machine) → IsGone n ep m → has_in_progress n (endpoint_at m ep) ≡ true → ⊥
gone_is_dead n ep m g live = omega (arith, g.none, live_times n (endpoint_at m ep) live)

-- a number in progress was given
pub live_behind : (n ep : ℕ) (m : Machine) (called : List ℕ) → IsPlaced m called → has_in_progress n (endpoint_at m ep) ≡ true → n < m.handle.next_number
live_behind n ep m called p live = by_order (cases_lt n m.handle.next_number)
  where
    by_order : (n < m.handle.next_number) ⊎ (m.handle.next_number ≤ n) → n < m.handle.next_number
    by_order (inl lt) = lt
    by_order (inr le) = absurd (omega (arith, (p.not_given n le).not_in_progress ep, live_times n (endpoint_at m ep) live))

-- it is so once at its endpoint, and gone from each other
pub live_once : (n ep : ℕ) (m : Machine) (called : List ℕ) → IsPlaced m called → times n (lives_at m ep) ≤ 1
live_once n ep m called p = by_order (cases_lt n m.handle.next_number)
  where
    by_home : InOnePlace n m called → times n (lives_at m ep) ≤ 1
    by_home one = by_test (one.home == ep) refl
      where
        by_test : (b : Bool) → (one.home == ep) ≡ b → times n (lives_at m ep) ≤ 1
        by_test true same = subst (λ k. times n (lives_at m k) ≤ 1) (eqb-true one.home ep same) (omega (arith, one.once))
        by_test false other = omega (arith, one.nowhere_else ep other)

    by_order : (n < m.handle.next_number) ⊎ (m.handle.next_number ≤ n) → times n (lives_at m ep) ≤ 1
    by_order (inl lt) = by_home (p.given n lt)
    by_order (inr le) = omega (arith, (p.not_given n le).not_in_progress ep)

-- a number in progress at one endpoint is gone at each other
pub gone_elsewhere : (n ep at : ℕ) (m : Machine) (called : List ℕ) → IsPlaced m called → has_in_progress n (endpoint_at m ep) ≡ true → (ep == at) ≡ false → IsGone n at m
gone_elsewhere n ep at m called p live other = record { behind = live_behind n ep m called p live; none = by_home (p.given n (live_behind n ep m called p live)) }
  where
    by_home : InOnePlace n m called → times n (lives_at m at) ≡ 0
    by_home one = by_test (one.home == ep) refl
      where
        by_test : (b : Bool) → (one.home == ep) ≡ b → times n (lives_at m at) ≡ 0
        by_test true same = one.nowhere_else at (subst (λ k. (k == at) ≡ false) (sym (eqb-true one.home ep same)) other)
        by_test false elsewhere = absurd (omega (arith, one.nowhere_else ep elsewhere, live_times n (endpoint_at m ep) live))
