-- A step of the machine keeps an asked transfer's bound, or ends the transfer; an accepted ask opens it.
use Rattle.std.proofs.Common.{List, None, Option, Some, ap, append-nil, arith, inl, inr, refl, subst, sym, true, ℕ, ◌+◌, ◌-◌, ◌==◌, ◌∙◌, ◌≡◌, ◌≤◌}
use Rattle.std.specs.Prelude.{is_some}
use Rattle.std.proofs.lemmas.Bool.{and_parts, eqb-true}
use Rattle.usb_model.specs.declared.errand.Errand.{Errand}
use Rattle.usb_model.specs.declared.endpoint.Endpoint.{Endpoint}
use Rattle.usb_model.specs.declared.handle.Handle.{Handle}
use Rattle.usb_model.specs.declared.item.Ask.{Ask}
use Rattle.usb_model.specs.declared.item.Item.{Item}
use Rattle.usb_model.specs.declared.news.Event.{Event}
use Rattle.usb_model.specs.declared.reply.Reply.TheVariants as reply
use Rattle.usb_model.specs.declared.reply.Reply.{Reply}
use Rattle.usb_model.specs.declared.step.Step.{Step}
use Rattle.usb_model.specs.Endpoint.{has_in_progress, in_progress, live_numbers}
use Rattle.usb_model.specs.Laws.Bound.{is_ask}
use Rattle.usb_model.specs.Machine.Calls.{asks, submitted}
use Rattle.usb_model.specs.Laws.Cut.{times}
use Rattle.usb_model.specs.declared.endpoint_effect.EndpointEffect.{EndpointEffect}
use Rattle.usb_model.specs.declared.effect.Effect.{Effect}
use Rattle.usb_model.specs.Machine.{Machine, device_of, at_endpoint, endpoint_at, is_gone}
use Rattle.usb_model.specs.Laws.Places.{numbers_at}
use Rattle.usb_model.specs.Setup.{Setup, packet_size_of}
use Rattle.usb_model.specs.Machine.Turns.{machine_after}
use Rattle.proof_model.proofs.Machines.Acts.{Acts, end_set, news_set, orders_set}
use Rattle.proof_model.proofs.Machines.Deeds.{IsAsk, IsBare, IsDone, IsRest, IsWork, again, again_with, anew, asks_it, cancels, clears, commands, delivers, expires, idles, only_rests, refuses, serves, stays, submits, unplugs, works}
use Rattle.usb_model.specs.Fitness.{IsWell, errands_of, events_of}
use Rattle.proof_model.proofs.Bound.Due.{IsDue, LeavesDue, due_command}
use Rattle.proof_model.proofs.Work.Lines.{found_it}
use Rattle.proof_model.proofs.Bound.Keeps.{due_ask, due_clear, due_submit}
use Rattle.proof_model.proofs.Bound.Delivers.{due_deliver}
use Rattle.proof_model.proofs.Bound.Serves.{due_serve}
use Rattle.proof_model.proofs.Bound.Gone.{live_times}
use Rattle.proof_model.proofs.Bound.Opens.{due_opens}
use Rattle.proof_model.proofs.Places.Placed.{none_idle}
use Rattle.proof_model.proofs.Machines.Well.{fit_at, ask_takes, errands_behind, events_behind, first_news, first_order, nothing_taken, submission_takes}
use Rattle.proof_model.proofs.Coherence.Posts.{commands_now, delivers_now}
use Rattle.proof_model.proofs.Work.Moves.{lives_at}
use Rattle.std.proofs.lemmas.Option.{same_Some}

-- the asked transfer of this number, at an endpoint of the machine, with what is left to it
pub record IsDueAt (n ep c d : ℕ) (m : Machine) : Type 0 where
  pub e : Endpoint
  pub here : endpoint_at m ep ≡ Some e
  pub due : IsDue n c d e (errands_of ep m.orders) (events_of ep m.news)

-- what was used of its bound, and what is left
pub record StaysDue (n ep c d used told : ℕ) (m : Machine) : Type 0 where
  pub commands : ℕ
  pub delivers : ℕ
  pub less : used + commands ≤ c
  pub fewer : told + delivers ≤ d
  pub due : IsDueAt n ep commands delivers m

-- what is left after work, as commands and deliveries are counted
abbrev StaysDueBy : ℕ → ℕ → ℕ → ℕ → ℕ → EndpointEffect → List Errand → List Event → Type 0
StaysDueBy n c d used told doing os ns = (c' : ℕ) × (d' : ℕ) × (used + c' ≤ c) × (told + d' ≤ d) × LeavesDue n c' d' doing os ns

-- by the kind of work
due_work : (setup : Setup) (m : Machine) (ep n c d : ℕ) (e : Endpoint) (step : Step) (handle : Handle) (doing : EndpointEffect) (j : Item) → IsWork setup m ep e step handle doing → IsDue n c d e (errands_of ep m.orders) (events_of ep m.news)
    → times n (live_numbers e.line) ≤ 1 → in_progress n doing.endpoint.line ≡ Some j
    → StaysDueBy n c d (commands_now ep m step) (delivers_now ep m step) doing (errands_behind ep m step) (events_behind ep m step)
due_work setup m ep n c d e step handle doing j (serves dev) due single still = (c, d, omega arith, omega arith, due_serve _ _ n c d e _ _ due)
due_work setup m ep n c d e step handle doing j (commands o os is) due single still =
    let f = first_order ep o m.orders os is in
    let r = due_command (packet_size_of setup (device_of m) ep) ep n c d e o _ _ (subst (λ l. IsDue n c d e l (events_of ep m.news)) f.0 due) in
    (c - 1, d, omega (arith, f.1, r.0), omega arith, r.1)
due_work setup m ep n c d e step handle doing j (delivers event ns is) due single still =
    let f = first_news ep event m.news ns is in
    let r = due_deliver (packet_size_of setup (device_of m) ep) ep (is_gone m) n c d e _ event _ j (subst (λ l. IsDue n c d e (errands_of ep m.orders) l) f.0 due) single still in
    (c, d - 1, omega arith, omega (arith, f.1, r.0), r.1)
due_work setup m ep n c d e step handle doing j (asks_it {ask = ask} k i is here free) due single still =
    let t = ask_takes m step k ask is in
    (c, d, omega (arith, t.commands ep), omega (arith, t.delivers ep), nothing_taken (λ os ns. LeavesDue n c d (asks e k ask) os ns) ep m step t (due_ask n c d e k ask _ _ due))
due_work setup m ep n c d e step handle doing j (submits {handle = left} {request = request} {round = round} is at fine short) due single still =
    let t = submission_takes m step left request round is in (
      c,
      d,
      omega (arith, t.commands ep),
      omega (arith, t.delivers ep),
      nothing_taken (λ os ns. LeavesDue n c d (submitted m.handle.next_number request round e) os ns) ep m step t
          (rw (append-nil (errands_of ep m.orders), append-nil (events_of ep m.news)) (due_submit n c d e m.handle.next_number request round _ _ due)),
    )
due_work setup m ep n c d e step handle doing j (clears g empty) due single still = (c, d, omega arith, omega arith, rw (append-nil (errands_of ep m.orders), append-nil (events_of ep m.news)) (due_clear n c d e _ _ due))

-- a number in progress has its item
live_item : (n : ℕ) (o : Option Endpoint) (e : Endpoint) → o ≡ Some e → has_in_progress n o ≡ true → (i : Item) × (in_progress n e.line ≡ Some i)
live_item n o e is live = by_item (in_progress n e.line) refl (ap (has_in_progress n) (sym is) ∙ live)
  where
    by_item : (i : Option Item) → in_progress n e.line ≡ i → is_some i ≡ true → (i : Item) × (in_progress n e.line ≡ Some i)
    by_item None is q = absurd cc
    by_item (Some i) is q = (i, is)

-- a transfer that is due is in progress
pub due_lives : (n ep c d : ℕ) (m : Machine) → IsDueAt n ep c d m → has_in_progress n (endpoint_at m ep) ≡ true
due_lives n ep c d m due = ap (has_in_progress n) due.here ∙ ap is_some due.due.here

-- by what is done at the endpoint
pub due_acts : (setup : Setup) (n ep c d : ℕ) (m m' : Machine) (step : Step) → Acts setup ep m m' step → times n (lives_at m ep) ≤ 1 → IsDueAt n ep c d m → has_in_progress n (endpoint_at m' ep) ≡ true
    → StaysDue n ep c d (commands_now ep m step) (delivers_now ep m step) m'
due_acts setup n ep c d m m' step (inl (inl s)) single due live = record {
  commands = c;
  delivers = d;
  less = omega (arith, s.lists.commands);
  fewer = omega (arith, s.lists.delivers);
  due = record { e = due.e; here = s.end ∙ due.here; due = rw (s.lists.orders, s.lists.news) due.due };
}
due_acts setup n ep c d m m' step (inl (inr r)) single due live = absurd (omega (arith, live_times n (endpoint_at m ep) (due_lives n ep c d m due), ap (times n) (none_idle (endpoint_at m ep) r.idle.no_line)))
due_acts setup n ep c d m m' step (inr w) single due live =
    let same : due.e ≡ w.e = same_Some due.e w.e (sym due.here ∙ w.here) in
    let i = live_item n (endpoint_at m' ep) w.doing.endpoint w.end live in
    let r = due_work setup m ep n c d w.e step w.handle w.doing i.0 w.work (subst (λ e. IsDue n c d e (errands_of ep m.orders) (events_of ep m.news)) same due.due) (omega (arith, single, ap (λ o. times n (numbers_at o)) w.here)) i.1 in
    record {
      commands = r.0;
      delivers = r.1;
      less = r.2;
      fewer = r.3;
      due = record { e = w.doing.endpoint; here = w.end; due = rw (w.orders, w.news) r.4 };
    }

-- a transfer of the handle is asked to end
not_bare : (h n : ℕ) (step : Step) (r : Reply) → IsBare step r → is_ask h n step ≡ true → r ≡ reply.Done → ⊥
not_bare h n step r (refuses why) asked e = cc
not_bare h n step r idles asked e = cc
not_bare h n step r (unplugs dev) asked e = cc

-- the ask of a transfer in progress that wasn't asked before
opens_here : (setup : Setup) (h n k ep : ℕ) (m : Machine) (step : Step) (ask : Ask) (e : Endpoint) (i : Item) → IsWell setup m → endpoint_at m ep ≡ Some e → k ≡ n → IsAsk step k ask → in_progress k e.line ≡ Some i → i.ask ≡ None
    → IsDueAt n ep 2 17 (machine_after setup m step (at_endpoint m.handle (device_of m) ep (asks e k ask)))
opens_here setup h n k ep m step ask e i well here same is at free =
    let fit = fit_at setup m ep e well here in
    let opened : LeavesDue k 2 17 (asks e k ask) (errands_of ep m.orders) (events_of ep m.news) = due_opens e k ask _ _ i fit.coherent at (found_it k e.line i at) fit.short in
    let behind : LeavesDue k 2 17 (asks e k ask) (errands_behind ep m step) (events_behind ep m step) =
    nothing_taken (λ os ns. LeavesDue k 2 17 (asks e k ask) os ns) ep m step (ask_takes m step k ask is) opened in
    record {
      e = (asks e k ask).endpoint;
      here = end_set setup m ep e step m.handle (asks e k ask) here (asks_it k i is at free);
      due = subst (λ j. IsDue j 2 17 (asks e k ask).endpoint (errands_of ep (machine_after setup m step (at_endpoint m.handle (device_of m) ep (asks e k ask))).orders) (events_of ep (machine_after setup m step (at_endpoint m.handle (device_of m) ep (asks e k ask))).news)) same
          (rw (orders_set setup m step ep m.handle (asks e k ask), news_set setup m step ep m.handle (asks e k ask)) behind);
    }

-- an ask tells the number of its transfer
asked_number : (h n k : ℕ) (step : Step) (ask : Ask) → IsAsk step k ask → is_ask h n step ≡ true → k ≡ n
asked_number h n k step ask (cancels g j) asked = eqb-true j n (and_parts (g == h) (j == n) asked).1
asked_number h n k step ask (expires g j) asked = eqb-true j n (and_parts (g == h) (j == n) asked).1

-- where it was in progress, and what is left to it
pub record Opens (setup : Setup) (n : ℕ) (m m' : Machine) : Type 0 where
  pub ep : ℕ
  pub was_there : has_in_progress n (endpoint_at m ep) ≡ true
  pub due : IsDueAt n ep 2 17 m'

-- an ask that is work opens the bound of its transfer
opens_work : (setup : Setup) (h n ep : ℕ) (m : Machine) (e : Endpoint) (step : Step) (handle : Handle) (d : EndpointEffect) → IsWell setup m → endpoint_at m ep ≡ Some e → IsWork setup m ep e step handle d → is_ask h n step ≡ true
    → Opens setup n m (machine_after setup m step (at_endpoint handle (device_of m) ep d))
opens_work setup h n ep m e step handle d well here (asks_it {ask = ask} k i is at free) asked =
    let same : k ≡ n = asked_number h n k step ask is asked in
    record {
      ep = ep;
      was_there = subst (λ j. has_in_progress j (endpoint_at m ep) ≡ true) same (ap (has_in_progress k) here ∙ ap is_some at);
      due = opens_here setup h n k ep m step ask e i well here same is at free;
    }
opens_work setup h n ep m e step handle d well here (serves dev) asked = absurd cc
opens_work setup h n ep m e step handle d well here (commands o os is) asked = absurd cc
opens_work setup h n ep m e step handle d well here (delivers event ns is) asked = absurd cc
opens_work setup h n ep m e step handle d well here (submits (anew g r) at fine short) asked = absurd cc
opens_work setup h n ep m e step handle d well here (submits (again g k x in_call) at fine short) asked = absurd cc
opens_work setup h n ep m e step handle d well here (submits (again_with g k bytes x in_call) at fine short) asked = absurd cc
opens_work setup h n ep m e step handle d well here (clears g empty) asked = absurd cc

-- an ask that does no work is not accepted
opens_rest : (setup : Setup) (h n : ℕ) (m m' : Machine) (step : Step) (done : Effect) → IsRest setup h m step done → is_ask h n step ≡ true → done.reply ≡ reply.Done → Opens setup n m m'
opens_rest setup h n m m' step done (stays {r = r} bare t) asked is = absurd (not_bare h n step r bare asked is)
opens_rest setup h n m m' step done _ asked is = absurd cc

-- an accepted ask opens the bound
pub ask_opens : (setup : Setup) (h n : ℕ) (m : Machine) (step : Step) (done : Effect) → IsWell setup m → IsDone setup h m step done → is_ask h n step ≡ true → done.reply ≡ reply.Done → Opens setup n m (machine_after setup m step done)
ask_opens setup h n m step done well (only_rests rest) asked is = opens_rest setup h n m _ step done rest asked is
ask_opens setup h n m step done well (works {handle = handle} {d = d} ep e here work) asked is = opens_work setup h n ep m e step handle d well here work asked
