-- What more holds of an endpoint, over every run: each endpoint of a machine is orderly, its transfers and its device's answers go in its direction.
use Rattle.std.proofs.Common.{Bool, List, None, Option, Some, [], ap, false, inl, inr, map, refl, subst, suc, sym, true, zero, ℕ, ◌&&◌, ◌==◌, ◌∷◌, ◌≡◌}
use Rattle.std.specs.Prelude.{if◌then◌else◌, length, drop}
use Rattle.std.specs.List.{list_all, AllByRecursion}
use Rattle.std.specs.Option.{option_map}
use Rattle.std.proofs.lemmas.Bool.{and_parts, eqb-true}
use Rattle.usb_model.specs.declared.response.Response.{Response}
use Rattle.usb_model.specs.declared.errand.Errand.{Errand}
use Rattle.usb_model.specs.declared.errand.Errand.TheVariants as errand
use Rattle.usb_model.specs.declared.endpoint_effect.EndpointEffect.{EndpointEffect}
use Rattle.usb_model.specs.declared.effect.Change.TheVariants.{Drops, Frees, Gains, Keeps, Renews, Sets}
use Rattle.usb_model.specs.declared.effect.Change.{Change}
use Rattle.usb_model.specs.declared.effect.Effect.{Effect}
use Rattle.usb_model.specs.declared.endpoint.Endpoint.{Endpoint}
use Rattle.usb_model.specs.declared.endpoint.EndpointState.TheVariants.{Halted, Running, Stopped}
use Rattle.usb_model.specs.declared.endpoint.EndpointState.{EndpointState}
use Rattle.usb_model.specs.declared.handle.Handle.{Handle}
use Rattle.usb_model.specs.declared.item.Item.{Item}
use Rattle.usb_model.specs.declared.item.Ask.{Ask}
use Rattle.usb_model.specs.declared.item.ItemState.TheVariants.{Blank}
use Rattle.usb_model.specs.declared.news.Event.TheVariants.{Finished, Paused, Settled}
use Rattle.usb_model.specs.declared.news.Event.{Event}
use Rattle.usb_model.specs.declared.outcome.Outcome.{Outcome}
use Rattle.usb_model.specs.declared.reply.Reply.{Reply}
use Rattle.usb_model.specs.declared.reply.Reply.TheVariants as reply
use Rattle.usb_model.specs.declared.result.TransferResult.{TransferResult}
use Rattle.usb_model.specs.declared.step.Step.{Step}
use Rattle.usb_model.specs.Machine.Calls.{asks, with_ask}
use Rattle.usb_model.specs.Endpoint.Command.{command}
use Rattle.usb_model.specs.Direction.{is_of_direction, IsBody}
use Rattle.usb_model.specs.Endpoint.Deliver.{blanked, deliver, finished_result, is_withdrawn, leads_blank, line_after, needs_reset, orders_errand, resume, withdrawn}
use Rattle.usb_model.specs.Endpoint.{first_waiting, fresh, is_waiting, in_progress, past_blanks, past_number, new_item, outcome_of}
use Rattle.usb_model.specs.Machine.{Machine, device_of, at_endpoint, endpoint_at, is_gone, new_machine}
use Rattle.usb_model.specs.Endpoint.Serve.{next_answer, serve, serve_by, serve_first, serve_gone}
use Rattle.usb_model.specs.Requests.{is_unsupported}
use Rattle.usb_model.specs.Setup.{Setup, is_in, is_within, kind_of, packet_size_of}
use Rattle.usb_model.specs.Endpoint.Status.{halts}
use Rattle.usb_model.specs.Machine.Turns.{effect, ends_after, machine_after}
use Rattle.usb_model.specs.World.{World, machine_of, new_world, turn, world_from}
use Rattle.usb_model.specs.Coherence.{IsCoherent}
use Rattle.proof_model.proofs.Handles.Isolation.{IsEither, new_machine_of, turn_to}
use Rattle.proof_model.proofs.Work.Moves.{SetsNone}
use Rattle.std.proofs.lemmas.Option.{same_Some}
use Rattle.proof_model.proofs.Cut.Steps.{rest_sets}
use Rattle.proof_model.proofs.Machines.Deeds.{IsDone, IsWork, asks_it, clears, commands, delivers, only_rests, serves, submits, works}
use Rattle.usb_model.specs.Fitness.{IsWell, errands_of, events_of}
use Rattle.proof_model.proofs.Machines.Done.{is_done}
use Rattle.proof_model.proofs.Machines.Idle.{at_device_of}
use Rattle.proof_model.proofs.Machines.Well.{fit_at, first_news, first_order, well_kept, well_new}
use Rattle.refine_world.specs.Kept.{outcome_now}
use Rattle.refine_world.specs.Lively.{IsFine, IsLively, IsSized, goes}
use Rattle.refine_world.proofs.Orderly.Serves.{answer_goes, orderly_serve}
use Rattle.refine_world.proofs.Orderly.Lines.{each_blanks, each_first, each_map, each_number, each_push}
use Rattle.refine_world.proofs.Orderly.Works.{orderly_ask, orderly_cleared, orderly_command, orderly_deliver, orderly_fresh, orderly_submit}
use Rattle.refine_world.proofs.Sizes.{asked_sized, ordered_sized, served_sized, submits_supported, told_sized, waits_sized}
use Rattle.proof_model.proofs.Shares.Next.{good_body}

-- the first that waits is one of the line
pub first_each : (P : Item → Type 0) (xs : List Item) (x : Item) → AllByRecursion P xs → first_waiting xs ≡ Some x → P x
unfolding first_waiting
first_each P [] x a e = absurd cc
first_each P (y ∷ ys) x a e = by_test (is_waiting y) e (first_each P ys x a.1)
  where
    by_test : (b : Bool) → (if b then Some y else first_waiting ys) ≡ Some x → (first_waiting ys ≡ Some x → P x) → P x
    by_test true q rest = subst P (same_Some y x q) a.0
    by_test false q rest = rest q

-- behind answers, the answers' direction
all_drop : (test : Response → Bool) (n : ℕ) (xs : List Response) → list_all test xs ≡ true → list_all test (drop n xs) ≡ true
all_drop test zero xs e = e
all_drop test (suc n) [] e = e
all_drop test (suc n) (x ∷ xs) e = all_drop test n xs (and_parts (test x) (list_all test xs) e).1

-- whether it goes is kept where the request is
blanked_goes : (inward : Bool) (x : Item) → goes inward x → goes inward (blanked x)
blanked_goes inward x g = by_test (is_withdrawn x)
  where
    by_test : (b : Bool) → goes inward (if b then record x { state = Blank } else x)
    by_test true = g
    by_test false = g

asked_goes : (inward : Bool) (n : ℕ) (ask : Ask) (x : Item) → goes inward x → goes inward (with_ask n ask x)
asked_goes inward n ask x g = by_test (x.n == n)
  where
    by_test : (b : Bool) → goes inward (if b then record x { ask = Some ask } else x)
    by_test true = g
    by_test false = g

serve_goes : (size : ℕ) (inward gone : Bool) (e : Endpoint) → AllByRecursion (goes inward) e.line → list_all (is_of_direction inward) e.script_left ≡ true
    → AllByRecursion (goes inward) (serve size gone e).endpoint.line × (list_all (is_of_direction inward) (serve size gone e).endpoint.script_left ≡ true)
unfolding serve serve_first serve_gone serve_by
serve_goes size inward gone e a k = by_state gone e.state (first_waiting e.line) refl
  where
    Goes : Endpoint → Type 0
    Goes end = AllByRecursion (goes inward) end.line × (list_all (is_of_direction inward) end.script_left ≡ true)

    by_code : (x : Item) (after : Outcome) → first_waiting e.line ≡ Some x → (o : Option ℕ) → Goes (serve_by e x (outcome_of size x) after o).endpoint
    by_code x after first None = (each_first (goes inward) e.line _ (first_each (goes inward) e.line x a first) a, all_drop _ (length (next_answer e)) e.script_left k)
    by_code x after first (Some code) = (each_first (goes inward) e.line _ (first_each (goes inward) e.line x a first) a, all_drop _ (length (next_answer e)) e.script_left k)

    by_state : (g : Bool) (s : EndpointState) (o : Option Item) → first_waiting e.line ≡ o → Goes (serve_first size g e s o).endpoint
    by_state true Running (Some x) first = (each_first (goes inward) e.line _ (first_each (goes inward) e.line x a first) a, k)
    by_state false Running (Some x) first = by_code x (outcome_now size e x) first (outcome_now size e x).code
    by_state true Running None first = (a, k)
    by_state false Running None first = (a, k)
    by_state true Stopped o first = (a, k)
    by_state false Stopped o first = (a, k)
    by_state true Halted o first = (a, k)
    by_state false Halted o first = (a, k)

command_goes : (inward : Bool) (size ep : ℕ) (e : Endpoint) (o : Errand) (s : EndpointState) → AllByRecursion (goes inward) e.line → list_all (is_of_direction inward) e.script_left ≡ true
    → AllByRecursion (goes inward) (command size ep e o s).endpoint.line × (list_all (is_of_direction inward) (command size ep e o s).endpoint.script_left ≡ true)
unfolding command
command_goes inward size ep e errand.Stop Running a k = (a, k)
command_goes inward size ep e errand.Stop Stopped a k = (a, k)
command_goes inward size ep e errand.Stop Halted a k = (a, k)
command_goes inward size ep e errand.Reset Running a k = (a, k)
command_goes inward size ep e errand.Reset Stopped a k = (a, k)
command_goes inward size ep e errand.Reset Halted a k = (a, k)
command_goes inward size ep e errand.Move Running a k = (a, k)
command_goes inward size ep e errand.Move Stopped a k = (a, k)
command_goes inward size ep e errand.Move Halted a k = (a, k)

deliver_goes : (inward : Bool) (size ep : ℕ) (gone : Bool) (e : Endpoint) (event : Event) → AllByRecursion (goes inward) e.line → list_all (is_of_direction inward) e.script_left ≡ true
    → AllByRecursion (goes inward) (deliver size ep gone e event).endpoint.line × (list_all (is_of_direction inward) (deliver size ep gone e event).endpoint.script_left ≡ true)
unfolding deliver resume
deliver_goes inward size ep gone e event a k = by_event event
  where
    Goes : Endpoint → Type 0
    Goes end = AllByRecursion (goes inward) end.line × (list_all (is_of_direction inward) end.script_left ≡ true)

    resumed : (re : Reply) (line : List Item) → AllByRecursion (goes inward) line → Goes (resume size e re line).endpoint
    resumed re line all = by_test (leads_blank (map blanked line))
      where
        more : AllByRecursion (goes inward) (map blanked line)
        more = each_map (goes inward) blanked (blanked_goes inward) line all

        by_test : (b : Bool) → Goes (if◌then◌else◌ {A = EndpointEffect} b (orders_errand (record e { line = map blanked line }) errand.Move re (withdrawn size line)) (record { reply = re; endpoint = record e { line = map blanked line; errand = None; state = Running }; orders = []; news = []; results = withdrawn size line })).endpoint
        by_test true = (more, k)
        by_test false = (more, k)

    by_event : (v : Event) → Goes (deliver size ep gone e v).endpoint
    by_event (Finished n code) = by_test (needs_reset code e.errand)
      where
        past : AllByRecursion (goes inward) (line_after n code e.line)
        past = by_halt (halts code)
          where
            by_halt : (b : Bool) → AllByRecursion (goes inward) (if b then past_number n e.line else past_blanks (past_number n e.line))
            by_halt true = each_number (goes inward) n e.line a
            by_halt false = each_blanks (goes inward) (past_number n e.line) (each_number (goes inward) n e.line a)

        after : Endpoint
        after = record e { line = line_after n code e.line }

        results : List TransferResult
        results = finished_result size gone code (in_progress n e.line)

        by_test : (b : Bool) → Goes (if◌then◌else◌ {A = EndpointEffect} b (orders_errand after errand.Reset (reply.Finished n) results) (record { reply = reply.Finished n; endpoint = after; orders = []; news = []; results = results })).endpoint
        by_test true = (past, k)
        by_test false = (past, k)
    by_event (Paused n) = (a, k)
    by_event (Settled errand.Stop false) = (a, k)
    by_event (Settled errand.Stop true) = resumed _ e.line a
    by_event (Settled errand.Reset ok) = (each_map (goes inward) blanked (blanked_goes inward) e.line a, k)
    by_event (Settled errand.Move ok) = resumed _ (past_blanks e.line) (each_blanks (goes inward) e.line a)

fresh_lively : (setup : Setup) (d e : ℕ) → IsFine setup → IsLively setup d e (fresh setup d e)
unfolding fresh
fresh_lively setup d e fine = record { orderly = orderly_fresh (packet_size_of setup d e) setup d e; bodies = tt; kinds = fine.kinds d e; sized = inr (refl, refl) }

ask_lively : (setup : Setup) (d ep : ℕ) (e : Endpoint) (n : ℕ) (ask : Ask) (i : Item) → in_progress n e.line ≡ Some i → IsLively setup d ep e → IsLively setup d ep (asks e n ask).endpoint
unfolding asks
ask_lively setup d ep e n ask i is l = record {
  orderly = orderly_ask (packet_size_of setup d ep) e n ask l.orderly;
  bodies = each_map (goes (is_in ep)) (with_ask n ask) (asked_goes (is_in ep) n ask) e.line l.bodies;
  kinds = l.kinds;
  sized = inl (asked_sized (packet_size_of setup d ep) e n i l.sized is);
}

-- each kind of work keeps an endpoint lively
work_lively : (setup : Setup) (h : ℕ) (m : Machine) (ep : ℕ) (e : Endpoint) (step : Step) (handle : Handle) (doing : EndpointEffect) → IsFine setup → IsWell setup m → endpoint_at m ep ≡ Some e → IsWork setup m ep e step handle doing → (effect setup h m step).reply ≡ doing.reply
    → IsLively setup (device_of m) ep e → IsLively setup (device_of m) ep doing.endpoint
work_lively setup h m ep e step handle doing fine well here (serves dev) says l =
    let g = serve_goes (packet_size_of setup (device_of m) ep) (is_in ep) (is_gone m) e l.bodies l.kinds in
    record {
      orderly = orderly_serve (packet_size_of setup (device_of m) ep) (is_gone m) e _ _ (fit_at setup m ep e well here).coherent l.orderly
          (λ x first. answer_goes (packet_size_of setup (device_of m) ep) (is_in ep) e x (waits_sized (packet_size_of setup (device_of m) ep) e x l.sized first) l.orderly first (first_each (goes (is_in ep)) e.line x l.bodies first) l.kinds);
      bodies = g.0;
      kinds = g.1;
      sized = served_sized (packet_size_of setup (device_of m) ep) (is_gone m) e l.sized;
    }
work_lively setup h m ep e step handle doing fine well here (commands o os is) says l =
    let g = command_goes (is_in ep) (packet_size_of setup (device_of m) ep) ep e o e.state l.bodies l.kinds in
    record {
      orderly = orderly_command (packet_size_of setup (device_of m) ep) ep e o _ _ (subst (λ l. IsCoherent e l (events_of ep m.news)) (first_order ep o m.orders os is).0 (fit_at setup m ep e well here).coherent) l.orderly;
      bodies = g.0;
      kinds = g.1;
      sized = inl (ordered_sized (packet_size_of setup (device_of m) ep) e o _ _ l.sized (subst (λ l. IsCoherent e l (events_of ep m.news)) (first_order ep o m.orders os is).0 (fit_at setup m ep e well here).coherent));
    }
work_lively setup h m ep e step handle doing fine well here (delivers event ns is) says l =
    let g = deliver_goes (is_in ep) (packet_size_of setup (device_of m) ep) ep (is_gone m) e event l.bodies l.kinds in
    record {
      orderly = orderly_deliver (packet_size_of setup (device_of m) ep) ep (is_gone m) e _ event _ (subst (λ l. IsCoherent e (errands_of ep m.orders) l) (first_news ep event m.news ns is).0 (fit_at setup m ep e well here).coherent) l.orderly;
      bodies = g.0;
      kinds = g.1;
      sized = inl (told_sized (packet_size_of setup (device_of m) ep) e _ event _ l.sized (subst (λ l. IsCoherent e (errands_of ep m.orders) l) (first_news ep event m.news ns is).0 (fit_at setup m ep e well here).coherent));
    }
work_lively setup h m ep e step handle doing fine well here (asks_it {ask = ask} n i is at free) says l = ask_lively setup (device_of m) ep e n ask i at l
work_lively setup h m ep e step handle doing fine well here (submits {handle = left} {request = request} {round = round} is at good short) says l = record {
  orderly = orderly_submit (packet_size_of setup (device_of m) ep) e m.handle.next_number request round l.orderly;
  bodies = each_push (goes (is_in ep)) e.line (new_item m.handle.next_number request round) (subst (λ k. IsBody (is_in k) request.body) at (good_body request.ep request.body good)) l.bodies;
  kinds = l.kinds;
  sized = inl (let held = well.of_held (device_of m) ep e (at_device_of m ep e here).0 in fine.sizes (device_of m) ep held.0 held.1
      (subst (λ k. is_unsupported (kind_of setup (device_of m) k) ≡ false) at (submits_supported setup h m step left request round m.handle.next_number is says)));
}
work_lively setup h m ep e step handle doing fine well here (clears g empty) says l = record { orderly = orderly_cleared (packet_size_of setup (device_of m) ep) e l.orderly; bodies = l.bodies; kinds = l.kinds; sized = cleared_sized l.sized }
  where
    cleared_sized : IsSized (packet_size_of setup (device_of m) ep) e → IsSized (packet_size_of setup (device_of m) ep) (record e { device_halted = false })
    cleared_sized (inl some) = inl some
    cleared_sized (inr idle) = inr idle

-- each endpoint of a machine
abbrev pub AllLively : Setup → Machine → Type 0
AllLively setup m = (d ep : ℕ) (e : Endpoint) → m.endpoints d ep ≡ Some e → IsLively setup d ep e

-- a change that sets no endpoint leaves each as it was, makes it new or takes it away
rest_lively : (setup : Setup) (m : Machine) (change : Change) → IsFine setup → SetsNone change → AllLively setup m → (d ep : ℕ) (e : Endpoint) → ends_after setup m.endpoints change d ep ≡ Some e → IsLively setup d ep e
rest_lively setup m Keeps fine s all d ep e is = all d ep e is
rest_lively setup m Frees fine s all d ep e is = absurd cc
rest_lively setup m (Gains dev i) fine s all d ep e is = by_test (is_within setup dev i d ep) is
  where
    by_test : (b : Bool) → (if b then Some (fresh setup d ep) else m.endpoints d ep) ≡ Some e → IsLively setup d ep e
    by_test true q = subst (IsLively setup d ep) (same_Some (fresh setup d ep) e q) (fresh_lively setup d ep fine)
    by_test false q = all d ep e q
rest_lively setup m (Drops dev i) fine s all d ep e is = by_test (is_within setup dev i d ep) is
  where
    by_test : (b : Bool) → (if b then None else m.endpoints d ep) ≡ Some e → IsLively setup d ep e
    by_test true q = absurd cc
    by_test false q = all d ep e q
rest_lively setup m (Renews dev) fine s all d ep e is = by_end (m.endpoints d ep) is
  where
    by_end : (o : Option Endpoint) → option_map (λ old. fresh setup d ep) o ≡ Some e → IsLively setup d ep e
    by_end None q = absurd cc
    by_end (Some old) q = subst (IsLively setup d ep) (same_Some (fresh setup d ep) e q) (fresh_lively setup d ep fine)
rest_lively setup m (Sets dev at x) fine s all d ep e is = absurd s

done_lively : (setup : Setup) (h : ℕ) (m : Machine) (step : Step) (done : Effect) → IsFine setup → IsWell setup m → IsDone setup h m step done → done ≡ effect setup h m step → AllLively setup m → AllLively setup (machine_after setup m step done)
unfolding machine_after at_endpoint
done_lively setup h m step done fine well (only_rests rest) same all d ep e is = rest_lively setup m done.change fine (rest_sets setup h m step done rest).0 all d ep e is
done_lively setup h m step done fine well (works {handle = handle} {d = doing} at e0 here work) same all d ep e is = by_test ((device_of m == d) && (at == ep)) refl is
  where
    new : IsLively setup (device_of m) at doing.endpoint
    new = work_lively setup h m at e0 step handle doing fine well here work (ap (λ (x : Effect). x.reply) (sym same)) (all (device_of m) at e0 (at_device_of m at e0 here).0)

    put : (o : Option Endpoint) → device_of m ≡ d → at ≡ ep → option_map (λ old. doing.endpoint) o ≡ Some e → IsLively setup d ep e
    put None p q i = absurd cc
    put (Some old) p q i = subst (IsLively setup d ep) (same_Some doing.endpoint e i) (subst (λ k. IsLively setup k ep doing.endpoint) p (subst (λ k. IsLively setup (device_of m) k doing.endpoint) q new))

    by_test : (b : Bool) → ((device_of m == d) && (at == ep)) ≡ b → (if b then option_map (λ old. doing.endpoint) (m.endpoints d ep) else m.endpoints d ep) ≡ Some e → IsLively setup d ep e
    by_test true t q = let p = and_parts (device_of m == d) (at == ep) t in put (m.endpoints d ep) (eqb-true _ _ p.0) (eqb-true _ _ p.1) q
    by_test false t q = all d ep e q

-- a machine that is well, and whose endpoints are lively
pub record IsSound (setup : Setup) (m : Machine) : Type 0 where
  pub well : IsWell setup m
  pub lively : AllLively setup m

sound_step : (setup : Setup) (h : ℕ) (m : Machine) (step : Step) → IsFine setup → IsSound setup m → IsSound setup (machine_after setup m step (effect setup h m step))
sound_step setup h m step fine s = record { well = well_kept setup h m step s.well; lively = done_lively setup h m step (effect setup h m step) fine s.well (is_done setup h m step s.well) refl s.lively }

pub sound_turn : (setup : Setup) (w : World) (step : Step) → IsFine setup → ((h : ℕ) → IsSound setup (machine_of setup h w)) → (h : ℕ) → IsSound setup (machine_of setup h (turn setup w step).world)
sound_turn setup w step fine s h = by_turn (turn_to setup h w step)
  where
    by_turn : IsEither setup h w step (turn setup w step) → IsSound setup (machine_of setup h (turn setup w step).world)
    by_turn (inl own) = subst (IsSound setup) (sym own.3) (sound_step setup h (machine_of setup h w) step fine (s h))
    by_turn (inr nothing) = subst (IsSound setup) (sym nothing.1) (s h)

pub sound_from : (setup : Setup) (w : World) (steps : List Step) → IsFine setup → ((h : ℕ) → IsSound setup (machine_of setup h w)) → (h : ℕ) → IsSound setup (machine_of setup h (world_from setup w steps))
unfolding world_from
sound_from setup w [] fine s h = s h
sound_from setup w (step ∷ steps) fine s h = sound_from setup (turn setup w step).world steps fine (sound_turn setup w step fine s) h

sound_new : (setup : Setup) → IsSound setup new_machine
unfolding new_machine
sound_new setup = record { well = well_new setup; lively = λ d ep e is. absurd cc }

-- over every run, each handle's machine
pub sound_at : (setup : Setup) (steps : List Step) → IsFine setup → (h : ℕ) → IsSound setup (machine_of setup h (world_from setup (new_world setup) steps))
sound_at setup steps fine h = sound_from setup (new_world setup) steps fine (λ g. subst (IsSound setup) (sym (new_machine_of setup g)) (sound_new setup)) h
