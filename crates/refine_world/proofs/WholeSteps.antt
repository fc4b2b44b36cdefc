-- Serve and Command of the whole core.
use Rattle.std.proofs.Common.{Bool, List, None, Option, Some, [], ap, ap₂, append-nil, false, map, refl, subst, subst₂, sym, true, ℕ, ◌&&◌, ◌++◌, ◌==◌, ◌∙◌, ◌∷◌, ◌≡◌}
use Rattle.std.specs.Prelude.{if◌then◌else◌, unwrap_or}
use Rattle.std.specs.List.{flat_map}
use Rattle.std.proofs.lemmas.List.{map-append}
use Rattle.std.proofs.lemmas.List.Concat.{flat_map-append}
use Rattle.usb_model.specs.declared.errand.Errand.TheVariants as errand
use Rattle.usb_model.specs.declared.errand.Errand.{Errand}
use Rattle.usb_model.specs.declared.endpoint.Endpoint.{Endpoint}
use Rattle.usb_model.specs.declared.endpoint.EndpointState.TheVariants.{Halted, Running, Stopped}
use Rattle.usb_model.specs.declared.endpoint.EndpointState.{EndpointState}
use Rattle.usb_model.specs.declared.order.Order.{Order}
use Rattle.usb_model.specs.declared.step.Step.TheVariants.{Command, Serve, Unplug}
use Rattle.usb_model.specs.declared.step.Step.{Step}
use Rattle.usb_model.specs.Endpoint.Command.{command}
use Rattle.usb_model.specs.World.Journal.{is_unplug}
use Rattle.usb_model.specs.Machine.{Machine, device_of, at_endpoint, endpoint_at}
use Rattle.usb_model.specs.Endpoint.Serve.{serve}
use Rattle.usb_model.specs.Setup.{Setup, is_in, packet_size_of}
use Rattle.usb_model.specs.World.Shared.{first_name, past_first, pieces_of}
use Rattle.usb_model.specs.Machine.Turns.{command_order, command_effect, effect, serve_effect}
use Rattle.usb_model.specs.World.{World, holder, machine_of, owner_of, turn, turn_by, turn_of_nobody}
use Rattle.usb_model.specs.Coherence.{IsCoherent}
use Rattle.proof_model.proofs.Work.StepMoves.{plain_serve}
use Rattle.proof_model.proofs.Lists.Pieces.{same_name}
use Rattle.proof_model.proofs.Coherence.Commands.{coherent_command}
use Rattle.proof_model.proofs.Coherence.Serves.{coherent_serve}
use Rattle.usb_model.specs.Kept.{KeptEndpoint, Completion, KeptTransfer, SentErrand, code_of}
use Rattle.refine_world.specs.ShownEndpoint.{ShowsEnd, is_stale}
use Rattle.usb_model.specs.Commands.{Carried, carry, pause_at}
use Rattle.refine_world.specs.Kept.{Carries, Serves}
use Rattle.usb_model.specs.Events.{find_at}
use Rattle.refine_world.specs.Lively.{IsFine, goes}
use Rattle.usb_model.specs.Packets as serving
use Rattle.usb_model.specs.Packets.{walk, Answered, Packet, answered_by, answered_gone, packet_now, sent_before, serve_at, serve_kept}
use Rattle.refine_world.specs.Shows.{AllHeld, At, Completes, Core, InRun, RingEvent, RingOrder, Shows, at, completed, errands, event_at, events, here, order_of, ring_order, tellings, under_way}
use Rattle.refine_world.specs.Steps.{StepsTo, answer_work, carry_work, command_core, command_first, command_held, idle, serve_core, serve_held}
use Rattle.refine_world.proofs.Commands.{command_shows, ways}
use Rattle.refine_world.proofs.Halts.{carry_near, serve_near, stale_still}
use Rattle.refine_world.proofs.InRun.{run_carried}
use Rattle.refine_world.proofs.Links.{IsKnown, end_there, known, machine_parts, turn_works}
use Rattle.refine_world.proofs.RoomAndDequeue.{carry_few, serve_few}
use Rattle.refine_world.proofs.EndpointInvariant.{first_each}
use Rattle.refine_world.proofs.Waiters.{first_here, is_first_at}
use Rattle.refine_world.proofs.Serves.{serve_shows}
use Rattle.refine_world.proofs.Sizes.{waits_sized}
use Rattle.refine_world.proofs.PauseEvents.{packet_told, pause_told_if_open}
use Rattle.refine_world.proofs.Worked.{work_shows}

-- a step of nobody is nothing
idle_turn : (setup : Setup) (w : World) (c : Core) (step : Step) → is_unplug step ≡ false → Shows setup w c → ((idle c).entry ≡ (turn_of_nobody setup w step).entry) × Shows setup (turn_of_nobody setup w step).world (idle c).core
unfolding turn_of_nobody
idle_turn setup w c (Unplug dev) owned s = absurd cc
idle_turn setup w c _ owned s = (refl, s)

pub idle_steps : (setup : Setup) (w : World) (c : Core) (step : Step) → is_unplug step ≡ false → owner_of setup w step ≡ None → Shows setup w c → StepsTo setup w step (idle c)
unfolding turn
idle_steps setup w c step owned none s = subst (λ o. ((idle c).entry ≡ (turn_by setup o w step).entry) × Shows setup (turn_by setup o w step).world (idle c).core) (sym none) (idle_turn setup w c step owned s)

-- the core's tables are the world's
pub same_holder : (setup : Setup) (w : World) (c : Core) → Shows setup w c → (d e : ℕ) → holder setup c.claims d e ≡ holder setup w.claims d e
same_holder setup w c s d e = ap (λ claims. holder setup claims d e) s.claims

pub same_handle : (setup : Setup) (w : World) (c : Core) → Shows setup w c → (h : ℕ) → (machine_of setup h w).handle ≡ c.names h
same_handle setup w c s h = (machine_parts setup h w).0 ∙ sym (ap (λ names. names h) s.names)

pub same_gone : (setup : Setup) (w : World) (c : Core) → Shows setup w c → (h d : ℕ) → (machine_of setup h w).gone d ≡ c.gone d
same_gone setup w c s h d = ap (λ gone. gone d) ((machine_parts setup h w).4 ∙ sym s.gone)

-- what ends no order leaves the run
pub run_more : (first next : ℕ) (events more : List RingEvent) (orders : List RingOrder) → flat_map completed more ≡ [] → InRun first (under_way events orders) next → InRun first (under_way (events ++ more) (orders ++ [])) next
run_more first next events more orders none r =
    subst (λ l. InRun first l next)
    (sym (ap₂ (λ x y. x ++ map (λ (o : RingOrder). o.place) y) (flat_map-append completed events more ∙ (ap (λ l. flat_map completed events ++ l) none ∙ append-nil (flat_map completed events))) (append-nil orders))) r

-- an answer ends no order
answer_ends_none : (size dev ep : ℕ) (gone : Bool) (b : KeptEndpoint) → flat_map completed (map (event_at dev ep) (serve_kept size gone b).told) ≡ []
unfolding serve_kept serve_at answered_by answered_gone
answer_ends_none size dev ep gone b = by_state gone b.state (find_at b.dequeue b.line)
  where
    by_code : (y : KeptTransfer) (k : Packet) (o : Option ℕ) → flat_map completed (map (event_at dev ep) (answered_by b y k o).told) ≡ []
    by_code y k None = refl
    by_code y k (Some code) = refl

    by_state : (g : Bool) (s : EndpointState) (o : Option KeptTransfer) → flat_map completed (map (event_at dev ep) (serve_at size g b s o).told) ≡ []
    by_state true Running (Some y) = refl
    by_state false Running (Some y) = by_code y (packet_now size b y) (packet_now size b y).code
    by_state true Running None = refl
    by_state false Running None = refl
    by_state true Stopped o = refl
    by_state false Stopped o = refl
    by_state true Halted o = refl
    by_state false Halted o = refl

-- an answer at a held endpoint
serve_held_steps : (setup : Setup) (w : World) (c : Core) → IsFine setup → Shows setup w c → (dev ep h : ℕ) → holder setup w.claims dev ep ≡ Some h → StepsTo setup w (Serve dev ep) (serve_held setup c dev ep (Some h))
unfolding serve_held effect serve_effect
serve_held_steps setup w c fine s dev ep h holds =
    let e : Endpoint = w.endpoints dev ep in
    let m : Machine = machine_of setup h w in
    let size : ℕ = packet_size_of setup dev ep in
    let k : IsKnown setup w h dev ep (errands (at dev ep s.orders)) (events (at dev ep s.news)) = known setup w c s fine h dev ep holds in
    let world_of = s.endpoints h dev ep holds in
    let served : Serves size (serve size (c.gone dev) e) (serve_kept size (c.gone dev) (c.endpoints dev ep)) (errands (at dev ep s.orders)) (events (at dev ep s.news)) (at dev ep s.orders) (tellings (at dev ep s.news)) =
    serve_shows size (c.gone dev) e _ _ (c.endpoints dev ep) _ _ k.fit.coherent world_of k.lively.orderly.behind
    (λ x y first. packet_told size (is_in ep) e (c.endpoints dev ep) (waits_sized size e x k.lively.sized first) k.lively.orderly.opens k.lively.orderly.stalls world_of.device_halted (λ i is. first_each (goes (is_in ep)) e.line i k.lively.bodies is) k.lively.kinds x y first) in
    work_shows setup w c s h dev ep (Serve dev ep) (c.names h) (serve size (c.gone dev) e) (answer_work (serve_kept size (c.gone dev) (c.endpoints dev ep)))
    (record {
      turns = turn_works setup w h dev ep (Serve dev ep) (c.names h) (serve size (c.gone dev) e) holds
          (ap (serve_effect setup m dev ep) k.end ∙ ap₂ (λ x g. at_endpoint x dev ep (serve size g e)) (same_handle setup w c s h) (same_gone setup w c s h dev));
      holds = holds;
      owned = refl;
      no_result = refl;
      first_order = λ q. absurd cc;
      first_news = λ q. absurd cc;
      reply = served.reply;
      results = sym (plain_serve size (c.gone dev) e).1;
      coherent = coherent_serve size (c.gone dev) e _ _ k.fit.coherent;
      shows = subst (λ l. ShowsEnd size (serve size (c.gone dev) e).endpoint (errands (at dev ep s.orders) ++ (serve size (c.gone dev) e).orders) (events (at dev ep s.news) ++ (serve size (c.gone dev) e).news) (serve_kept size (c.gone dev) (c.endpoints dev ep)).endpoint l (tellings (at dev ep s.news) ++ (serve_kept size (c.gone dev) (c.endpoints dev ep)).told)) (sym (append-nil (at dev ep s.orders))) served.shows;
      few = serve_few size (c.gone dev) (c.endpoints dev ep) (s.few dev ep);
      near = λ stale. serve_near size (c.gone dev) e _ _ (c.endpoints dev ep) _ _ k.fit.coherent world_of (s.near h dev ep holds) (λ runs. stale_still _ _ _ stale (sym served.shows.state ∙ runs));
      first = s.first;
      in_run = run_more s.first c.posted c.events _ c.orders (answer_ends_none size dev ep (c.gone dev) (c.endpoints dev ep)) s.in_run;
    })

-- Serve
pub serve_steps : (setup : Setup) (w : World) (c : Core) → IsFine setup → Shows setup w c → (dev ep : ℕ) → StepsTo setup w (Serve dev ep) (serve_core setup c dev ep)
unfolding serve_core serve_held
serve_steps setup w c fine s dev ep = subst (λ o. StepsTo setup w (Serve dev ep) (serve_held setup c dev ep o)) (sym (same_holder setup w c s dev ep)) (by_holder (holder setup w.claims dev ep) refl)
  where
    by_holder : (o : Option ℕ) → holder setup w.claims dev ep ≡ o → StepsTo setup w (Serve dev ep) (serve_held setup c dev ep o)
    by_holder None none = idle_steps setup w c (Serve dev ep) refl none s
    by_holder (Some h) holds = serve_held_steps setup w c fine s dev ep h holds

-- an order that was carried out tells its completion last, behind what ends no order
record Completed (dev ep index : ℕ) (a : Carried) : Type 0 where
  pause : List RingEvent
  code : ℕ
  none : flat_map completed pause ≡ []
  told : map (event_at dev ep) a.told ≡ pause ++ Completes dev index code ∷ []

carry_tells : (dev ep index : ℕ) (b : KeptEndpoint) (o : Errand) (s : EndpointState) → Completed dev ep index (carry index b o s)
unfolding carry
carry_tells dev ep index b o s = by_order o s
  where
    paused : (y : Option KeptTransfer) → flat_map completed (map (event_at dev ep) (pause_at b y)) ≡ []
    paused None = refl
    paused (Some y) = by_test (sent_before b y == 0)
      where
        by_test : (t : Bool) → flat_map completed (map (event_at dev ep) (if t then [] else serving.event_at b y (walk b y 0) 26 ∷ [])) ≡ []
        by_test true = refl
        by_test false = refl

    stop : Completed dev ep index (carry index b errand.Stop Running)
    stop = record { pause = map (event_at dev ep) (pause_at b (find_at b.dequeue b.line)); code = code_of true; none = paused (find_at b.dequeue b.line); told = map-append (event_at dev ep) (pause_at b (find_at b.dequeue b.line)) (Completion index (code_of true) ∷ []) }

    by_order : (x : Errand) (t : EndpointState) → Completed dev ep index (carry index b x t)
    by_order errand.Stop Running = stop
    by_order errand.Stop Stopped = record { pause = []; code = code_of false; none = refl; told = refl }
    by_order errand.Stop Halted = record { pause = []; code = code_of false; none = refl; told = refl }
    by_order errand.Reset Running = record { pause = []; code = code_of false; none = refl; told = refl }
    by_order errand.Reset Stopped = record { pause = []; code = code_of false; none = refl; told = refl }
    by_order errand.Reset Halted = record { pause = []; code = code_of true; none = refl; told = refl }
    by_order errand.Move Running = record { pause = []; code = code_of false; none = refl; told = refl }
    by_order errand.Move Stopped = record { pause = []; code = code_of true; none = refl; told = refl }
    by_order errand.Move Halted = record { pause = []; code = code_of false; none = refl; told = refl }

-- and makes no result
command_results : (size ep : ℕ) (e : Endpoint) (o : Errand) (s : EndpointState) → (command size ep e o s).results ≡ []
unfolding command
command_results size ep e errand.Stop Running = refl
command_results size ep e errand.Stop Stopped = refl
command_results size ep e errand.Stop Halted = refl
command_results size ep e errand.Reset Running = refl
command_results size ep e errand.Reset Stopped = refl
command_results size ep e errand.Reset Halted = refl
command_results size ep e errand.Move Running = refl
command_results size ep e errand.Move Stopped = refl
command_results size ep e errand.Move Halted = refl

-- the machine carries out the first order
command_effect_is : (setup : Setup) (h : ℕ) (m : Machine) (dev ep : ℕ) (o : Errand) (os : List Order) (e : Endpoint) → m.orders ≡ record { ep = ep; errand = o } ∷ os → endpoint_at m ep ≡ Some e → device_of m ≡ dev
    → effect setup h m Command ≡ at_endpoint m.handle dev ep (command (packet_size_of setup dev ep) ep e o e.state)
unfolding effect command_effect command_order
command_effect_is setup h m dev ep o os e is here same =
    ap (command_effect setup m) is ∙ (ap (command_order setup m (record { ep = ep; errand = o })) here ∙ ap (λ d. at_endpoint m.handle d ep (command (packet_size_of setup d ep) ep e o e.state)) same)

-- the first order
command_held_steps : (setup : Setup) (w : World) (c : Core) (x : At SentErrand) (xs : List (At SentErrand)) → IsFine setup → (s : Shows setup w c) → s.orders ≡ x ∷ xs → StepsTo setup w Command (command_held c (ring_order x) (Some x.name))
unfolding command_held
command_held_steps setup w c x xs fine s is =
    let dev : ℕ = x.dev in
    let ep : ℕ = x.ep in
    let h : ℕ = x.name in
    let o : Errand = x.what.errand in
    let e : Endpoint = w.endpoints dev ep in
    let m : Machine = machine_of setup h w in
    let size : ℕ = packet_size_of setup dev ep in
    let b : KeptEndpoint = c.endpoints dev ep in
    let held = subst (AllHeld setup w.claims) is s.orders_held in
    let holds : holder setup w.claims dev ep ≡ Some h = held.0 in
    let here_it_is : here dev ep x ≡ true = ap₂ (λ p q. p && q) (same_name dev) (same_name ep) in
    let first : at dev ep s.orders ≡ x.what ∷ at dev ep xs = ap (at dev ep) is ∙ first_here dev ep x xs here_it_is in
    let left : past_first true s.orders ≡ xs = ap (past_first true) is in
    let k : IsKnown setup w h dev ep (errands (x.what ∷ at dev ep xs)) (events (at dev ep s.news)) = subst (λ l. IsKnown setup w h dev ep (errands l) (events (at dev ep s.news))) first (known setup w c s fine h dev ep holds) in
    let world_of : ShowsEnd size e (errands (x.what ∷ at dev ep xs)) (events (at dev ep s.news)) b (x.what ∷ at dev ep xs) (tellings (at dev ep s.news)) = subst (λ l. ShowsEnd size e (errands l) (events (at dev ep s.news)) b l (tellings (at dev ep s.news))) first (s.endpoints h dev ep holds) in
    let carried : Carries size ep o (command size ep e o e.state) (carry x.what.index b o b.state) (errands (at dev ep xs)) (events (at dev ep s.news)) (at dev ep xs) (tellings (at dev ep s.news)) =
    (command_shows size ep e o (errands (at dev ep xs)) (events (at dev ep s.news)) b x.what (at dev ep xs) (tellings (at dev ep s.news)) k.fit.coherent k.lively.orderly (λ y first. pause_told_if_open size e (waits_sized size e y k.lively.sized first) k.lively.orderly.opens y first) world_of).1 in
    let tells : Completed dev ep x.what.index (carry x.what.index b o b.state) = carry_tells dev ep x.what.index b o b.state in
    let pieces : m.orders ≡ record { ep = ep; errand = o } ∷ pieces_of h (map order_of xs) = (machine_parts setup h w).1 ∙ (ap (pieces_of h) (s.orders_shown ∙ ap (map order_of) is) ∙ rw (same_name h) refl) in
    let same : device_of m ≡ dev = ap (λ o. unwrap_or o 0) (ap (λ x. x.device) (machine_parts setup h w).0 ∙ k.device) in
    work_shows setup w c s h dev ep Command (c.names h) (command size ep e o e.state) (carry_work ep o (carry x.what.index b o b.state))
    (record {
      turns = turn_works setup w h dev ep Command (c.names h) (command size ep e o e.state) (ap first_name (s.orders_shown ∙ ap (map order_of) is))
          (command_effect_is setup h m dev ep o (pieces_of h (map order_of xs)) e pieces (end_there setup w h dev ep k.device holds) same ∙ ap (λ x. at_endpoint x dev ep (command size ep e o e.state)) (same_handle setup w c s h));
      holds = holds;
      owned = refl;
      no_result = refl;
      first_order = λ q. ap (is_first_at dev ep) is ∙ here_it_is;
      first_news = λ q. absurd cc;
      reply = carried.reply;
      results = sym (command_results size ep e o e.state);
      coherent = subst (λ l. IsCoherent (command size ep e o e.state).endpoint (errands (at dev ep l) ++ (command size ep e o e.state).orders) (events (at dev ep s.news) ++ (command size ep e o e.state).news)) (sym left)
          (coherent_command size ep e o (errands (at dev ep xs)) (events (at dev ep s.news)) k.fit.coherent);
      shows = subst (λ l. ShowsEnd size (command size ep e o e.state).endpoint (errands (at dev ep l) ++ (command size ep e o e.state).orders) (events (at dev ep s.news) ++ (command size ep e o e.state).news) (carry x.what.index b o b.state).endpoint (at dev ep l ++ []) (tellings (at dev ep s.news) ++ (carry x.what.index b o b.state).told)) (sym left)
          (subst (λ l. ShowsEnd size (command size ep e o e.state).endpoint (errands (at dev ep xs) ++ (command size ep e o e.state).orders) (events (at dev ep s.news) ++ (command size ep e o e.state).news) (carry x.what.index b o b.state).endpoint l (tellings (at dev ep s.news) ++ (carry x.what.index b o b.state).told)) (sym (append-nil (at dev ep xs))) carried.shows);
      few = carry_few x.what.index b o b.state (s.few dev ep);
      near = λ stale. carry_near size ep x.what.index e b o (errands (at dev ep xs)) _ _ (tellings (at dev ep s.news)) (ways e.state e.errand o (errands (at dev ep xs)) _ _ k.fit.coherent.phase) world_of.state (s.near h dev ep holds)
          (subst (λ l. is_stale (command size ep e o e.state).endpoint.state (command size ep e o e.state).endpoint.errand (errands (at dev ep l) ++ (command size ep e o e.state).orders) ≡ true) left stale);
      first = s.first;
      in_run = subst₂ (λ l m. InRun s.first (under_way (c.events ++ l) m) c.posted) (sym tells.told)
          (sym (append-nil (past_first true c.orders) ∙ ap (past_first true) (s.orders_kept ∙ ap (map ring_order) is)))
          (run_carried s.first c.posted dev tells.code c.events tells.pause (ring_order x) (map ring_order xs) tells.none (subst (λ l. InRun s.first (under_way c.events l) c.posted) (s.orders_kept ∙ ap (map ring_order) is) s.in_run));
    })

-- Command
pub command_steps : (setup : Setup) (w : World) (c : Core) → IsFine setup → Shows setup w c → StepsTo setup w Command (command_core setup c)
unfolding command_core command_first command_held
command_steps setup w c fine s = subst (λ l. StepsTo setup w Command (command_first setup c l)) (sym s.orders_kept) (by_orders s.orders refl)
  where
    by_orders : (l : List (At SentErrand)) → s.orders ≡ l → StepsTo setup w Command (command_first setup c (map ring_order l))
    by_orders [] none = idle_steps setup w c Command refl (ap first_name (s.orders_shown ∙ ap (map order_of) none)) s
    by_orders (x ∷ xs) is =
        let held = subst (AllHeld setup w.claims) is s.orders_held in
        subst (λ o. StepsTo setup w Command (command_held c (ring_order x) o)) (sym (same_holder setup w c s x.dev x.ep ∙ held.0)) (command_held_steps setup w c x xs fine s is)
