-- Whoever has work after a step had some before, or is named by the rule.
use Rattle.std.proofs.Common.{Bool, List, None, Option, Some, [], ap, append-nil, arith, false, refl, subst, sym, true, ℕ, ◌+◌, ◌&&◌, ◌++◌, ◌==◌, ◌∙◌, ◌∷◌, ◌≡◌, inl, inr, ◌⊎◌, length}
use Rattle.std.specs.Prelude.{◌||◌, if◌then◌else◌, not}
use Rattle.std.proofs.Math.Bool.{or-false}
use Rattle.std.proofs.lemmas.Bool.{and_parts, eqb-true, false≢true}
use Rattle.std.proofs.lemmas.Option.{same_Some}
use Rattle.usb_model.specs.declared.effect.Change.TheVariants.{Keeps}
use Rattle.usb_model.specs.declared.effect.Effect.{Effect}
use Rattle.usb_model.specs.declared.endpoint.Endpoint.{Endpoint}
use Rattle.usb_model.specs.declared.endpoint.EndpointState.{EndpointState}
use Rattle.usb_model.specs.declared.endpoint.EndpointState.TheVariants.{Halted, Running, Stopped}
use Rattle.usb_model.specs.declared.endpoint_effect.EndpointEffect.{EndpointEffect}
use Rattle.usb_model.specs.declared.errand.Errand.{Errand}
use Rattle.usb_model.specs.declared.errand.Errand.TheVariants as errand
use Rattle.usb_model.specs.declared.handle.Handle.{Handle}
use Rattle.usb_model.specs.declared.news.Event.{Event}
use Rattle.usb_model.specs.declared.news.Event.TheVariants.{Finished, Paused, Settled}
use Rattle.usb_model.specs.declared.news.News.{News}
use Rattle.usb_model.specs.declared.refused.Refused.TheVariants.{NoDevice, NotFound}
use Rattle.usb_model.specs.declared.request.Request.{Request}
use Rattle.usb_model.specs.declared.reply.Reply.{Reply}
use Rattle.usb_model.specs.declared.reply.Reply.TheVariants as reply
use Rattle.usb_model.specs.declared.shared.Tagged.{Tagged}
use Rattle.usb_model.specs.declared.step.Step.{Step}
use Rattle.usb_model.specs.declared.step.Step.TheVariants.{Answer, Command, Deliver, Serve, Submit, Take, Unplug}
use Rattle.usb_model.specs.declared.verdict.Verdict.TheVariants.{Again, AgainWith, Stop}
use Rattle.usb_model.specs.Endpoint.Command.{command}
use Rattle.usb_model.specs.Endpoint.Deliver.{deliver}
use Rattle.usb_model.specs.Endpoint.Serve.{serve}
use Rattle.usb_model.specs.Fitness.{errands_of, events_of}
use Rattle.usb_model.specs.Coherence.{IsCoherent}
use Rattle.usb_model.specs.Machine.{Machine, at_endpoint, device_of, does, endpoint_at, news_at, orders_at, says}
use Rattle.usb_model.specs.Machine.Calls.{asks, called_back, submitted}
use Rattle.usb_model.specs.Machine.Turns.{gone_after, take_effect, takes_news, takes_order, takes_result}
use Rattle.usb_model.specs.Setup.{Setup, is_device, packet_size_of}
use Rattle.usb_model.specs.World.{World, Turn, holder, is_blocked, is_its, machine_of, new_world, owner_of, turn, turn_by, turn_of, turn_of_nobody, world_after, world_from}
use Rattle.usb_model.specs.World.Shared.{first_name, past_first, pieces_of, tagged}
use Rattle.usb_model.specs.World.Journal.{is_unplug}
use Rattle.proof_model.proofs.Machines.Deeds.{IsDone, IsRest, IsWork, TakesNone, again, again_with, anew, asks_it, cancels, claims, claims_again, clears, closes, commands, delivers, expires, idles, only_rests, opens, refuses, releases, resets, serves, stays, stops, submits, takes, unplugs, works}
use Rattle.proof_model.proofs.Machines.Done.{is_done}
use Rattle.proof_model.proofs.Machines.Idle.{at_device_of}
use Rattle.proof_model.proofs.Machines.Well.{first_news, fit_at}
use Rattle.proof_model.proofs.Places.Runs.{kept_at}
use Rattle.proof_model.proofs.Handles.Isolation.{effect_to, gone_stays, takes_its_news, takes_its_order, takes_its_result, turn_blocked, turn_free}
use Rattle.proof_model.proofs.Lists.Pieces.{same_name}
use Rattle.usb_core.specs.Public.{does_something, serves as serves_at}
use Rattle.usb_library.specs.declared.wakes.WorkerPart.{WorkerPart}
use Rattle.usb_library.specs.declared.wakes.WorkerPart.TheVariants.{Controller, Events}
use Rattle.usb_library.specs.declared.wakes.Work.{Work}
use Rattle.usb_library.specs.declared.wakes.Work.TheVariants as work
use Rattle.usb_library.specs.Wakes.{HasWork, NamesNewWork, Wakes, names, work_of}
use Rattle.usb_library.proofs.Served.{PostsEnds, deliver_leaves, deliver_says, idle_again, is_served, said_of, says_ended, says_settled, serve_posts}
use Rattle.usb_library.proofs.Works.{AllWell, commands as commands_does, delivers as delivers_does, news_waits, order_waits, result_waits, served_by, serves_is, takes as takes_does, waits}

-- the controller's work in a world whose packets and orders are those of another
controller : (setup : Setup) (w v : World) → AllWell setup w → ((d e : ℕ) → serves_at setup v d e ≡ true → HasWork setup w Controller) → (waits v.orders ≡ true → waits w.orders ≡ true) → HasWork setup v Controller → HasWork setup w Controller
controller setup w v well packets orders (inl (d, e, s)) = packets d e s
controller setup w v well packets orders (inr c) = inr (commands_does setup w well (orders (order_waits setup v c)))

-- that of events, where news and results are those of another
events : (setup : Setup) (w v : World) → AllWell setup w → (waits v.news ≡ true → waits w.news ≡ true) → (waits v.results ≡ true → waits w.results ≡ true) → HasWork setup v Events → HasWork setup w Events
events setup w v well news results (inl d) = inl (delivers_does setup w well (news (news_waits setup v d)))
events setup w v well news results (inr t) = inr (takes_does setup w (results (result_waits setup v t)))

-- where nothing is added, nothing more waits
waits_still : {A : Type 0} (h : ℕ) (ys : List (Tagged A)) (xs : List A) → xs ≡ [] → waits (ys ++ tagged h xs) ≡ true → waits ys ≡ true
waits_still h ys xs none there = subst (λ l. waits l ≡ true) (append-nil ys) (subst (λ l. waits (ys ++ tagged h l) ≡ true) none there)

-- who has the first piece
first_waits : {A : Type 0} (h : ℕ) (xs : List (Tagged A)) → first_name xs ≡ Some h → waits xs ≡ true
first_waits h [] e = absurd cc
first_waits h (x ∷ xs) e = refl

-- where an endpoint, its holder and its device are the same, so is the packet
same_serves : (setup : Setup) (w v : World) (d e : ℕ) → holder setup v.claims d e ≡ holder setup w.claims d e → v.gone d ≡ w.gone d → v.endpoints d e ≡ w.endpoints d e → serves_at setup v d e ≡ serves_at setup w d e
same_serves setup w v d e holds gone same = serves_is setup v d e ∙ (rw (holds, gone, same) refl ∙ sym (serves_is setup w d e))

-- a step with an owner is no Unplug
no_unplug : (setup : Setup) (h : ℕ) (w : World) (step : Step) → owner_of setup w step ≡ Some h → is_unplug step ≡ false
no_unplug setup h w (Unplug dev) own = absurd cc
no_unplug setup h w _ own = refl

-- a list of which its owner takes nothing stays
untouched : {A : Type 0} (h : ℕ) (b : Bool) (xs : List (Tagged A)) → (b ≡ true → first_name xs ≡ Some h) → past_first b (pieces_of h xs) ≡ pieces_of h xs → past_first b xs ≡ xs
untouched h false xs first same = refl
untouched h true [] first same = refl
untouched h true (x ∷ xs) first same =
    let its : x.name ≡ h = same_Some x.name h (first refl) in
    let pieces : pieces_of h (x ∷ xs) ≡ x.piece ∷ pieces_of h xs = rw (its, same_name h) refl in
    absurd (omega (arith, ap length (subst (λ l. past_first true l ≡ l) pieces same)))

-- the step of a name, which takes nothing and changes nothing
idle_names : (setup : Setup) (h : ℕ) (w : World) (step : Step) (r : Reply) (named : Work) → AllWell setup w → owner_of setup w step ≡ Some h → TakesNone (machine_of setup h w) step → Wakes setup w (world_after setup h w step (says (machine_of setup h w) r)) named
unfolding world_after machine_of
idle_names setup h w step r named well own t = by_part
  where
    v : World
    v = world_after setup h w step (says (machine_of setup h w) r)

    packets : (d e : ℕ) → serves_at setup v d e ≡ true → HasWork setup w Controller
    packets d e s = inl (d, e, sym (same_serves setup w v d e refl (gone_stays setup w.gone step d (no_unplug setup h w step own)) refl) ∙ s)

    orders : waits v.orders ≡ true → waits w.orders ≡ true
    orders there = subst (λ l. waits l ≡ true) (untouched h (takes_order step) w.orders (takes_its_order setup h w step own) t.orders) (waits_still h (past_first (takes_order step) w.orders) [] refl there)

    news : waits v.news ≡ true → waits w.news ≡ true
    news there = subst (λ l. waits l ≡ true) (untouched h (takes_news step) w.news (takes_its_news setup h w step own) t.news) (waits_still h (past_first (takes_news step) w.news) [] refl there)

    results : waits v.results ≡ true → waits w.results ≡ true
    results there = subst (λ l. waits l ≡ true) (untouched h (takes_result step) w.results (takes_its_result setup h w step own) t.results) (waits_still h (past_first (takes_result step) w.results) [] refl there)

    by_part : (part : WorkerPart) → HasWork setup v part → HasWork setup w part ⊎ (names named part ≡ true)
    by_part Controller has = inl (controller setup w v well packets orders has)
    by_part Events has = inl (events setup w v well news results has)

-- a step that does no work at an endpoint
rest_names : (setup : Setup) (h : ℕ) (w : World) (step : Step) (done : Effect) (b : Bool) → AllWell setup w → owner_of setup w step ≡ Some h → IsRest setup h (machine_of setup h w) step done → Wakes setup w (world_after setup h w step done) (work_of step done.reply b)
unfolding world_after take_effect machine_of
rest_names setup h w step done b well own (stays (refuses why) t) = idle_names setup h w step (reply.Refused why) work.None well own t
rest_names setup h w step done b well own (stays idles t) = idle_names setup h w step reply.Idle work.None well own t
rest_names setup h w step done b well own (stays (unplugs dev) t) = λ part has. inr refl
rest_names setup h w step done b well own (claims_again g i) = λ part has. inr refl
rest_names setup h w step done b well own (opens g dev none) = λ part has. inr refl
rest_names setup h w step done b well own (closes g idle) = λ part has. inr refl
rest_names setup h w step done b well own (claims g i opened free) = λ part has. inr refl
rest_names setup h w step done b well own (releases g i idle) = λ part has. inr refl
rest_names setup h w step done b well own (resets g idle) = λ part has. inr refl
rest_names setup h w step done b well own (stops g k x in_call) = by_part
  where
    v : World
    v = world_after setup h w (Answer g k Stop) (does (called_back (machine_of setup h w) x.n) Keeps)

    by_part : (part : WorkerPart) → HasWork setup v part → HasWork setup w part ⊎ (names work.None part ≡ true)
    by_part Controller has = inl (controller setup w v well (λ d e s. inl (d, e, sym (same_serves setup w v d e refl refl refl) ∙ s)) (waits_still h w.orders [] refl) has)
    by_part Events has = inl (events setup w v well (waits_still h w.news [] refl) (waits_still h w.results [] refl) has)
rest_names setup h w step done b well own (takes x xs is) = by_part
  where
    v : World
    v = world_after setup h w Take (take_effect h (machine_of setup h w) (x ∷ xs))

    by_part : (part : WorkerPart) → HasWork setup v part → HasWork setup w part ⊎ (names work.None part ≡ true)
    by_part Controller has = inl (controller setup w v well (λ d e s. inl (d, e, sym (same_serves setup w v d e refl refl refl) ∙ s)) (waits_still h w.orders [] refl) has)
    by_part Events has = inl (inr (takes_does setup w (first_waits h w.results own)))

-- the endpoint of a machine, in the world
record IsHeld (setup : Setup) (h : ℕ) (w : World) (d ep : ℕ) (e : Endpoint) : Type 0 where
  holds : holder setup w.claims d ep ≡ Some h
  is : w.endpoints d ep ≡ e

its_end : (h : ℕ) (o : Option ℕ) (x e : Endpoint) → (if is_its h o then Some x else None) ≡ Some e → (o ≡ Some h) × (x ≡ e)
its_end h None x e q = absurd cc
its_end h (Some g) x e q = by_test (g == h) refl q
  where
    by_test : (b : Bool) → (g == h) ≡ b → (if b then Some x else None) ≡ Some e → (Some g ≡ Some h) × (x ≡ e)
    by_test true same q = (ap (λ k. Some k) (eqb-true g h same), same_Some x e q)
    by_test false other q = absurd cc

held_at : (setup : Setup) (h : ℕ) (w : World) (ep : ℕ) (e : Endpoint) → endpoint_at (machine_of setup h w) ep ≡ Some e → IsHeld setup h w (device_of (machine_of setup h w)) ep e
unfolding machine_of
held_at setup h w ep e here =
    let d : ℕ = device_of (machine_of setup h w) in
    let its = its_end h (holder setup w.claims d ep) (w.endpoints d ep) e (at_device_of (machine_of setup h w) ep e here).0 in
    record { holds = its.0; is = its.1 }

-- what the next packet does at an endpoint that is held
served_held : (o : Option ℕ) (h size : ℕ) (gone : Bool) (f x : Endpoint) → o ≡ Some h → f ≡ x → served_by o size gone f ≡ is_served size gone x
served_held o h size gone f x holds same = rw (holds, same) refl

-- a packet that does something at a name's endpoint is work of the controller
packet_there : (setup : Setup) (h : ℕ) (w : World) (d ep : ℕ) (e : Endpoint) → IsHeld setup h w d ep e → is_served (packet_size_of setup d ep) (w.gone d) e ≡ true → HasWork setup w Controller
packet_there setup h w d ep e held s = inl (d, ep, serves_is setup w d ep ∙ (served_held (holder setup w.claims d ep) h (packet_size_of setup d ep) (w.gone d) (w.endpoints d ep) e held.holds held.is ∙ s))

-- the packets of a world after work at an endpoint: those there, and those that there were elsewhere
packets_at : (setup : Setup) (h : ℕ) (w : World) (step : Step) (handle : Handle) (at ep : ℕ) (e : Endpoint) (x : EndpointEffect) → is_unplug step ≡ false → IsHeld setup h w at ep e
    → (is_served (packet_size_of setup at ep) (w.gone at) x.endpoint ≡ true → HasWork setup w Controller)
    → (d a : ℕ) → serves_at setup (world_after setup h w step (at_endpoint handle at ep x)) d a ≡ true → HasWork setup w Controller
unfolding world_after at_endpoint
packets_at setup h w step handle at ep e x plain held there d a s = by_test ((at == d) && (ep == a)) refl
  where
    v : World
    v = world_after setup h w step (at_endpoint handle at ep x)

    by_test : (b : Bool) → ((at == d) && (ep == a)) ≡ b → HasWork setup w Controller
    by_test false other = inl (d, a, sym (same_serves setup w v d a refl (gone_stays setup w.gone step d plain) (rw other refl)) ∙ s)
    by_test true same =
        let p = and_parts (at == d) (ep == a) same in
        let its : is_its h (holder setup w.claims at ep) ≡ true = ap (is_its h) held.holds ∙ same_name h in
        let moved : serves_at setup v at ep ≡ true = subst (λ k. serves_at setup v at k ≡ true) (sym (eqb-true ep a p.1)) (subst (λ k. serves_at setup v k a ≡ true) (sym (eqb-true at d p.0)) s) in
        let set : v.endpoints at ep ≡ x.endpoint = rw (same_name at, same_name ep, its) refl in
        there (ap (λ k. is_served (packet_size_of setup at ep) k x.endpoint) (sym (gone_stays setup w.gone step at plain)) ∙ (sym (serves_is setup v at ep ∙ served_held (holder setup v.claims at ep) h (packet_size_of setup at ep) (v.gone at) (v.endpoints at ep) x.endpoint held.holds set) ∙ moved))

-- an order that is carried out says so
command_says : (size ep : ℕ) (e : Endpoint) (o : Errand) (s : EndpointState) → (ok : Bool) × ((command size ep e o s).reply ≡ reply.Ran ep o ok)
unfolding command
command_says size ep e errand.Stop Running = (true, refl)
command_says size ep e errand.Stop Stopped = (false, refl)
command_says size ep e errand.Stop Halted = (false, refl)
command_says size ep e errand.Reset Running = (false, refl)
command_says size ep e errand.Reset Stopped = (false, refl)
command_says size ep e errand.Reset Halted = (true, refl)
command_says size ep e errand.Move Running = (false, refl)
command_says size ep e errand.Move Stopped = (true, refl)
command_says size ep e errand.Move Halted = (false, refl)

-- who is named by the end of a transfer, and by that of an errand
ended_names : (dev ep : ℕ) (r : Reply) (b : Bool) → says_ended r ≡ true → names (work_of (Serve dev ep) r b) Events ≡ true
ended_names dev ep (reply.Ended n code) b e = refl
ended_names dev ep _ b e = absurd cc

settled_names : (r : Reply) (b : Bool) → says_settled r ≡ true → names (work_of Deliver r b) Controller ≡ true
settled_names (reply.Settled ep o ok) b e = refl
settled_names _ b e = absurd cc

-- and by an order behind an event
order_names : (r : Reply) (b : Bool) (ep : ℕ) (event : Event) → r ≡ said_of ep event → b ≡ true → names (work_of Deliver r b) Controller ≡ true
order_names r b ep (Finished n code) is there = rw (is, there) refl
order_names r b ep (Paused n) is there = rw (is, there) refl
order_names r b ep (Settled o ok) is there = rw is refl

-- a packet
serve_names : (setup : Setup) (h : ℕ) (w : World) (dev ep : ℕ) (e : Endpoint) (b : Bool) → AllWell setup w → endpoint_at (machine_of setup h w) ep ≡ Some e
    → Wakes setup w (world_after setup h w (Serve dev ep) (at_endpoint (w.names h) (device_of (machine_of setup h w)) ep (serve (packet_size_of setup (device_of (machine_of setup h w)) ep) (w.gone (device_of (machine_of setup h w))) e)))
    (work_of (Serve dev ep) (serve (packet_size_of setup (device_of (machine_of setup h w)) ep) (w.gone (device_of (machine_of setup h w))) e).reply b)
unfolding world_after at_endpoint
serve_names setup h w dev ep e b well here = by_part
  where
    at : ℕ
    at = device_of (machine_of setup h w)

    size : ℕ
    size = packet_size_of setup at ep

    x : EndpointEffect
    x = serve size (w.gone at) e

    v : World
    v = world_after setup h w (Serve dev ep) (at_endpoint (w.names h) at ep x)

    posts : PostsEnds x
    posts = serve_posts size (w.gone at) e

    by_test : (t : Bool) → is_served size (w.gone at) e ≡ t → is_served size (w.gone at) x.endpoint ≡ true → HasWork setup w Controller
    by_test true does s = packet_there setup h w at ep e (held_at setup h w ep e here) does
    by_test false idle s = absurd (false≢true (sym (idle_again size (w.gone at) e idle) ∙ s))

    by_news : (says_ended x.reply ≡ true) ⊎ (x.news ≡ []) → HasWork setup v Events → HasWork setup w Events ⊎ (names (work_of (Serve dev ep) x.reply b) Events ≡ true)
    by_news (inl ended) has = inr (ended_names dev ep x.reply b ended)
    by_news (inr none) has = inl (events setup w v well (waits_still h w.news (news_at ep x.news) (ap (news_at ep) none)) (waits_still h w.results x.results posts.results) has)

    by_part : (part : WorkerPart) → HasWork setup v part → HasWork setup w part ⊎ (names (work_of (Serve dev ep) x.reply b) part ≡ true)
    by_part Controller has = inl (controller setup w v well (packets_at setup h w (Serve dev ep) (w.names h) at ep e x refl (held_at setup h w ep e here) (by_test (is_served size (w.gone at) e) refl)) (waits_still h w.orders (orders_at ep x.orders) (ap (orders_at ep) posts.orders)) has)
    by_part Events has = by_news posts.news has

-- an event
deliver_names : (setup : Setup) (h : ℕ) (w : World) (ep : ℕ) (e : Endpoint) (event : Event) (ns : List News) → AllWell setup w → owner_of setup w Deliver ≡ Some h → endpoint_at (machine_of setup h w) ep ≡ Some e → (machine_of setup h w).news ≡ record { ep = ep; event = event } ∷ ns
    → (x : EndpointEffect) → x ≡ deliver (packet_size_of setup (device_of (machine_of setup h w)) ep) ep (w.gone (device_of (machine_of setup h w))) e event
    → Wakes setup w (world_after setup h w Deliver (at_endpoint (w.names h) (device_of (machine_of setup h w)) ep x)) (work_of Deliver x.reply (does_something setup (world_after setup h w Deliver (at_endpoint (w.names h) (device_of (machine_of setup h w)) ep x)) Command))
deliver_names setup h w ep e event ns well own here is x means = by_part
  where
    m : Machine
    m = machine_of setup h w

    at : ℕ
    at = device_of m

    size : ℕ
    size = packet_size_of setup at ep

    v : World
    v = world_after setup h w Deliver (at_endpoint (w.names h) at ep x)

    says_it : x.reply ≡ said_of ep event
    says_it = ap (λ y. y.reply) means ∙ deliver_says size ep (w.gone at) e event

    fits : IsCoherent e (errands_of ep m.orders) (event ∷ events_of ep (past_first true m.news))
    fits = subst (IsCoherent e (errands_of ep m.orders)) (first_news ep event m.news ns is).0 (fit_at setup m ep e (well h) here).coherent

    by_packet : (says_settled (said_of ep event) ≡ true) ⊎ (is_served size (w.gone at) (deliver size ep (w.gone at) e event).endpoint ≡ is_served size (w.gone at) e) → (d a : ℕ) → serves_at setup v d a ≡ true
        → HasWork setup w Controller ⊎ (names (work_of Deliver x.reply (does_something setup v Command)) Controller ≡ true)
    by_packet (inl settled) d a s = inr (settled_names x.reply (does_something setup v Command) (ap says_settled says_it ∙ settled))
    by_packet (inr same) d a s =
        inl (packets_at setup h w Deliver (w.names h) at ep e x refl (held_at setup h w ep e here) (λ q. packet_there setup h w at ep e (held_at setup h w ep e here) (sym same ∙ (ap (λ y. is_served size (w.gone at) y.endpoint) (sym means) ∙ q))) d a s)

    by_part : (part : WorkerPart) → HasWork setup v part → HasWork setup w part ⊎ (names (work_of Deliver x.reply (does_something setup v Command)) part ≡ true)
    by_part Controller (inl (d, a, s)) = by_packet (deliver_leaves size size ep (w.gone at) (w.gone at) e (errands_of ep m.orders) event (events_of ep (past_first true m.news)) fits) d a s
    by_part Controller (inr c) = inr (order_names x.reply (does_something setup v Command) ep event says_it c)
    by_part Events has = inl (inl (delivers_does setup w well (first_waits h w.news own)))

-- a submission
submit_names : (setup : Setup) (h : ℕ) (w : World) (ep : ℕ) (e : Endpoint) (step : Step) (handle : Handle) (request : Request) (round : ℕ) (b : Bool) → AllWell setup w → takes_news step ≡ false → takes_result step ≡ false → work_of step (reply.Number (w.names h).next_number) b ≡ work.Of Controller
    → Wakes setup w (world_after setup h w step (at_endpoint handle (device_of (machine_of setup h w)) ep (submitted (w.names h).next_number request round e))) (work_of step (reply.Number (w.names h).next_number) b)
unfolding world_after at_endpoint
submit_names setup h w ep e step handle request round b well no_news no_result its = by_part
  where
    v : World
    v = world_after setup h w step (at_endpoint handle (device_of (machine_of setup h w)) ep (submitted (w.names h).next_number request round e))

    by_part : (part : WorkerPart) → HasWork setup v part → HasWork setup w part ⊎ (names (work_of step (reply.Number (w.names h).next_number) b) part ≡ true)
    by_part Controller has = inr (rw its refl)
    by_part Events has =
        inl (events setup w v well
        (λ there. subst (λ t. waits (past_first t w.news) ≡ true) no_news (waits_still h (past_first (takes_news step) w.news) [] refl there))
        (λ there. subst (λ t. waits (past_first t w.results) ≡ true) no_result (waits_still h (past_first (takes_result step) w.results) [] refl there)) has)

-- work at an endpoint
work_names : (setup : Setup) (h : ℕ) (w : World) (ep : ℕ) (e : Endpoint) (step : Step) (handle : Handle) (x : EndpointEffect) → AllWell setup w → owner_of setup w step ≡ Some h → endpoint_at (machine_of setup h w) ep ≡ Some e
    → IsWork setup (machine_of setup h w) ep e step handle x
    → Wakes setup w (world_after setup h w step (at_endpoint handle (device_of (machine_of setup h w)) ep x)) (work_of step x.reply (does_something setup (world_after setup h w step (at_endpoint handle (device_of (machine_of setup h w)) ep x)) Command))
unfolding world_after at_endpoint machine_of asks
work_names setup h w ep e step handle x well own here (serves dev) = serve_names setup h w dev ep e false well here
work_names setup h w ep e step handle x well own here (commands o os is) = by_reply (command_says (packet_size_of setup (device_of (machine_of setup h w)) ep) ep e o e.state)
  where
    done : EndpointEffect
    done = command (packet_size_of setup (device_of (machine_of setup h w)) ep) ep e o e.state

    v : World
    v = world_after setup h w Command (at_endpoint (w.names h) (device_of (machine_of setup h w)) ep done)

    by_reply : (ok : Bool) × (done.reply ≡ reply.Ran ep o ok) → Wakes setup w v (work_of Command done.reply (does_something setup v Command))
    by_reply (ok, says_it) = λ part has. inr (rw says_it refl)
work_names setup h w ep e step handle x well own here (delivers event ns is) = deliver_names setup h w ep e event ns well own here is _ refl
work_names setup h w ep e step handle x well own here (asks_it n i (cancels g k) at free) = λ part has. inr refl
work_names setup h w ep e step handle x well own here (asks_it n i (expires g k) at free) = λ part has. inr refl
work_names setup h w ep e step handle x well own here (submits (anew g request) at fine short) = submit_names setup h w ep e (Submit g request) handle request 0 false well refl refl refl
work_names setup h w ep e step handle x well own here (submits (again g k y in_call) at fine short) = submit_names setup h w ep e (Answer g k Again) _ y.request (y.round + 1) false well refl refl refl
work_names setup h w ep e step handle x well own here (submits (again_with g k bytes y in_call) at fine short) = submit_names setup h w ep e (Answer g k (AgainWith bytes)) _ _ (y.round + 1) false well refl refl refl
work_names setup h w ep e step handle x well own here (clears g empty) = λ part has. inr refl

-- a step of a name that nobody is in the way of
done_names : (setup : Setup) (h : ℕ) (w : World) (step : Step) (done : Effect) → AllWell setup w → owner_of setup w step ≡ Some h → IsDone setup h (machine_of setup h w) step done → Wakes setup w (world_after setup h w step done) (work_of step done.reply (does_something setup (world_after setup h w step done) Command))
unfolding at_endpoint
done_names setup h w step done well own (only_rests rest) = rest_names setup h w step done _ well own rest
done_names setup h w step done well own (works {handle = handle} {d = x} ep e here work) = work_names setup h w ep e step handle x well own here work

-- a turn names whoever has work that wasn't there
abbrev Names : Setup → World → Step → Turn → Type 0
Names setup w step t = Wakes setup w t.world (work_of step t.entry.reply (does_something setup t.world Command))

-- an Unplug
unplug_names : (setup : Setup) (w : World) (dev : ℕ) → AllWell setup w → Names setup w (Unplug dev) (turn_of_nobody setup w (Unplug dev))
unfolding turn_of_nobody
unplug_names setup w dev well = by_device (is_device setup dev) refl (w.gone dev) refl
  where
    v : World
    v = record w { gone = λ d. gone_after setup w.gone (Unplug dev) d }

    same : ((d : ℕ) → v.gone d ≡ w.gone d) → (part : WorkerPart) → HasWork setup v part → HasWork setup w part ⊎ (names work.None part ≡ true)
    same gone Controller has = inl (controller setup w v well (λ d e s. inl (d, e, sym (same_serves setup w v d e refl (gone d) refl) ∙ s)) (λ there. there) has)
    same gone Events has = inl (events setup w v well (λ there. there) (λ there. there) has)

    by_device : (a : Bool) → is_device setup dev ≡ a → (b : Bool) → w.gone dev ≡ b → Wakes setup w v (work_of (Unplug dev) (if not a then reply.Refused NotFound else if b then reply.Refused NoDevice else reply.Done) (does_something setup v Command))
    by_device false none b g = same (λ d. rw none (stays_so (w.gone d) (dev == d)))
      where
        stays_so : (x y : Bool) → (x || (y && false)) ≡ x
        stays_so true y = refl
        stays_so false true = refl
        stays_so false false = refl
    by_device true there true g = same (λ d. by_place d (dev == d) refl)
      where
        by_place : (d : ℕ) (y : Bool) → (dev == d) ≡ y → (w.gone d || (y && is_device setup dev)) ≡ w.gone d
        by_place d true at = let here : w.gone d ≡ true = ap w.gone (sym (eqb-true dev d at)) ∙ g in rw here refl
        by_place d false at = or-false (w.gone d)
    by_device true there false g = λ part has. inr refl

-- a step of nobody
nobody_names : (setup : Setup) (w : World) (step : Step) → AllWell setup w → Names setup w step (turn_of_nobody setup w step)
unfolding turn_of_nobody
nobody_names setup w (Unplug dev) well = unplug_names setup w dev well
nobody_names setup w _ well = λ part has. inl has

-- a step of a name
owner_names : (setup : Setup) (h : ℕ) (w : World) (step : Step) → AllWell setup w → owner_of setup w step ≡ Some h → Names setup w step (turn_of setup h w step)
owner_names setup h w step well own = by_test (is_blocked setup h w (effect_to setup h w step).change) refl
  where
    by_test : (b : Bool) → is_blocked setup h w (effect_to setup h w step).change ≡ b → Names setup w step (turn_of setup h w step)
    by_test true blocked = subst (Names setup w step) (sym (turn_blocked setup h w step blocked)) (λ part has. inl has)
    by_test false free = subst (Names setup w step) (sym (turn_free setup h w step free)) (done_names setup h w step (effect_to setup h w step) well own (is_done setup h (machine_of setup h w) step (well h)))

-- any step
names_all : (setup : Setup) (w : World) (step : Step) → AllWell setup w → Names setup w step (turn setup w step)
unfolding turn
names_all setup w step well = by_owner (owner_of setup w step) refl
  where
    by_owner : (o : Option ℕ) → owner_of setup w step ≡ o → Names setup w step (turn_by setup o w step)
    by_owner None own = nobody_names setup w step well
    by_owner (Some h) own = owner_names setup h w step well own

-- behind any run
pub names_new_work : (setup : Setup) (steps : List Step) (step : Step) → NamesNewWork setup steps step
names_new_work setup steps step = names_all setup (world_from setup (new_world setup) steps) step (λ h. (kept_at setup h steps).well)
