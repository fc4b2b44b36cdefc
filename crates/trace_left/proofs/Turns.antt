-- What the first order and the first event tell, and what a world has when they are taken.
use Rattle.std.proofs.Common.{◌≡◌, ℕ, Bool, true, false, List, [], ◌∷◌, ◌++◌, Option, Some, None, ap, ap₂, append-nil, map, refl, subst, sym, ◌∙◌}
use Rattle.std.specs.Prelude.{option_map, slice_get}
use Rattle.usb_model.specs.declared.entry.Entry.{Entry}
use Rattle.usb_model.specs.declared.endpoint.Endpoint.{Endpoint}
use Rattle.usb_model.specs.declared.endpoint.EndpointState.{EndpointState}
use Rattle.usb_model.specs.declared.endpoint.EndpointState.TheVariants.{Halted, Running, Stopped}
use Rattle.usb_model.specs.declared.errand.Errand.{Errand}
use Rattle.usb_model.specs.declared.errand.Errand.TheVariants as errand
use Rattle.usb_model.specs.declared.handle.Handle.{Handle}
use Rattle.usb_model.specs.declared.item.Item.{Item}
use Rattle.usb_model.specs.declared.news.Event.{Event}
use Rattle.usb_model.specs.declared.news.Event.TheVariants.{Finished, Paused, Settled}
use Rattle.usb_model.specs.declared.news.News.{News}
use Rattle.usb_model.specs.declared.order.Order.{Order}
use Rattle.usb_model.specs.declared.reply.Reply.{Reply}
use Rattle.usb_model.specs.declared.reply.Reply.TheVariants as reply
use Rattle.usb_model.specs.declared.shared.Tagged.{Tagged}
use Rattle.usb_model.specs.declared.step.Step.{Step}
use Rattle.usb_model.specs.declared.step.Step.TheVariants.{Command, Deliver}
use Rattle.usb_model.specs.declared.endpoint_effect.EndpointEffect.{EndpointEffect}
use Rattle.usb_model.specs.Endpoint.{past_blanks}
use Rattle.usb_model.specs.Endpoint.Command.{command}
use Rattle.usb_model.specs.Endpoint.Deliver.{blanked, deliver, leads_blank, needs_reset, resume}
use Rattle.usb_model.specs.Fitness.{Fits, IsWell, errands_of, events_of}
use Rattle.usb_model.specs.Machine.{Machine, at_endpoint, device_of, endpoint_at, is_gone}
use Rattle.usb_model.specs.Machine.Turns.{command_effect, command_order, deliver_effect, deliver_news, effect, takes_news, takes_order}
use Rattle.usb_model.specs.Setup.{Setup, packet_size_of}
use Rattle.usb_model.specs.World.{World, machine_of, new_world, turn, turn_by, turn_of_nobody, world_after, world_from}
use Rattle.usb_model.specs.World.Shared.{first_name, past_first, pieces_of, tagged}
use Rattle.trace_left.specs.Gathered.{event_of, event_told, first_of, order_of, order_told}
use Rattle.trace_left.specs.Left.{event_left}
use Rattle.refine_world.proofs.Links.{machine_parts, turn_works}
use Rattle.proof_model.proofs.Places.Runs.{kept_at}
use Rattle.proof_model.proofs.Lists.Pieces.{same_name}

-- a world that a run leads to
abbrev pub IsReached : Setup → World → Type 0
IsReached setup w = (steps : List Step) × (w ≡ world_from setup (new_world setup) steps)

-- each machine of such a world is well
pub well_at : (setup : Setup) (w : World) (h : ℕ) → IsReached setup w → IsWell setup (machine_of setup h w)
well_at setup w h (steps, is) = subst (λ v. IsWell setup (machine_of setup h v)) (sym is) (kept_at setup h steps).well

-- a step more
one_more : (setup : Setup) (w : World) (xs : List Step) (step : Step) → world_from setup w (xs ++ step ∷ []) ≡ (turn setup (world_from setup w xs) step).world
unfolding world_from
one_more setup w [] step = refl
one_more setup w (x ∷ xs) step = one_more setup (turn setup w x).world xs step

-- a step's world is reached too
pub next_reached : (setup : Setup) (w : World) (step : Step) → IsReached setup w → IsReached setup (turn setup w step).world
next_reached setup w step (steps, is) = (steps ++ step ∷ [], ap (λ v. (turn setup v step).world) is ∙ sym (one_more setup (new_world setup) steps step))

-- the lists of a world after work at an endpoint
record ListsAfter (h ep : ℕ) (w after : World) (step : Step) (d : EndpointEffect) : Type 0 where
  orders : after.orders ≡ past_first (takes_order step) w.orders ++ tagged h (map (λ x. record { ep = ep; errand = x }) d.orders)
  news : after.news ≡ past_first (takes_news step) w.news ++ tagged h (map (λ x. record { ep = ep; event = x }) d.news)

lists_after : (setup : Setup) (h dev ep : ℕ) (w : World) (step : Step) (handle : Handle) (d : EndpointEffect) → ListsAfter h ep w (world_after setup h w step (at_endpoint handle dev ep d)) step d
unfolding world_after at_endpoint
lists_after setup h dev ep w step handle d = record { orders = refl; news = refl }

-- what an order's run tells: that it ran; it orders nothing
record Runs (ep : ℕ) (o : Errand) (d : EndpointEffect) : Type 0 where
  ok : Bool
  says : d.reply ≡ reply.Ran ep o ok
  orders : d.orders ≡ []

command_runs : (size ep : ℕ) (e : Endpoint) (o : Errand) (s : EndpointState) → Runs ep o (command size ep e o s)
unfolding command
command_runs size ep e errand.Stop Running = record { ok = true; says = refl; orders = refl }
command_runs size ep e errand.Stop Stopped = record { ok = false; says = refl; orders = refl }
command_runs size ep e errand.Stop Halted = record { ok = false; says = refl; orders = refl }
command_runs size ep e errand.Reset Running = record { ok = false; says = refl; orders = refl }
command_runs size ep e errand.Reset Stopped = record { ok = false; says = refl; orders = refl }
command_runs size ep e errand.Reset Halted = record { ok = true; says = refl; orders = refl }
command_runs size ep e errand.Move Running = record { ok = false; says = refl; orders = refl }
command_runs size ep e errand.Move Stopped = record { ok = true; says = refl; orders = refl }
command_runs size ep e errand.Move Halted = record { ok = false; says = refl; orders = refl }

-- what handling an event tells
abbrev pub said_of : ℕ → Event → Reply
said_of ep (Finished n code) = reply.Finished n
said_of ep (Paused n) = reply.Paused n
said_of ep (Settled errand ok) = reply.Settled ep errand ok

-- it makes no news
record Handles (ep : ℕ) (event : Event) (d : EndpointEffect) : Type 0 where
  says : d.reply ≡ said_of ep event
  news : d.news ≡ []

resume_says : (size : ℕ) (e : Endpoint) (said : Reply) (line : List Item) → ((resume size e said line).reply ≡ said) × ((resume size e said line).news ≡ [])
unfolding resume
resume_says size e said line = by_test (leads_blank (map blanked line)) refl
  where
    by_test : (b : Bool) → leads_blank (map blanked line) ≡ b → ((resume size e said line).reply ≡ said) × ((resume size e said line).news ≡ [])
    by_test true is = rw is (refl, refl)
    by_test false is = rw is (refl, refl)

deliver_handles : (size ep : ℕ) (gone : Bool) (e : Endpoint) (event : Event) → Handles ep event (deliver size ep gone e event)
unfolding deliver
deliver_handles size ep gone e (Finished n code) = by_test (needs_reset code e.errand) refl
  where
    by_test : (b : Bool) → needs_reset code e.errand ≡ b → Handles ep (Finished n code) (deliver size ep gone e (Finished n code))
    by_test true is = rw is (record { says = refl; news = refl })
    by_test false is = rw is (record { says = refl; news = refl })
deliver_handles size ep gone e (Paused n) = record { says = refl; news = refl }
deliver_handles size ep gone e (Settled errand.Stop false) = record { says = refl; news = refl }
deliver_handles size ep gone e (Settled errand.Stop true) = let r = resume_says size e (reply.Settled ep errand.Stop true) e.line in record { says = r.0; news = r.1 }
deliver_handles size ep gone e (Settled errand.Reset ok) = record { says = refl; news = refl }
deliver_handles size ep gone e (Settled errand.Move ok) = let r = resume_says size e (reply.Settled ep errand.Move ok) (past_blanks e.line) in record { says = r.0; news = r.1 }

-- the first order was carried out: its entry tells it, no order joins, and news join behind the others
pub record FirstRuns (setup : Setup) (w : World) (x : Tagged Order) (xs : List (Tagged Order)) : Type 0 where
  pub ok : Bool
  pub entry : (turn setup w Command).entry ≡ record { owner = Some x.name; reply = reply.Ran x.piece.ep x.piece.errand ok }
  pub orders : (turn setup w Command).world.orders ≡ xs
  pub more : List (Tagged News)
  pub news : (turn setup w Command).world.news ≡ w.news ++ more

pub first_runs : (setup : Setup) (w : World) (x : Tagged Order) (xs : List (Tagged Order)) → IsReached setup w → w.orders ≡ x ∷ xs → FirstRuns setup w x xs
unfolding effect command_effect command_order
first_runs setup w x xs reached is = by_end (endpoint_at m ep) refl
  where
    h : ℕ
    h = x.name

    ep : ℕ
    ep = x.piece.ep

    m : Machine
    m = machine_of setup h w

    waits : m.orders ≡ x.piece ∷ pieces_of h xs
    waits = (machine_parts setup h w).1 ∙ (ap (pieces_of h) is ∙ rw (same_name h) refl)

    first : errands_of ep m.orders ≡ x.piece.errand ∷ errands_of ep (pieces_of h xs)
    first = ap (errands_of ep) waits ∙ rw (same_name ep) refl

    by_end : (o : Option Endpoint) → endpoint_at m ep ≡ o → FirstRuns setup w x xs
    by_end None none =
        let fits : Fits None (errands_of ep m.orders) (events_of ep m.news) = subst (λ o. Fits o (errands_of ep m.orders) (events_of ep m.news)) none ((well_at setup w h reached).fits ep) in
        absurd (cc (fits.0, first))
    by_end (Some e) here =
        let size : ℕ = packet_size_of setup (device_of m) ep in
        let d : EndpointEffect = command size ep e x.piece.errand e.state in
        let runs : Runs ep x.piece.errand d = command_runs size ep e x.piece.errand e.state in
        let turned = turn_works setup w h (device_of m) ep Command m.handle d (ap first_name is) (ap (command_effect setup m) waits ∙ ap (command_order setup m x.piece) here) in
        let after = lists_after setup h (device_of m) ep w Command m.handle d in
        record {
          ok = runs.ok;
          entry = ap (λ t. t.entry) turned ∙ ap (λ r. record { owner = Some h; reply = r }) runs.says;
          orders = ap (λ t. t.world.orders) turned ∙ (after.orders ∙ (ap (λ l. past_first true w.orders ++ tagged h (map (λ o. record { ep = ep; errand = o }) l)) runs.orders ∙ (append-nil (past_first true w.orders) ∙ ap (past_first true) is)));
          more = tagged h (map (λ v. record { ep = ep; event = v }) d.news);
          news = ap (λ t. t.world.news) turned ∙ after.news;
        }

-- without an order nothing is done
pub none_runs : (setup : Setup) (w : World) → w.orders ≡ [] → turn setup w Command ≡ record { entry = record { owner = None; reply = reply.Idle }; world = w }
unfolding turn turn_of_nobody
none_runs setup w none = ap (λ l. turn_by setup (first_name l) w Command) none

-- the first event was handled: its entry tells it, and no news join
pub record FirstHandled (setup : Setup) (w : World) (x : Tagged News) (xs : List (Tagged News)) : Type 0 where
  pub entry : (turn setup w Deliver).entry ≡ record { owner = Some x.name; reply = said_of x.piece.ep x.piece.event }
  pub news : (turn setup w Deliver).world.news ≡ xs

pub first_handled : (setup : Setup) (w : World) (x : Tagged News) (xs : List (Tagged News)) → IsReached setup w → w.news ≡ x ∷ xs → FirstHandled setup w x xs
unfolding effect deliver_effect deliver_news
first_handled setup w x xs reached is = by_end (endpoint_at m ep) refl
  where
    h : ℕ
    h = x.name

    ep : ℕ
    ep = x.piece.ep

    m : Machine
    m = machine_of setup h w

    waits : m.news ≡ x.piece ∷ pieces_of h xs
    waits = (machine_parts setup h w).2 ∙ (ap (pieces_of h) is ∙ rw (same_name h) refl)

    first : events_of ep m.news ≡ x.piece.event ∷ events_of ep (pieces_of h xs)
    first = ap (events_of ep) waits ∙ rw (same_name ep) refl

    by_end : (o : Option Endpoint) → endpoint_at m ep ≡ o → FirstHandled setup w x xs
    by_end None none =
        let fits : Fits None (errands_of ep m.orders) (events_of ep m.news) = subst (λ o. Fits o (errands_of ep m.orders) (events_of ep m.news)) none ((well_at setup w h reached).fits ep) in
        absurd (cc (fits.1, first))
    by_end (Some e) here =
        let size : ℕ = packet_size_of setup (device_of m) ep in
        let d : EndpointEffect = deliver size ep (is_gone m) e x.piece.event in
        let handles : Handles ep x.piece.event d = deliver_handles size ep (is_gone m) e x.piece.event in
        let turned = turn_works setup w h (device_of m) ep Deliver m.handle d (ap first_name is) (ap (deliver_effect setup m) waits ∙ ap (deliver_news setup m x.piece) here) in
        let after = lists_after setup h (device_of m) ep w Deliver m.handle d in
        record {
          entry = ap (λ t. t.entry) turned ∙ ap (λ r. record { owner = Some h; reply = r }) handles.says;
          news = ap (λ t. t.world.news) turned ∙ (after.news ∙ (ap (λ l. past_first true w.news ++ tagged h (map (λ v. record { ep = ep; event = v }) l)) handles.news ∙ (append-nil (past_first true w.news) ∙ ap (past_first true) is)));
        }

-- without an event nothing is done
pub none_handled : (setup : Setup) (w : World) → w.news ≡ [] → turn setup w Deliver ≡ record { entry = record { owner = None; reply = reply.Idle }; world = w }
unfolding turn turn_of_nobody
none_handled setup w none = ap (λ l. turn_by setup (first_name l) w Deliver) none

-- a Command takes the first order
pub orders_after : (setup : Setup) (w : World) → IsReached setup w → (turn setup w Command).world.orders ≡ past_first true w.orders
orders_after setup w reached = by_orders w.orders refl
  where
    by_orders : (l : List (Tagged Order)) → w.orders ≡ l → (turn setup w Command).world.orders ≡ past_first true w.orders
    by_orders [] none = ap (λ t. t.world.orders) (none_runs setup w none) ∙ (none ∙ ap (past_first true) (sym none))
    by_orders (x ∷ xs) is = (first_runs setup w x xs reached is).orders ∙ ap (past_first true) (sym is)

-- and its news join behind the others
pub news_joined : (setup : Setup) (w : World) → IsReached setup w → (more : List (Tagged News)) × ((turn setup w Command).world.news ≡ w.news ++ more)
news_joined setup w reached = by_orders w.orders refl
  where
    by_orders : (l : List (Tagged Order)) → w.orders ≡ l → (more : List (Tagged News)) × ((turn setup w Command).world.news ≡ w.news ++ more)
    by_orders [] none = ([], ap (λ t. t.world.news) (none_runs setup w none) ∙ sym (append-nil w.news))
    by_orders (x ∷ xs) is = let ran = first_runs setup w x xs reached is in (ran.more, ran.news)

-- its entry tells the order
pub order_said : (setup : Setup) (w : World) (entry : Entry) → IsReached setup w → entry ≡ (turn setup w Command).entry → order_told entry.owner entry.reply ≡ first_of order_of w.orders
order_said setup w entry reached is = ap (λ e. order_told e.owner e.reply) is ∙ by_orders w.orders refl
  where
    by_orders : (l : List (Tagged Order)) → w.orders ≡ l → order_told (turn setup w Command).entry.owner (turn setup w Command).entry.reply ≡ first_of order_of w.orders
    by_orders [] none = ap (λ t. order_told t.entry.owner t.entry.reply) (none_runs setup w none) ∙ ap (first_of order_of) (sym none)
    by_orders (x ∷ xs) is = ap (λ e. order_told e.owner e.reply) (first_runs setup w x xs reached is).entry ∙ ap (first_of order_of) (sym is)

-- a Deliver takes the first event, and no news join
pub news_after : (setup : Setup) (w : World) → IsReached setup w → (turn setup w Deliver).world.news ≡ past_first true w.news
news_after setup w reached = by_news w.news refl
  where
    by_news : (l : List (Tagged News)) → w.news ≡ l → (turn setup w Deliver).world.news ≡ past_first true w.news
    by_news [] none = ap (λ t. t.world.news) (none_handled setup w none) ∙ (none ∙ ap (past_first true) (sym none))
    by_news (x ∷ xs) is = (first_handled setup w x xs reached is).news ∙ ap (past_first true) (sym is)

-- an event is told by what is said of it, and by its endpoint
event_is : (h ep : ℕ) (event : Event) → event_told (Some h) (Some ep) (said_of ep event) ≡ Some (event_left h (record { ep = ep; event = event }))
event_is h ep (Finished n code) = refl
event_is h ep (Paused n) = refl
event_is h ep (Settled errand ok) = refl

-- its entry tells the event, with the endpoint
pub event_said : (setup : Setup) (w : World) (entry : Entry) (at : Option ℕ) → IsReached setup w → entry ≡ (turn setup w Deliver).entry → at ≡ option_map (λ x. x.piece.ep) (slice_get w.news 0) → event_told entry.owner at entry.reply ≡ first_of event_of w.news
event_said setup w entry at reached is there = ap₂ (λ e o. event_told e.owner o e.reply) is there ∙ by_news w.news refl
  where
    by_news : (l : List (Tagged News)) → w.news ≡ l → event_told (turn setup w Deliver).entry.owner (option_map (λ x. x.piece.ep) (slice_get w.news 0)) (turn setup w Deliver).entry.reply ≡ first_of event_of w.news
    by_news [] none = ap₂ (λ t l. event_told t.entry.owner (option_map (λ x. x.piece.ep) (slice_get l 0)) t.entry.reply) (none_handled setup w none) none ∙ ap (first_of event_of) (sym none)
    by_news (x ∷ xs) is =
        ap₂ (λ e l. event_told e.owner (option_map (λ x. x.piece.ep) (slice_get l 0)) e.reply) (first_handled setup w x xs reached is).entry is
        ∙ (event_is x.name x.piece.ep x.piece.event ∙ ap (first_of event_of) (sym is))
