-- Work at one endpoint: where its endpoint shows the endpoint that the work leaves, the core after it shows the world after it.
use Rattle.std.proofs.Common.{Bool, List, Option, Some, [], ap, ap₂, arith, false, length, map, refl, subst, subst₂, sym, true, ℕ, ◌&&◌, ◌++◌, ◌==◌, ◌∙◌, ◌∷◌, ◌≡◌}
use Rattle.std.specs.Prelude.{if◌then◌else◌}
use Rattle.std.proofs.lemmas.Bool.{and_parts, eqb-true}
use Rattle.std.proofs.lemmas.List.{append_cancel_left, length-append, length-map, map-append}
use Rattle.usb_model.specs.declared.errand.Errand.{Errand}
use Rattle.usb_model.specs.declared.endpoint_effect.EndpointEffect.{EndpointEffect}
use Rattle.usb_model.specs.declared.endpoint.Endpoint.{Endpoint}
use Rattle.usb_model.specs.declared.endpoint.EndpointState.{EndpointState}
use Rattle.usb_model.specs.declared.handle.Handle.{Handle}
use Rattle.usb_model.specs.declared.news.Event.{Event}
use Rattle.usb_model.specs.declared.step.Step.{Step}
use Rattle.usb_model.specs.World.Journal.{is_unplug}
use Rattle.usb_model.specs.Machine.{at_endpoint, news_at, orders_at}
use Rattle.usb_model.specs.Setup.{Setup, packet_size_of}
use Rattle.usb_model.specs.World.Shared.{past_first, tagged}
use Rattle.usb_model.specs.Machine.Turns.{takes_news, takes_order, takes_result}
use Rattle.usb_model.specs.World.{World, holder, is_its, new_world, turn, world_after, world_from}
use Rattle.usb_model.specs.Coherence.{IsCoherent, IsPhase, ended, move_ran, move_waits, reset_ran, reset_waits, runs, served_events, stop_failed, stop_ran, stop_ran_paused, stop_waits, stop_waits_halted}
use Rattle.proof_model.proofs.Handles.Isolation.{gone_stays}
use Rattle.proof_model.proofs.Lists.Pieces.{same_name}
use Rattle.refine_world.specs.ShownEndpoint.{AllFew, ShowsEnd, StandsNear, is_stale}
use Rattle.usb_model.specs.Kept.{KeptEndpoint, SentErrand, Telling}
use Rattle.refine_world.specs.Shows.{At, Core, InRun, Report, Shows, at, errands, event_at, events, news_of, order_at, order_of, ring_event, ring_order, tellings, under_way}
use Rattle.refine_world.specs.Steps.{Work, posted_by, worked}
use Rattle.refine_world.proofs.Ahead.{fresh_near}
use Rattle.refine_world.proofs.Counts.{NoEnds, as_many, errands_added, events_reported, reports, tellings_reported}
use Rattle.refine_world.proofs.Devices.{device_shown, devices_worked}
use Rattle.refine_world.proofs.Waiters.{at_here, at_other, held_past, held_put, is_first_at, past-map, past_other, put}

-- a run with one step more
pub world_and : (setup : Setup) (w : World) (steps : List Step) (step : Step) → world_from setup w (steps ++ step ∷ []) ≡ (turn setup (world_from setup w steps) step).world
unfolding world_from
world_and setup w [] step = refl
world_and setup w (x ∷ xs) step = world_and setup (turn setup w x).world xs step

-- behind the ends no end is told
no_ends : (s : EndpointState) (er : Option Errand) (os : List Errand) (es tail : List Event) → IsPhase s er os es tail → NoEnds tail
no_ends s er os es tail (runs g) = tt
no_ends s er os es tail (ended g) = tt
no_ends s er os es tail (stop_waits g) = tt
no_ends s er os es tail (stop_waits_halted g) = tt
no_ends s er os es tail (stop_ran g) = tt
no_ends s er os es tail (stop_ran_paused g) = tt
no_ends s er os es tail (stop_failed g) = tt
no_ends s er os es tail reset_waits = tt
no_ends s er os es tail reset_ran = tt
no_ends s er os es tail move_waits = tt
no_ends s er os es tail move_ran = tt

-- what is told of an endpoint is as much as its news
pub told_all : (size : ℕ) (e : Endpoint) (os : List Errand) (ns : List Event) (b : KeptEndpoint) (sent : List SentErrand) (told : List Telling) → IsCoherent e os ns → ShowsEnd size e os ns b sent told → length told ≡ length ns
told_all size e os ns b sent told c s =
    as_many size e os ns b sent told s (subst NoEnds (append_cancel_left (served_events e.line) c.tail s.tail (sym c.news ∙ s.news)) (no_ends e.state e.errand os (served_events e.line) c.tail c.phase))

-- the orders that wait after work at an endpoint, and the news
abbrev pub orders_left : {setup : Setup} {w : World} {c : Core} → Shows setup w c → Step → List (At SentErrand)
orders_left s step = past_first (takes_order step) s.orders

abbrev pub news_left : {setup : Setup} {w : World} {c : Core} → Shows setup w c → Step → List (At Report)
news_left s step = past_first (takes_news step) s.news

-- work of name h at an endpoint, which it holds
pub record Works (setup : Setup) (w : World) (c : Core) (s : Shows setup w c) (h dev ep : ℕ) (step : Step) (handle : Handle) (d : EndpointEffect) (k : Work) : Type 0 where
  pub turns : turn setup w step ≡ record { entry = record { owner = Some h; reply = d.reply }; world = world_after setup h w step (at_endpoint handle dev ep d) }
  pub holds : holder setup w.claims dev ep ≡ Some h
  pub owned : is_unplug step ≡ false
  pub no_result : takes_result step ≡ false
  pub first_order : takes_order step ≡ true → is_first_at dev ep s.orders ≡ true
  pub first_news : takes_news step ≡ true → is_first_at dev ep s.news ≡ true
  pub reply : k.reply ≡ d.reply
  pub results : k.results ≡ d.results
  pub coherent : IsCoherent d.endpoint (errands (at dev ep (orders_left s step)) ++ d.orders) (events (at dev ep (news_left s step)) ++ d.news)
  pub shows : ShowsEnd (packet_size_of setup dev ep) d.endpoint (errands (at dev ep (orders_left s step)) ++ d.orders) (events (at dev ep (news_left s step)) ++ d.news) k.endpoint (at dev ep (orders_left s step) ++ k.sent) (tellings (at dev ep (news_left s step)) ++ k.told)
  pub few : AllFew k.endpoint.line
  pub near : is_stale d.endpoint.state d.endpoint.errand (errands (at dev ep (orders_left s step)) ++ d.orders) ≡ true → StandsNear k.endpoint (tellings (at dev ep (news_left s step)) ++ k.told)
  pub first : ℕ
  pub in_run : InRun first (under_way (past_first (takes_news step) c.events ++ map (event_at dev ep) k.told) (past_first (takes_order step) c.orders ++ map (order_at dev ep) k.sent)) (posted_by k.sent c.posted)

-- what is added, as the world has it and as the rings have it
added_orders : (h dev ep : ℕ) (xs : List SentErrand) → map order_of (map (put h dev ep) xs) ≡ tagged h (orders_at ep (errands xs))
added_orders h dev ep [] = refl
added_orders h dev ep (x ∷ xs) = ap (λ l. record { name = h; piece = record { ep = ep; errand = x.errand } } ∷ l) (added_orders h dev ep xs)

added_news : (h dev ep : ℕ) (xs : List Report) → map news_of (map (put h dev ep) xs) ≡ tagged h (news_at ep (events xs))
added_news h dev ep [] = refl
added_news h dev ep (x ∷ xs) = ap (λ l. record { name = h; piece = record { ep = ep; event = x.event } } ∷ l) (added_news h dev ep xs)

kept_orders : (h dev ep : ℕ) (xs : List SentErrand) → map ring_order (map (put h dev ep) xs) ≡ map (order_at dev ep) xs
kept_orders h dev ep [] = refl
kept_orders h dev ep (x ∷ xs) = ap (λ l. order_at dev ep x ∷ l) (kept_orders h dev ep xs)

kept_events : (h dev ep : ℕ) (xs : List Report) → map ring_event (map (put h dev ep) xs) ≡ map (event_at dev ep) (tellings xs)
kept_events h dev ep [] = refl
kept_events h dev ep (x ∷ xs) = ap (λ l. event_at dev ep x.telling ∷ l) (kept_events h dev ep xs)

-- a list without its first, and more behind it, through a map
past_more : {A B : Type 0} (f : A → B) (b : Bool) (xs ys : List A) (l m : List B) → l ≡ map f xs → map f ys ≡ m → past_first b l ++ m ≡ map f (past_first b xs ++ ys)
past_more f b xs ys l m is more = ap₂ (λ p q. past_first b p ++ q) is (sym more) ∙ (ap (λ p. p ++ map f ys) (past-map f b xs) ∙ sym (map-append f (past_first b xs) ys))

-- the world after it
pub work_shows : (setup : Setup) (w : World) (c : Core) (s : Shows setup w c) (h dev ep : ℕ) (step : Step) (handle : Handle) (d : EndpointEffect) (k : Work) → Works setup w c s h dev ep step handle d k
    → (record { owner = Some h; reply = k.reply } ≡ (turn setup w step).entry) × Shows setup (turn setup w step).world (worked h handle dev ep step k c)
unfolding world_after at_endpoint
work_shows setup w c s h dev ep step handle d k works = (
  ap (λ r. record { owner = Some h; reply = r }) works.reply ∙ sym (ap (λ t. t.entry) works.turns),
  subst (λ t. Shows setup t (worked h handle dev ep step k c)) (sym (ap (λ t. t.world) works.turns)) world_of,
)
  where
    old_orders : List (At SentErrand)
    old_orders = orders_left s step

    old_news : List (At Report)
    old_news = news_left s step

    many : length k.told ≡ length d.news
    many =
        omega (
          arith,
          told_all _ d.endpoint _ _ k.endpoint _ _ works.coherent works.shows,
          length-append (tellings (at dev ep old_news)) k.told,
          length-append (events (at dev ep old_news)) d.news,
          length-map (at dev ep old_news) (λ x. x.telling),
          length-map (at dev ep old_news) (λ x. x.event),
        )

    told : List Report
    told = reports d.news k.told

    new_orders : List (At SentErrand)
    new_orders = old_orders ++ map (put h dev ep) k.sent

    new_news : List (At Report)
    new_news = old_news ++ map (put h dev ep) told

    same_orders : errands k.sent ≡ d.orders
    same_orders = errands_added k.endpoint.errand (at dev ep old_orders) k.sent d.orders works.shows.sent_is

    same_events : events told ≡ d.news
    same_events = events_reported d.news k.told many

    same_told : tellings told ≡ k.told
    same_told = tellings_reported d.news k.told many

    later : World
    later = world_after setup h w step (at_endpoint handle dev ep d)

    new_told : tellings (at dev ep new_news) ≡ tellings (at dev ep old_news) ++ k.told
    new_told = ap tellings (at_here h dev ep old_news told) ∙ (map-append (λ x. x.telling) (at dev ep old_news) told ∙ ap (λ l. tellings (at dev ep old_news) ++ l) same_told)

    here_near : StandsNear k.endpoint (tellings (at dev ep new_news))
    here_near = subst (StandsNear k.endpoint) (sym new_told) (by_stale (is_stale d.endpoint.state d.endpoint.errand (errands (at dev ep old_orders) ++ d.orders)) refl)
      where
        by_stale : (t : Bool) → is_stale d.endpoint.state d.endpoint.errand (errands (at dev ep old_orders) ++ d.orders) ≡ t → StandsNear k.endpoint (tellings (at dev ep old_news) ++ k.told)
        by_stale true stale = works.near stale
        by_stale false fresh = fresh_near _ d.endpoint _ _ k.endpoint _ _ works.coherent works.shows fresh

    here_shows : ShowsEnd (packet_size_of setup dev ep) d.endpoint (errands (at dev ep new_orders)) (events (at dev ep new_news)) k.endpoint (at dev ep new_orders) (tellings (at dev ep new_news))
    here_shows =
        let os : at dev ep new_orders ≡ at dev ep old_orders ++ k.sent = at_here h dev ep old_orders k.sent in
        let ns : at dev ep new_news ≡ at dev ep old_news ++ told = at_here h dev ep old_news told in
        let os' : errands (at dev ep new_orders) ≡ errands (at dev ep old_orders) ++ d.orders = ap errands os ∙ (map-append (λ x. x.errand) (at dev ep old_orders) k.sent ∙ ap (λ l. errands (at dev ep old_orders) ++ l) same_orders) in
        let ns' : events (at dev ep new_news) ≡ events (at dev ep old_news) ++ d.news = ap events ns ∙ (map-append (λ x. x.event) (at dev ep old_news) told ∙ ap (λ l. events (at dev ep old_news) ++ l) same_events) in
        subst₂ (λ a b. ShowsEnd (packet_size_of setup dev ep) d.endpoint a b k.endpoint (at dev ep new_orders) (tellings (at dev ep new_news))) (sym os') (sym ns')
        (subst₂ (λ a b. ShowsEnd (packet_size_of setup dev ep) d.endpoint (errands (at dev ep old_orders) ++ d.orders) (events (at dev ep old_news) ++ d.news) k.endpoint a b) (sym os) (sym new_told) works.shows)

    other_shows : (g a e : ℕ) → ((dev == a) && (ep == e)) ≡ false → holder setup w.claims a e ≡ Some g
        → ShowsEnd (packet_size_of setup a e) (w.endpoints a e) (errands (at a e new_orders)) (events (at a e new_news)) (c.endpoints a e) (at a e new_orders) (tellings (at a e new_news))
    other_shows g a e other holds =
        let os : at a e new_orders ≡ at a e s.orders = at_other h dev ep a e old_orders k.sent other ∙ past_other (takes_order step) dev ep a e s.orders works.first_order other in
        let ns : at a e new_news ≡ at a e s.news = at_other h dev ep a e old_news told other ∙ past_other (takes_news step) dev ep a e s.news works.first_news other in
        subst₂ (λ x y. ShowsEnd (packet_size_of setup a e) (w.endpoints a e) (errands x) (events y) (c.endpoints a e) x (tellings y)) (sym os) (sym ns) (s.endpoints g a e holds)

    each : (g a e : ℕ) (b : Bool) → ((dev == a) && (ep == e)) ≡ b → holder setup w.claims a e ≡ Some g
        → ShowsEnd (packet_size_of setup a e) (if b && is_its h (holder setup w.claims a e) then d.endpoint else w.endpoints a e) (errands (at a e new_orders)) (events (at a e new_news)) (if b then k.endpoint else c.endpoints a e) (at a e new_orders) (tellings (at a e new_news))
    each g a e false other holds = other_shows g a e other holds
    each g a e true same holds =
        let p = and_parts (dev == a) (ep == e) same in
        let same_dev : dev ≡ a = eqb-true dev a p.0 in
        let same_ep : ep ≡ e = eqb-true ep e p.1 in
        let its : is_its h (holder setup w.claims a e) ≡ true = ap (is_its h) (subst₂ (λ x y. holder setup w.claims x y ≡ Some h) same_dev same_ep works.holds) ∙ same_name h in
        rw its (subst₂ (λ x y. ShowsEnd (packet_size_of setup x y) d.endpoint (errands (at x y new_orders)) (events (at x y new_news)) k.endpoint (at x y new_orders) (tellings (at x y new_news))) same_dev same_ep here_shows)

    nears : (g a e : ℕ) (b : Bool) → ((dev == a) && (ep == e)) ≡ b → holder setup w.claims a e ≡ Some g → StandsNear (if b then k.endpoint else c.endpoints a e) (tellings (at a e new_news))
    nears g a e false other holds =
        let ns : at a e new_news ≡ at a e s.news = at_other h dev ep a e old_news told other ∙ past_other (takes_news step) dev ep a e s.news works.first_news other in
        subst (λ l. StandsNear (c.endpoints a e) (tellings l)) (sym ns) (s.near g a e holds)
    nears g a e true same holds =
        let p = and_parts (dev == a) (ep == e) same in
        subst₂ (λ x y. StandsNear k.endpoint (tellings (at x y new_news))) (eqb-true dev a p.0) (eqb-true ep e p.1) here_near

    fews : (b : Bool) (a e : ℕ) → AllFew (if b then k.endpoint else c.endpoints a e).line
    fews true a e = works.few
    fews false a e = s.few a e

    goes : world_after setup h w step (at_endpoint handle dev ep d) ≡ world_from setup (new_world setup) (s.steps ++ step ∷ [])
    goes = sym (ap (λ t. t.world) works.turns) ∙ (ap (λ u. (turn setup u step).world) s.reached ∙ sym (world_and setup (new_world setup) s.steps step))

    world_of : Shows setup later (worked h handle dev ep step k c)
    world_of = record {
      steps = s.steps ++ step ∷ [];
      reached = goes;
      names = ap (λ names. λ g. if h == g then handle else names g) s.names;
      claims = s.claims;
      gone = s.gone ∙ (λ i. λ a. sym (gone_stays setup w.gone step a works.owned) i);
      results = ap₂ (λ l m. l ++ m) (s.results ∙ sym (ap (λ b. past_first b w.results) works.no_result)) (ap (tagged h) works.results);
      orders = new_orders;
      news = new_news;
      orders_shown = past_more order_of (takes_order step) s.orders (map (put h dev ep) k.sent) w.orders _ s.orders_shown (added_orders h dev ep k.sent ∙ ap (λ l. tagged h (orders_at ep l)) same_orders);
      orders_kept = past_more ring_order (takes_order step) s.orders (map (put h dev ep) k.sent) c.orders _ s.orders_kept (kept_orders h dev ep k.sent);
      news_shown = past_more news_of (takes_news step) s.news (map (put h dev ep) told) w.news _ s.news_shown (added_news h dev ep told ∙ ap (λ l. tagged h (news_at ep l)) same_events);
      news_kept = past_more ring_event (takes_news step) s.news (map (put h dev ep) told) c.events _ s.news_kept (kept_events h dev ep told ∙ ap (map (event_at dev ep)) same_told);
      orders_held = held_put setup w.claims h dev ep old_orders k.sent works.holds (held_past setup w.claims (takes_order step) s.orders s.orders_held);
      news_held = held_put setup w.claims h dev ep old_news told works.holds (held_past setup w.claims (takes_news step) s.news s.news_held);
      first = works.first;
      in_run = works.in_run;
      few = λ a e. fews ((dev == a) && (ep == e)) a e;
      near = λ g a e holds. nears g a e ((dev == a) && (ep == e)) refl holds;
      endpoints = λ g a e holds. each g a e ((dev == a) && (ep == e)) refl holds;
      devices = devices_worked setup w.claims w.endpoints c.endpoints h dev ep d.endpoint k.endpoint works.holds (device_shown works.shows) s.devices;
    }
