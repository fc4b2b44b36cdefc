-- Deliver of the whole core.
use Rattle.std.proofs.Common.{Bool, List, None, Option, Some, [], ap, ap₂, append-nil, false, map, refl, subst, subst₂, suc, sym, true, ℕ, ◌&&◌, ◌++◌, ◌==◌, ◌∙◌, ◌∷◌, ◌≡◌}
use Rattle.std.specs.Prelude.{if◌then◌else◌, unwrap_or}
use Rattle.usb_model.specs.declared.errand.Errand.TheVariants as errand
use Rattle.usb_model.specs.declared.errand.Errand.{Errand}
use Rattle.usb_model.specs.declared.endpoint_effect.EndpointEffect.{EndpointEffect}
use Rattle.usb_model.specs.declared.endpoint.Endpoint.{Endpoint}
use Rattle.usb_model.specs.declared.endpoint.EndpointState.TheVariants.{Running}
use Rattle.usb_model.specs.declared.item.Item.{Item}
use Rattle.usb_model.specs.declared.item.ItemState.TheVariants.{Blank, Served, Waiting}
use Rattle.usb_model.specs.declared.item.ItemState.{ItemState}
use Rattle.usb_model.specs.declared.news.Event.TheVariants.{Finished, Paused, Settled}
use Rattle.usb_model.specs.declared.news.Event.{Event}
use Rattle.usb_model.specs.declared.news.News.{News}
use Rattle.usb_model.specs.declared.reply.Reply.TheVariants as reply
use Rattle.usb_model.specs.declared.reply.Reply.{Reply}
use Rattle.usb_model.specs.declared.step.Step.TheVariants.{Deliver}
use Rattle.usb_model.specs.Endpoint.Deliver.{blanked, deliver, finished_result, leads_blank, line_after, needs_reset, orders_errand, resume, withdrawn}
use Rattle.usb_model.specs.Endpoint.{in_progress, past_blanks}
use Rattle.usb_model.specs.Machine.{Machine, device_of, at_endpoint, endpoint_at}
use Rattle.usb_model.specs.Setup.{Setup, packet_size_of}
use Rattle.usb_model.specs.World.Shared.{first_name, past_first, pieces_of}
use Rattle.usb_model.specs.Machine.Turns.{deliver_news, deliver_effect, effect}
use Rattle.usb_model.specs.World.{World, holder, machine_of}
use Rattle.usb_model.specs.Coherence.{IsCoherent, event_by, served_events}
use Rattle.proof_model.proofs.Lists.Pieces.{same_name}
use Rattle.std.proofs.lemmas.Option.{same_Some}
use Rattle.proof_model.proofs.Coherence.Delivers.{coherent_deliver}
use Rattle.refine_world.specs.ShownEndpoint.{AllFew, AllUncut, ShowsEnd, StandsNear, is_stale, uncut_by}
use Rattle.usb_model.specs.Kept.{KeptEndpoint, KeptTransfer, SentErrand, Telling, Transfer, code_of, index_of}
use Rattle.usb_model.specs.Events.{Handled, Reading, errand_of, finish, kept_after, kept_result, past_kept_blanks, posts, reading}
use Rattle.refine_world.specs.Kept.{Handles}
use Rattle.refine_world.specs.Lively.{IsFine}
use Rattle.usb_model.specs.Settlements.{kept_blanked, leads_kept, pauses, resume_kept, settle, withdrawn_results}
use Rattle.refine_world.specs.Shows.{AllHeld, At, Core, InRun, Report, RingEvent, RingOrder, Shows, at, errands, event_at, events, here, news_of, order_at, ring_event, tellings, under_way}
use Rattle.refine_world.specs.Steps.{StepsTo, complete_at, completion_work, deliver_core, deliver_first, delivers, handle_work, posted_by, sender, transfer_work, works}
use Rattle.refine_world.proofs.Finished.{FinishedShows, finished_shows, first_end}
use Rattle.refine_world.proofs.WholeSteps.{idle_steps, same_gone, same_handle, same_holder}
use Rattle.refine_world.proofs.Halts.{near_still}
use Rattle.refine_world.proofs.InRun.{run_posted}
use Rattle.refine_world.proofs.Links.{IsKnown, end_there, known, machine_parts, turn_works}
use Rattle.refine_world.proofs.RoomAndDequeue.{finish_few, pauses_few, read_found, settle_few}
use Rattle.refine_world.proofs.Pauses.{PausedShows, paused_shows}
use Rattle.refine_world.proofs.Waiters.{first_here, is_first_at}
use Rattle.refine_world.proofs.Senders.{sender_is}
use Rattle.refine_world.proofs.Settled.{SettledShows, settled_shows}
use Rattle.refine_world.proofs.Stale.{finish_near, moved_near, pauses_near, settle_near}
use Rattle.refine_world.proofs.Worked.{work_shows}

-- at most one order, at the next place
abbrev pub IsPosting : ℕ → List SentErrand → Type 0
IsPosting next [] = Unit {0}
IsPosting next (x ∷ []) = x.index ≡ next
IsPosting next (x ∷ y ∷ xs) = ⊥

pub run_posting : (first next dev ep : ℕ) (events : List RingEvent) (orders : List RingOrder) (xs : List SentErrand) → IsPosting next xs → InRun first (under_way events orders) next
    → InRun first (under_way (events ++ []) (orders ++ map (order_at dev ep) xs)) (posted_by xs next)
run_posting first next dev ep events orders [] p r = subst₂ (λ x y. InRun first (under_way x y) next) (sym (append-nil events)) (sym (append-nil orders)) r
run_posting first next dev ep events orders (x ∷ []) p r = subst (λ l. InRun first (under_way l (orders ++ order_at dev ep x ∷ [])) (suc next)) (sym (append-nil events)) (run_posted first next events orders (order_at dev ep x) p r)
run_posting first next dev ep events orders (x ∷ y ∷ xs) p r = absurd p

finish_posts : (gone : Bool) (next : ℕ) (b : KeptEndpoint) (p code : ℕ) (found : Reading) → IsPosting next (finish gone next b p code found).orders
unfolding finish
finish_posts gone next b p code found = by_test (needs_reset code (errand_of b.errand))
  where
    after : KeptEndpoint
    after = record b { line = kept_after p code b.line }

    by_test : (t : Bool) → IsPosting next (if◌then◌else◌ {A = Handled} t (posts after errand.Reset next (reply.Finished found.kept.n) (kept_result gone code found.kept found.actual ∷ []))
        (record { reply = reply.Finished found.kept.n; endpoint = after; orders = []; results = kept_result gone code found.kept found.actual ∷ [] })).orders
    by_test true = refl
    by_test false = tt

settle_posts : (ep next : ℕ) (b : KeptEndpoint) (o : Errand) (ok : Bool) → IsPosting next (settle ep next b o ok).orders
unfolding settle resume_kept
settle_posts ep next b o ok = by_errand o ok
  where
    resumed : (r : Reply) (line : List KeptTransfer) → IsPosting next (resume_kept next b r line).orders
    resumed r line = by_test (leads_kept (map kept_blanked line))
      where
        by_test : (t : Bool) → IsPosting next (if◌then◌else◌ {A = Handled} t (posts (record b { line = map kept_blanked line }) errand.Move next r (withdrawn_results line))
            (record { reply = r; endpoint = record b { line = map kept_blanked line; errand = None; state = Running }; orders = []; results = withdrawn_results line })).orders
        by_test true = refl
        by_test false = tt

    by_errand : (x : Errand) (t : Bool) → IsPosting next (settle ep next b x t).orders
    by_errand errand.Stop false = refl
    by_errand errand.Stop true = resumed (reply.Settled ep errand.Stop true) b.line
    by_errand errand.Reset t = refl
    by_errand errand.Move t = resumed (reply.Settled ep errand.Move t) (past_kept_blanks b.line)

-- handling tells nothing
deliver_tells_none : (size ep : ℕ) (gone : Bool) (e : Endpoint) (event : Event) → (deliver size ep gone e event).news ≡ []
unfolding deliver resume
deliver_tells_none size ep gone e event = by_event event
  where
    resumed : (r : Reply) (line : List Item) → (resume size e r line).news ≡ []
    resumed r line = by_test (leads_blank (map blanked line))
      where
        by_test : (t : Bool) → (if◌then◌else◌ {A = EndpointEffect} t (orders_errand (record e { line = map blanked line }) errand.Move r (withdrawn size line)) (record { reply = r; endpoint = record e { line = map blanked line; errand = None; state = Running }; orders = []; news = []; results = withdrawn size line })).news ≡ []
        by_test true = refl
        by_test false = refl

    by_event : (v : Event) → (deliver size ep gone e v).news ≡ []
    by_event (Finished n code) = by_test (needs_reset code e.errand)
      where
        after : Endpoint
        after = record e { line = line_after n code e.line }

        by_test : (t : Bool) → (if◌then◌else◌ {A = EndpointEffect} t (orders_errand after errand.Reset (reply.Finished n) (finished_result size gone code (in_progress n e.line)))
            (record { reply = reply.Finished n; endpoint = after; orders = []; news = []; results = finished_result size gone code (in_progress n e.line) })).news ≡ []
        by_test true = refl
        by_test false = refl
    by_event (Paused n) = refl
    by_event (Settled errand.Stop false) = refl
    by_event (Settled errand.Stop true) = resumed (reply.Settled ep errand.Stop true) e.line
    by_event (Settled errand.Reset ok) = refl
    by_event (Settled errand.Move ok) = resumed (reply.Settled ep errand.Move ok) (past_blanks e.line)

-- the machine handles the first news
deliver_effect_is : (setup : Setup) (h : ℕ) (m : Machine) (dev ep : ℕ) (event : Event) (ns : List News) (e : Endpoint) → m.news ≡ record { ep = ep; event = event } ∷ ns → endpoint_at m ep ≡ Some e → device_of m ≡ dev
    → effect setup h m Deliver ≡ at_endpoint m.handle dev ep (deliver (packet_size_of setup dev ep) ep (m.gone dev) e event)
unfolding effect deliver_effect deliver_news
deliver_effect_is setup h m dev ep event ns e is here same =
    ap (deliver_effect setup m) is ∙ (ap (deliver_news setup m (record { ep = ep; event = event })) here ∙ ap (λ d. at_endpoint m.handle d ep (deliver (packet_size_of setup d ep) ep (m.gone d) e event)) same)

-- an end's code is no stop
uncut_end : (line : List Item) (n code : ℕ) (es : List Event) → AllUncut line → served_events line ≡ Finished n code ∷ es → (code == 26) ≡ false
unfolding served_events
uncut_end [] n code es a q = absurd cc
uncut_end (x ∷ xs) n code es a q = by_state x.state a.0 q (uncut_end xs n code es a.1)
  where
    by_state : (s : ItemState) → uncut_by s → event_by x.n s (served_events xs) ≡ Finished n code ∷ es → (served_events xs ≡ Finished n code ∷ es → (code == 26) ≡ false) → (code == 26) ≡ false
    by_state Waiting u e rest = rest e
    by_state Blank u e rest = rest e
    by_state (Served k) u e rest = let same : k ≡ code = cc in subst (λ k. (k == 26) ≡ false) same u

-- the first event is at this endpoint, and this is what handling it does
deliver_works : (setup : Setup) (w : World) (c : Core) (x : At Report) (xs : List (At Report)) (a : Handled) → IsFine setup → (s : Shows setup w c) → s.news ≡ x ∷ xs
    → Handles (packet_size_of setup x.dev x.ep) (deliver (packet_size_of setup x.dev x.ep) x.ep (c.gone x.dev) (w.endpoints x.dev x.ep) x.what.event) a (errands (at x.dev x.ep s.orders)) (events (at x.dev x.ep xs)) (at x.dev x.ep s.orders) (tellings (at x.dev x.ep xs))
    → IsPosting c.posted a.orders → AllFew a.endpoint.line
    → (is_stale (deliver (packet_size_of setup x.dev x.ep) x.ep (c.gone x.dev) (w.endpoints x.dev x.ep) x.what.event).endpoint.state (deliver (packet_size_of setup x.dev x.ep) x.ep (c.gone x.dev) (w.endpoints x.dev x.ep) x.what.event).endpoint.errand
    (errands (at x.dev x.ep s.orders) ++ (deliver (packet_size_of setup x.dev x.ep) x.ep (c.gone x.dev) (w.endpoints x.dev x.ep) x.what.event).orders) ≡ true → StandsNear a.endpoint (tellings (at x.dev x.ep xs)))
    → (first : ℕ) → InRun first (under_way (map ring_event xs) c.orders) c.posted
    → StepsTo setup w Deliver (works x.name x.dev x.ep Deliver (handle_work a) c)
deliver_works setup w c x xs a fine s is handles posting few near first run =
    let dev : ℕ = x.dev in
    let ep : ℕ = x.ep in
    let h : ℕ = x.name in
    let v : Event = x.what.event in
    let e : Endpoint = w.endpoints dev ep in
    let m : Machine = machine_of setup h w in
    let size : ℕ = packet_size_of setup dev ep in
    let d : EndpointEffect = deliver size ep (c.gone dev) e v in
    let holds : holder setup w.claims dev ep ≡ Some h = (subst (AllHeld setup w.claims) is s.news_held).0 in
    let here_it_is : here dev ep x ≡ true = ap₂ (λ p q. p && q) (same_name dev) (same_name ep) in
    let first_is : at dev ep s.news ≡ x.what ∷ at dev ep xs = ap (at dev ep) is ∙ first_here dev ep x xs here_it_is in
    let left : past_first true s.news ≡ xs = ap (past_first true) is in
    let k : IsKnown setup w h dev ep (errands (at dev ep s.orders)) (events (x.what ∷ at dev ep xs)) = subst (λ l. IsKnown setup w h dev ep (errands (at dev ep s.orders)) (events l)) first_is (known setup w c s fine h dev ep holds) in
    let pieces : m.news ≡ record { ep = ep; event = v } ∷ pieces_of h (map news_of xs) = (machine_parts setup h w).2 ∙ (ap (pieces_of h) (s.news_shown ∙ ap (map news_of) is) ∙ rw (same_name h) refl) in
    let same : device_of m ≡ dev = ap (λ o. unwrap_or o 0) (ap (λ x. x.device) (machine_parts setup h w).0 ∙ k.device) in
    let none : d.news ≡ [] = deliver_tells_none size ep (c.gone dev) e v in
    work_shows setup w c s h dev ep Deliver (c.names h) d (handle_work a)
    (record {
      turns = turn_works setup w h dev ep Deliver (c.names h) d (ap first_name (s.news_shown ∙ ap (map news_of) is))
          (deliver_effect_is setup h m dev ep v (pieces_of h (map news_of xs)) e pieces (end_there setup w h dev ep k.device holds) same ∙ ap₂ (λ x g. at_endpoint x dev ep (deliver size ep g e v)) (same_handle setup w c s h) (same_gone setup w c s h dev));
      holds = holds;
      owned = refl;
      no_result = refl;
      first_order = λ q. absurd cc;
      first_news = λ q. ap (is_first_at dev ep) is ∙ here_it_is;
      reply = handles.reply;
      results = handles.results;
      coherent = subst (λ l. IsCoherent d.endpoint (errands (at dev ep s.orders) ++ d.orders) (events (at dev ep l) ++ d.news)) (sym left) (coherent_deliver size ep (c.gone dev) e (errands (at dev ep s.orders)) v (events (at dev ep xs)) k.fit.coherent);
      shows = subst (λ l. ShowsEnd size d.endpoint (errands (at dev ep s.orders) ++ d.orders) (events (at dev ep l) ++ d.news) a.endpoint (at dev ep s.orders ++ a.orders) (tellings (at dev ep l) ++ [])) (sym left)
          (subst₂ (λ l t. ShowsEnd size d.endpoint (errands (at dev ep s.orders) ++ d.orders) l a.endpoint (at dev ep s.orders ++ a.orders) t)
          (sym (ap (λ l. events (at dev ep xs) ++ l) none ∙ append-nil (events (at dev ep xs)))) (sym (append-nil (tellings (at dev ep xs)))) handles.shows);
      few = few;
      near = λ stale. subst (λ l. StandsNear a.endpoint (tellings (at dev ep l) ++ [])) (sym left) (near_still a.endpoint (tellings (at dev ep xs)) (near stale));
      first = first;
      in_run = subst (λ l. InRun first (under_way (l ++ []) (c.orders ++ map (order_at dev ep) a.orders)) (posted_by a.orders c.posted)) (sym (ap (past_first true) (s.news_kept ∙ ap (map ring_event) is)))
          (run_posting first c.posted dev ep (map ring_event xs) c.orders a.orders posting run);
    })

-- the errand that has an order
pub sent_there : (o : Option SentErrand) (x : Errand) → errand_of o ≡ Some x → (y : SentErrand) × (o ≡ Some y) × (y.errand ≡ x)
sent_there None x e = absurd cc
sent_there (Some y) x e = (y, refl, same_Some y.errand x e)

-- the code tells whether the order was carried out
pub code_tells : (ok : Bool) → (code_of ok == 1) ≡ ok
code_tells true = refl
code_tells false = refl

-- the first event, by what it is of
deliver_event : (setup : Setup) (w : World) (c : Core) (x : At Report) (xs : List (At Report)) → IsFine setup → (s : Shows setup w c) → s.news ≡ x ∷ xs → StepsTo setup w Deliver (deliver_first setup c (ring_event x ∷ map ring_event xs))
unfolding deliver_first delivers transfer_work completion_work complete_at
deliver_event setup w c x xs fine s is = by_event x.what.event refl
  where
    dev : ℕ
    dev = x.dev

    ep : ℕ
    ep = x.ep

    b : KeptEndpoint
    b = c.endpoints dev ep

    e : Endpoint
    e = w.endpoints dev ep

    size : ℕ
    size = packet_size_of setup dev ep

    rest : List RingEvent
    rest = map ring_event xs

    holds : holder setup w.claims dev ep ≡ Some x.name
    holds = (subst (AllHeld setup w.claims) is s.news_held).0

    first_is : at dev ep s.news ≡ x.what ∷ at dev ep xs
    first_is = ap (at dev ep) is ∙ first_here dev ep x xs (ap₂ (λ p q. p && q) (same_name dev) (same_name ep))

    k : IsKnown setup w x.name dev ep (errands (at dev ep s.orders)) (events (x.what ∷ at dev ep xs))
    k = subst (λ l. IsKnown setup w x.name dev ep (errands (at dev ep s.orders)) (events l)) first_is (known setup w c s fine x.name dev ep holds)

    world_of : ShowsEnd size e (errands (at dev ep s.orders)) (events (x.what ∷ at dev ep xs)) b (at dev ep s.orders) (tellings (x.what ∷ at dev ep xs))
    world_of = subst (λ l. ShowsEnd size e (errands (at dev ep s.orders)) (events l) b (at dev ep s.orders) (tellings l)) first_is (s.endpoints x.name dev ep holds)

    run : InRun s.first (under_way (event_at dev ep x.what.telling ∷ rest) c.orders) c.posted
    run = subst (λ l. InRun s.first (under_way l c.orders) c.posted) (s.news_kept ∙ ap (map ring_event) is) s.in_run

    near : StandsNear b (x.what.telling ∷ tellings (at dev ep xs))
    near = subst (λ l. StandsNear b (tellings l)) first_is (s.near x.name dev ep holds)

    -- what is near after the first event wherever the endpoint is stale
    Nears : Event → Handled → Type 0
    Nears z a = is_stale (deliver size ep (c.gone dev) e z).endpoint.state (deliver size ep (c.gone dev) e z).endpoint.errand (errands (at dev ep s.orders) ++ (deliver size ep (c.gone dev) e z).orders) ≡ true → StandsNear a.endpoint (tellings (at dev ep xs))

    held : holder setup c.claims dev ep ≡ Some x.name
    held = same_holder setup w c s dev ep ∙ holds

    Goes : Telling → Type 0
    Goes t = StepsTo setup w Deliver (deliver_first setup c (event_at dev ep t ∷ rest))

    -- of a transfer
    transfer : (p r code : ℕ) (found : Reading) (a : Handled) → x.what.telling ≡ Transfer p r code → reading b.line p r ≡ Some found → (if code == 26 then pauses b p found else finish (c.gone dev) c.posted b p code found) ≡ a
        → StepsTo setup w Deliver (works x.name dev ep Deliver (handle_work a) c) → Goes (Transfer p r code)
    transfer p r code found a t read same steps =
        subst₂ (λ q o. StepsTo setup w Deliver (delivers c dev ep (transfer_work (c.gone dev) c.posted b p code q) o)) (sym read) (sym held)
        (subst (λ z. StepsTo setup w Deliver (works x.name dev ep Deliver (handle_work z) c)) (sym same) steps)

    by_event : (v : Event) → x.what.event ≡ v → Goes x.what.telling
    by_event (Finished n code) v =
        let f : FinishedShows size ep (c.gone dev) c.posted e (errands (at dev ep s.orders)) (events (at dev ep xs)) b (at dev ep s.orders) x.what.telling (tellings (at dev ep xs)) n code =
        finished_shows size ep (c.gone dev) c.posted e _ _ b _ _ _ n code (subst (λ z. IsCoherent e (errands (at dev ep s.orders)) (z ∷ events (at dev ep xs))) v k.fit.coherent)
        (subst (λ z. ShowsEnd size e (errands (at dev ep s.orders)) (z ∷ events (at dev ep xs)) b (at dev ep s.orders) (tellings (x.what ∷ at dev ep xs))) v world_of) in
        let end = first_end e (errands (at dev ep s.orders)) n code (events (at dev ep xs)) k.fit.coherent.tail (subst (λ z. IsCoherent e (errands (at dev ep s.orders)) (z ∷ events (at dev ep xs))) v k.fit.coherent) (ap (λ z. z ∷ events (at dev ep xs)) (sym v) ∙ k.fit.coherent.news) in
        let code_is : (code == 26) ≡ false = uncut_end e.line n code end.es k.lively.orderly.uncut end.first in
        let a : Handled = finish (c.gone dev) c.posted b f.p code f.found in
        subst Goes (sym f.event)
        (transfer f.p f.r code f.found a f.event f.read (ap (λ t. if t then pauses b f.p f.found else a) code_is)
        (deliver_works setup w c x xs a fine s is (subst (λ z. Handles size (deliver size ep (c.gone dev) e z) a (errands (at dev ep s.orders)) (events (at dev ep xs)) (at dev ep s.orders) (tellings (at dev ep xs))) (sym v) f.handles)
        (finish_posts (c.gone dev) c.posted b f.p code f.found) (finish_few (c.gone dev) c.posted b f.p code f.found (s.few dev ep))
        (subst (λ z. Nears z a) (sym v) (λ stale. finish_near size ep (c.gone dev) c.posted e _ _ b _ x.what.telling (tellings (at dev ep xs)) n code f.p f.r f.found (subst (λ z. IsCoherent e (errands (at dev ep s.orders)) (z ∷ events (at dev ep xs))) v k.fit.coherent)
        world_of.row (s.few dev ep) near f.event (read_found f.p f.r b.line f.found f.read) f.handles.shows stale)) s.first (subst (λ t. InRun s.first (under_way (event_at dev ep t ∷ rest) c.orders) c.posted) f.event run)))
    by_event (Paused n) v =
        let f : PausedShows size ep (c.gone dev) e (errands (at dev ep s.orders)) (events (at dev ep xs)) b (at dev ep s.orders) x.what.telling (tellings (at dev ep xs)) n =
        paused_shows size ep (c.gone dev) e _ _ b _ _ _ n (subst (λ z. IsCoherent e (errands (at dev ep s.orders)) (z ∷ events (at dev ep xs))) v k.fit.coherent)
        (subst (λ z. ShowsEnd size e (errands (at dev ep s.orders)) (z ∷ events (at dev ep xs)) b (at dev ep s.orders) (tellings (x.what ∷ at dev ep xs))) v world_of) in
        let a : Handled = pauses b f.p f.found in
        subst Goes (sym f.event)
        (transfer f.p f.r 26 f.found a f.event f.read refl
        (deliver_works setup w c x xs a fine s is (subst (λ z. Handles size (deliver size ep (c.gone dev) e z) a (errands (at dev ep s.orders)) (events (at dev ep xs)) (at dev ep s.orders) (tellings (at dev ep xs))) (sym v) f.handles)
        tt (pauses_few b f.p f.found (s.few dev ep) (read_found f.p f.r b.line f.found f.read))
        (λ stale. pauses_near b x.what.telling (tellings (at dev ep xs)) f.p f.found near (read_found f.p f.r b.line f.found f.read)) s.first (subst (λ t. InRun s.first (under_way (event_at dev ep t ∷ rest) c.orders) c.posted) f.event run)))
    by_event (Settled o ok) v =
        let f : SettledShows size ep (c.gone dev) c.posted e (errands (at dev ep s.orders)) (events (at dev ep xs)) b (at dev ep s.orders) x.what.telling (tellings (at dev ep xs)) o ok =
        settled_shows size ep (c.gone dev) c.posted e _ _ b _ _ _ o ok (subst (λ z. IsCoherent e (errands (at dev ep s.orders)) (z ∷ events (at dev ep xs))) v k.fit.coherent) k.lively.orderly
        (subst (λ z. ShowsEnd size e (errands (at dev ep s.orders)) (z ∷ events (at dev ep xs)) b (at dev ep s.orders) (tellings (x.what ∷ at dev ep xs))) v world_of) in
        let y = sent_there b.errand o (world_of.errand ∙ f.errand) in
        let a : Handled = settle ep c.posted b o ok in
        let index_same : y.0.index ≡ index_of b.errand = sym (ap index_of y.1) in
        let found : sender setup c dev (index_of b.errand) ≡ Some ep = sender_is setup w c s fine x xs (index_of b.errand) (code_of ok) y.0 is f.event holds y.1 index_same in
        let same : settle ep c.posted b y.0.errand (code_of ok == 1) ≡ a = ap₂ (λ z t. settle ep c.posted b z t) y.2 (code_tells ok) in
        let run' = subst (λ t. InRun s.first (under_way (event_at dev ep t ∷ rest) c.orders) c.posted) f.event run in
        subst Goes (sym f.event)
        (subst (λ q. StepsTo setup w Deliver (complete_at setup c dev (code_of ok) q)) (sym found)
        (subst₂ (λ z q. StepsTo setup w Deliver (delivers c dev ep (completion_work ep c.posted b (code_of ok) z) q)) (sym y.1) (sym held)
        (subst (λ z. StepsTo setup w Deliver (works x.name dev ep Deliver (handle_work z) c)) (sym same)
        (deliver_works setup w c x xs a fine s is (subst (λ z. Handles size (deliver size ep (c.gone dev) e z) a (errands (at dev ep s.orders)) (events (at dev ep xs)) (at dev ep s.orders) (tellings (at dev ep xs))) (sym v) f.handles)
        (settle_posts ep c.posted b o ok) (settle_few ep c.posted b o ok (s.few dev ep))
        (λ stale. settle_near ep c.posted b x.what.telling (tellings (at dev ep xs)) o ok near
        (moved_near size e _ _ b _ _ o ok (subst (λ z. IsCoherent e (errands (at dev ep s.orders)) (z ∷ events (at dev ep xs))) v k.fit.coherent)
        (subst (λ z. ShowsEnd size e (errands (at dev ep s.orders)) (z ∷ events (at dev ep xs)) b (at dev ep s.orders) (tellings (x.what ∷ at dev ep xs))) v world_of))) (suc s.first) run'.1))))

-- Deliver
pub deliver_steps : (setup : Setup) (w : World) (c : Core) → IsFine setup → Shows setup w c → StepsTo setup w Deliver (deliver_core setup c)
unfolding deliver_core deliver_first
deliver_steps setup w c fine s = subst (λ l. StepsTo setup w Deliver (deliver_first setup c l)) (sym s.news_kept) (by_news s.news refl)
  where
    by_news : (l : List (At Report)) → s.news ≡ l → StepsTo setup w Deliver (deliver_first setup c (map ring_event l))
    by_news [] none = idle_steps setup w c Deliver refl (ap first_name (s.news_shown ∙ ap (map news_of) none)) s
    by_news (x ∷ xs) is = deliver_event setup w c x xs fine s is
