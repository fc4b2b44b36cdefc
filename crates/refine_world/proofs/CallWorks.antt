-- A call that is accepted and works at an endpoint: Cancel, Expire, a submission, ClearHalt.
use Rattle.std.proofs.Common.{◌≤◌, Bool, List, None, Option, Some, [], ap, append-nil, false, map, refl, subst, subst₂, sym, true, ℕ, ◌++◌, ◌==◌, ◌∙◌, ◌≡◌}
use Rattle.std.specs.Prelude.{if◌then◌else◌, is_some}
use Rattle.std.proofs.lemmas.Bool.{eqb-true}
use Rattle.usb_model.specs.declared.errand.Errand.TheVariants as errand
use Rattle.usb_model.specs.declared.errand.Errand.{Errand}
use Rattle.usb_model.specs.declared.endpoint_effect.EndpointEffect.{EndpointEffect}
use Rattle.usb_model.specs.declared.endpoint.Endpoint.{Endpoint}
use Rattle.usb_model.specs.declared.handle.Handle.{Handle}
use Rattle.usb_model.specs.declared.item.Ask.{Ask}
use Rattle.usb_model.specs.declared.reply.Reply.TheVariants as reply
use Rattle.usb_model.specs.declared.request.Request.{Request}
use Rattle.usb_model.specs.declared.step.Step.{Step}
use Rattle.usb_model.specs.Machine.Calls.{asks, submitted}
use Rattle.usb_model.specs.World.Journal.{is_unplug}
use Rattle.usb_model.specs.Machine.{at_endpoint}
use Rattle.usb_model.specs.Requests.{length_of}
use Rattle.usb_model.specs.Setup.{Setup, packet_size_of}
use Rattle.usb_model.specs.World.Shared.{past_first}
use Rattle.usb_model.specs.Machine.Turns.{effect, takes_news, takes_order, takes_result}
use Rattle.usb_model.specs.World.{World, holder, is_its, machine_of, owner_of}
use Rattle.usb_model.specs.Coherence.{IsCoherent}
use Rattle.std.proofs.lemmas.Option.{same_Some}
use Rattle.proof_model.proofs.Coherence.Commands.{coherent_ask, coherent_submit}
use Rattle.proof_model.proofs.Machines.Deeds.{cleared}
use Rattle.refine_world.specs.ShownEndpoint.{AllFew, ShowsEnd, StandsNear}
use Rattle.usb_model.specs.Kept.{KeptEndpoint}
use Rattle.usb_model.specs.Events.{Handled, posts}
use Rattle.refine_world.specs.Kept.{Handles}
use Rattle.usb_model.specs.Joins.{asked, joined, kept_ask}
use Rattle.refine_world.specs.Lively.{IsFine}
use Rattle.refine_world.specs.Shows.{Core, InRun, Shows, at, errands, events, order_at, tellings, under_way}
use Rattle.refine_world.specs.Steps.{Stepped, handle_work, posted_by, worked, StepsTo}
use Rattle.refine_world.proofs.Asked.{asks_show}
use Rattle.refine_world.proofs.Delivers.{IsPosting, run_posting}
use Rattle.refine_world.proofs.Halts.{near_still}
use Rattle.refine_world.proofs.Links.{known, turn_works}
use Rattle.refine_world.proofs.RoomAndDequeue.{asked_few, joined_few}
use Rattle.refine_world.proofs.Renewed.{cleared_shows}
use Rattle.refine_world.proofs.Stale.{asked_near, joined_near}
use Rattle.refine_world.proofs.Submits.{submit_shows}
use Rattle.refine_world.proofs.Worked.{work_shows}

-- a call takes nothing from the shared lists
pub record IsCall (step : Step) : Type 0 where
  pub owned : is_unplug step ≡ false
  pub no_order : takes_order step ≡ false
  pub no_news : takes_news step ≡ false
  pub no_result : takes_result step ≡ false

-- work of a call, which tells nothing
abbrev pub called : ℕ → Handle → ℕ → ℕ → Step → Handled → Core → Stepped
called h handle dev ep step a c = record { entry = record { owner = Some h; reply = a.reply }; core = worked h handle dev ep step (handle_work a) c }

past_none : {A : Type 0} (b : Bool) (xs : List A) → b ≡ false → past_first b xs ≡ xs
past_none b xs q = ap (λ t. past_first t xs) q

-- such work
pub call_shows : (setup : Setup) (w : World) (c : Core) (s : Shows setup w c) (h dev ep : ℕ) (step : Step) (handle : Handle) (d : EndpointEffect) (a : Handled) → IsCall step → owner_of setup w step ≡ Some h → effect setup h (machine_of setup h w) step ≡ at_endpoint handle dev ep d
    → holder setup w.claims dev ep ≡ Some h → d.news ≡ [] → IsCoherent d.endpoint (errands (at dev ep s.orders) ++ d.orders) (events (at dev ep s.news))
    → Handles (packet_size_of setup dev ep) d a (errands (at dev ep s.orders)) (events (at dev ep s.news)) (at dev ep s.orders) (tellings (at dev ep s.news)) → IsPosting c.posted a.orders → AllFew a.endpoint.line → StandsNear a.endpoint (tellings (at dev ep s.news))
    → StepsTo setup w step (called h handle dev ep step a c)
call_shows setup w c s h dev ep step handle d a call own is holds none coherent handles posting few near =
    let os : past_first (takes_order step) s.orders ≡ s.orders = past_none (takes_order step) s.orders call.no_order in
    let ns : past_first (takes_news step) s.news ≡ s.news = past_none (takes_news step) s.news call.no_news in
    let news_same : events (at dev ep s.news) ++ d.news ≡ events (at dev ep s.news) = ap (λ l. events (at dev ep s.news) ++ l) none ∙ append-nil (events (at dev ep s.news)) in
    work_shows setup w c s h dev ep step handle d (handle_work a)
    (record {
      turns = turn_works setup w h dev ep step handle d own is;
      holds = holds;
      owned = call.owned;
      no_result = call.no_result;
      first_order = λ q. absurd (cc (q, call.no_order));
      first_news = λ q. absurd (cc (q, call.no_news));
      reply = handles.reply;
      results = handles.results;
      coherent = subst₂ (λ x y. IsCoherent d.endpoint (errands (at dev ep x) ++ d.orders) (events (at dev ep y) ++ d.news)) (sym os) (sym ns) (subst (λ l. IsCoherent d.endpoint (errands (at dev ep s.orders) ++ d.orders) l) (sym news_same) coherent);
      shows = subst₂ (λ x y. ShowsEnd (packet_size_of setup dev ep) d.endpoint (errands (at dev ep x) ++ d.orders) (events (at dev ep y) ++ d.news) a.endpoint (at dev ep x ++ a.orders) (tellings (at dev ep y) ++ [])) (sym os) (sym ns)
          (subst₂ (λ l t. ShowsEnd (packet_size_of setup dev ep) d.endpoint (errands (at dev ep s.orders) ++ d.orders) l a.endpoint (at dev ep s.orders ++ a.orders) t) (sym news_same) (sym (append-nil (tellings (at dev ep s.news)))) handles.shows);
      few = few;
      near = λ stale. subst (λ y. StandsNear a.endpoint (tellings (at dev ep y) ++ [])) (sym ns) (near_still a.endpoint (tellings (at dev ep s.news)) near);
      first = s.first;
      in_run = subst₂ (λ x y. InRun s.first (under_way (x ++ []) (y ++ map (order_at dev ep) a.orders)) (posted_by a.orders c.posted)) (sym (past_none (takes_news step) c.events call.no_news)) (sym (past_none (takes_order step) c.orders call.no_order))
          (run_posting s.first c.posted dev ep c.events c.orders a.orders posting s.in_run);
    })

-- at most Stop is ordered
asked_posts : (next : ℕ) (b : KeptEndpoint) (n : ℕ) (ask : Ask) → IsPosting next (asked next b n ask).orders
asked_posts next b n ask = by_test (is_some b.errand)
  where
    after : KeptEndpoint
    after = record b { line = map (kept_ask n ask) b.line }

    by_test : (t : Bool) → IsPosting next (if◌then◌else◌ {A = Handled} t (record { reply = reply.Done; endpoint = after; orders = []; results = [] }) (posts after errand.Stop next reply.Done [])).orders
    by_test true = tt
    by_test false = refl

-- a transfer is asked to end: Cancel, Expire
pub ask_steps : (setup : Setup) (w : World) (c : Core) → IsFine setup → Shows setup w c → (h dev ep : ℕ) (step : Step) (n : ℕ) (ask : Ask) → IsCall step → owner_of setup w step ≡ Some h → holder setup w.claims dev ep ≡ Some h
    → effect setup h (machine_of setup h w) step ≡ at_endpoint (c.names h) dev ep (asks (w.endpoints dev ep) n ask) → StepsTo setup w step (called h (c.names h) dev ep step (asked c.posted (c.endpoints dev ep) n ask) c)
unfolding asks
ask_steps setup w c fine s h dev ep step n ask call own holds is =
    let k = (known setup w c s fine h dev ep holds).fit.coherent in
    call_shows setup w c s h dev ep step (c.names h) (asks (w.endpoints dev ep) n ask) (asked c.posted (c.endpoints dev ep) n ask) call own is holds refl
    (subst (λ l. IsCoherent (asks (w.endpoints dev ep) n ask).endpoint (errands (at dev ep s.orders) ++ (asks (w.endpoints dev ep) n ask).orders) l) (append-nil (events (at dev ep s.news))) (coherent_ask (w.endpoints dev ep) n ask _ _ k))
    (asks_show (packet_size_of setup dev ep) c.posted (w.endpoints dev ep) _ _ (c.endpoints dev ep) _ _ n ask k (s.endpoints h dev ep holds))
    (asked_posts c.posted (c.endpoints dev ep) n ask) (asked_few c.posted (c.endpoints dev ep) n ask (s.few dev ep)) (asked_near c.posted (c.endpoints dev ep) n ask (tellings (at dev ep s.news)) (s.near h dev ep holds))

-- a transfer joins its line: Submit, and Answer with Again or AgainWith
abbrev pub join_handled : ℕ → KeptEndpoint → ℕ → Request → ℕ → Handled
join_handled size b n request round = record { reply = reply.Number n; endpoint = joined size b n request round; orders = []; results = [] }

pub submit_steps : (setup : Setup) (w : World) (c : Core) → IsFine setup → Shows setup w c → (h dev ep : ℕ) (step : Step) (handle : Handle) (n : ℕ) (request : Request) (round : ℕ) → length_of request.body ≤ 262144 → IsCall step → owner_of setup w step ≡ Some h → holder setup w.claims dev ep ≡ Some h
    → effect setup h (machine_of setup h w) step ≡ at_endpoint handle dev ep (submitted n request round (w.endpoints dev ep)) → StepsTo setup w step (called h handle dev ep step (join_handled (packet_size_of setup dev ep) (c.endpoints dev ep) n request round) c)
submit_steps setup w c fine s h dev ep step handle n request round short call own holds is =
    let e : Endpoint = w.endpoints dev ep in
    let os : List Errand = errands (at dev ep s.orders) in
    let k = (known setup w c s fine h dev ep holds).fit.coherent in
    call_shows setup w c s h dev ep step handle (submitted n request round e) (join_handled (packet_size_of setup dev ep) (c.endpoints dev ep) n request round) call own is holds refl
    (subst (λ l. IsCoherent (submitted n request round e).endpoint l (events (at dev ep s.news))) (sym (append-nil os)) (coherent_submit e n request round os (events (at dev ep s.news)) k))
    (record {
      reply = refl;
      results = refl;
      shows = subst₂ (λ x y. ShowsEnd (packet_size_of setup dev ep) (submitted n request round e).endpoint x (events (at dev ep s.news)) (joined (packet_size_of setup dev ep) (c.endpoints dev ep) n request round) y (tellings (at dev ep s.news))) (sym (append-nil os)) (sym (append-nil (at dev ep s.orders)))
          (submit_shows (packet_size_of setup dev ep) e os (events (at dev ep s.news)) (c.endpoints dev ep) (at dev ep s.orders) (tellings (at dev ep s.news)) n request round (s.endpoints h dev ep holds));
    })
    tt (joined_few (packet_size_of setup dev ep) (c.endpoints dev ep) n request round short (s.few dev ep)) (joined_near (packet_size_of setup dev ep) (c.endpoints dev ep) n request round (tellings (at dev ep s.news)) (s.near h dev ep holds))

-- the device's halt ends: ClearHalt
abbrev pub clear_handled : KeptEndpoint → Handled
clear_handled b = record { reply = reply.Done; endpoint = record b { device_halted = false }; orders = []; results = [] }

pub clear_steps : (setup : Setup) (w : World) (c : Core) → IsFine setup → Shows setup w c → (h dev ep : ℕ) (step : Step) → IsCall step → owner_of setup w step ≡ Some h → holder setup w.claims dev ep ≡ Some h
    → effect setup h (machine_of setup h w) step ≡ at_endpoint (c.names h) dev ep (cleared (w.endpoints dev ep)) → StepsTo setup w step (called h (c.names h) dev ep step (clear_handled (c.endpoints dev ep)) c)
clear_steps setup w c fine s h dev ep step call own holds is =
    let e : Endpoint = w.endpoints dev ep in
    let os : List Errand = errands (at dev ep s.orders) in
    let k = (known setup w c s fine h dev ep holds).fit.coherent in
    call_shows setup w c s h dev ep step (c.names h) (cleared e) (clear_handled (c.endpoints dev ep)) call own is holds refl
    (subst (λ l. IsCoherent (cleared e).endpoint l (events (at dev ep s.news))) (sym (append-nil os)) k)
    (record {
      reply = refl;
      results = refl;
      shows = subst₂ (λ x y. ShowsEnd (packet_size_of setup dev ep) (cleared e).endpoint x (events (at dev ep s.news)) (clear_handled (c.endpoints dev ep)).endpoint y (tellings (at dev ep s.news))) (sym (append-nil os)) (sym (append-nil (at dev ep s.orders)))
          (cleared_shows (packet_size_of setup dev ep) e os (events (at dev ep s.news)) (c.endpoints dev ep) (at dev ep s.orders) (tellings (at dev ep s.news)) (s.endpoints h dev ep holds));
    })
    tt (s.few dev ep) (s.near h dev ep holds)

-- an endpoint that a name's machine has is one that the name holds
pub holds_it : (setup : Setup) (w : World) (h d ep : ℕ) (e : Endpoint) → (machine_of setup h w).endpoints d ep ≡ Some e → (holder setup w.claims d ep ≡ Some h) × (e ≡ w.endpoints d ep)
unfolding machine_of
holds_it setup w h d ep e there = by_holder (holder setup w.claims d ep) there
  where
    by_holder : (o : Option ℕ) → (if is_its h o then Some (w.endpoints d ep) else None) ≡ Some e → (o ≡ Some h) × (e ≡ w.endpoints d ep)
    by_holder None q = absurd cc
    by_holder (Some g) q = by_test (g == h) refl q
      where
        by_test : (b : Bool) → (g == h) ≡ b → (if b then Some (w.endpoints d ep) else None) ≡ Some e → (Some g ≡ Some h) × (e ≡ w.endpoints d ep)
        by_test true same p = (ap (λ k. Some k) (eqb-true g h same), same_Some e (w.endpoints d ep) (sym p))
        by_test false same p = absurd cc
