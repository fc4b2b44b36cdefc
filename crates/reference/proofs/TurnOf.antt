-- A turn of a name: what is taken out while its effect is made is put back by it.
use Rattle.std.proofs.Common.{◌≡◌, ℕ, ◌==◌, Bool, true, false, ◌&&◌, List, [], ◌∷◌, ◌++◌, Option, Some, None, refl, sym, ap, ◌∙◌}
use Rattle.std.specs.Prelude.{if◌then◌else◌}
use Rattle.usb_model.specs.declared.refused.Refused.{Refused}
use Rattle.usb_model.specs.declared.refused.Refused.TheVariants.{HeldElsewhere}
use Rattle.usb_model.specs.declared.effect.Effect.{Effect}
use Rattle.usb_model.specs.declared.effect.Change.{Change}
use Rattle.usb_model.specs.declared.effect.Change.TheVariants.{Keeps, Frees, Gains, Drops, Renews, Sets}
use Rattle.usb_model.specs.declared.endpoint.Endpoint.{Endpoint}
use Rattle.usb_model.specs.declared.handle.Handle.{Handle}
use Rattle.usb_model.specs.declared.step.Step.{Step}
use Rattle.std.proofs.lemmas.Bool.{eqb-true}
use Rattle.usb_model.specs.declared.request.Request.{Request}
use Rattle.usb_model.specs.declared.reply.Reply.TheVariants as reply
use Rattle.usb_model.specs.declared.step.Step.TheVariants.{Open, Close, Claim, Release, Reset, ClearHalt, Submit, Cancel, Expire, Serve, Command, Deliver, Take, Answer, Unplug}
use Rattle.usb_model.specs.declared.verdict.Verdict.{Verdict}
use Rattle.usb_model.specs.declared.verdict.Verdict.TheVariants as verdict
use Rattle.usb_model.specs.declared.item.Ask.{Ask}
use Rattle.usb_model.specs.declared.item.Ask.TheVariants as ask
use Rattle.usb_model.specs.declared.news.News.{News}
use Rattle.usb_model.specs.declared.order.Order.{Order}
use Rattle.usb_model.specs.declared.result.InCallback.{InCallback}
use Rattle.usb_model.specs.declared.result.TransferResult.{TransferResult}
use Rattle.usb_model.specs.World.Shared.{past_first, tagged}
use Rattle.usb_model.specs.Setup.{Setup, endpoints_of}
use Rattle.usb_model.specs.Machine.{Machine, device_of, endpoint_at, refused_if, says, at_endpoint}
use Rattle.usb_model.specs.Machine.Calls.{Home, home_of, open_effect, close_effect, claim_effect, release_effect, reset_effect, clear_halt_effect, submit_to, submit_effect, ask_in_progress, ask_effect, callback_of, answer_callback, answer_effect}
use Rattle.usb_model.specs.Machine.Turns.{serve_effect, command_order, command_effect, deliver_news, deliver_effect, take_effect, effect, takes_order, takes_news, takes_result, gone_after}
use Rattle.usb_model.specs.World.{World, turn_of, machine_of, holder, is_its, is_blocked, claims_after, all_ends_after, world_after}
use Rattle.reference.specs.System.{Turns, with_endpoint_out, no_endpoint, with_handle, without_endpoint}

-- who is in the way is the same while a handle and an endpoint are taken out
pub blocked_same : (setup : Setup) (h : ℕ) (w : World) (handle : Handle) (change : Change) → is_blocked setup h (with_endpoint_out setup h (with_handle h handle w) change) change ≡ is_blocked setup h w change
unfolding is_blocked
blocked_same setup h w handle Keeps = refl
blocked_same setup h w handle Frees = refl
blocked_same setup h w handle (Gains dev i) = refl
blocked_same setup h w handle (Drops dev i) = refl
blocked_same setup h w handle (Renews dev) = refl
blocked_same setup h w handle (Sets dev ep x) = refl

-- what is set last stays
set_last : {T : Type 0} (b : Bool) (x y z : T) → (if b then x else (if b then y else z)) ≡ (if b then x else z)
set_last true x y z = refl
set_last false x y z = refl

-- a handle that is put back
handle_back : (setup : Setup) (h : ℕ) (w : World) (handle : Handle) (step : Step) (done : Effect) → world_after setup h (with_handle h handle w) step done ≡ world_after setup h w step done
unfolding world_after
handle_back setup h w handle step done = λ i. record {
  names = λ g. set_last (h == g) done.handle handle (w.names g) i;
  claims = λ d k. claims_after h w.claims done.change d k;
  endpoints = λ d e. all_ends_after setup h w.claims w.endpoints done.change d e;
  gone = λ d. gone_after setup w.gone step d;
  orders = past_first (takes_order step) w.orders ++ tagged h done.orders;
  news = past_first (takes_news step) w.news ++ tagged h done.news;
  results = past_first (takes_result step) w.results ++ tagged h done.results;
}

-- an endpoint that is set where one was taken out
end_back : (setup : Setup) (h : ℕ) (w : World) (step : Step) (done : Effect) (dev ep : ℕ) (x : Endpoint) → done.change ≡ Sets dev ep x
    → world_after setup h (without_endpoint setup h w dev ep) step done ≡ world_after setup h w step done
unfolding world_after
end_back setup h w step done dev ep x e = rw e (λ i. record {
  names = λ g. if h == g then done.handle else w.names g;
  claims = λ d k. w.claims d k;
  endpoints = λ d k. set_last (((dev == d) && (ep == k)) && is_its h (holder setup w.claims d k)) x no_endpoint (w.endpoints d k) i;
  gone = λ d. gone_after setup w.gone step d;
  orders = past_first (takes_order step) w.orders ++ tagged h done.orders;
  news = past_first (takes_news step) w.news ++ tagged h done.news;
  results = past_first (takes_result step) w.results ++ tagged h done.results;
})

-- the world after the step is the same as if nothing had been taken out
pub put_back : (setup : Setup) (h : ℕ) (w : World) (handle : Handle) (step : Step) (done : Effect)
    → world_after setup h (with_endpoint_out setup h (with_handle h handle w) done.change) step done ≡ world_after setup h w step done
put_back setup h w handle step done = by_change done.change refl ∙ handle_back setup h w handle step done
  where
    by_change : (change : Change) → done.change ≡ change → world_after setup h (with_endpoint_out setup h (with_handle h handle w) change) step done ≡ world_after setup h (with_handle h handle w) step done
    by_change Keeps e = refl
    by_change Frees e = refl
    by_change (Gains dev i) e = refl
    by_change (Drops dev i) e = refl
    by_change (Renews dev) e = refl
    by_change (Sets dev ep x) e = end_back setup h (with_handle h handle w) step done dev ep x e

-- whether a change asks for what another may hold
abbrev pub asks_for : Change → Bool
asks_for (Gains dev i) = true
asks_for (Renews dev) = true
asks_for _ = false

-- such an effect leaves the handle as it is
pub record KeepsHandle (m : Machine) (x : Effect) : Type 0 where
  pub keeps : asks_for x.change ≡ true → x.handle ≡ m.handle

-- an effect that asks for nothing does
quiet : (m : Machine) (x : Effect) → asks_for x.change ≡ false → KeepsHandle m x
quiet m x e = record { keeps = λ q. absurd (apart (sym e ∙ q)) }
  where
    apart : false ≡ true → ⊥
    apart r = cc

-- so does one that is refused, or one that does
refused_keep : (m : Machine) (b : Bool) (why : Refused) (rest : Effect) → KeepsHandle m rest → KeepsHandle m (refused_if m b why rest)
unfolding refused_if
refused_keep m true why rest k = quiet m (says m (reply.Refused why)) refl
refused_keep m false why rest k = k

submits_keep : (setup : Setup) (m : Machine) (handle : Handle) (request : Request) (round : ℕ) → KeepsHandle m (submit_effect setup m handle request round)
unfolding submit_effect submit_to at_endpoint
submits_keep setup m handle request round = by_end (endpoint_at m request.ep)
  where
    by_end : (o : Option Endpoint) → KeepsHandle m (submit_to setup m handle request round o)
    by_end None = quiet m _ refl
    by_end (Some e) = refused_keep m _ _ _ (refused_keep m _ _ _ (refused_keep m _ _ _ (refused_keep m _ _ _ (refused_keep m _ _ _ (quiet m _ refl)))))

asks_keep : (setup : Setup) (m : Machine) (n : ℕ) (ask : Ask) (timed : Bool) → KeepsHandle m (ask_effect setup m n ask timed)
unfolding ask_effect ask_in_progress at_endpoint
asks_keep setup m n ask timed = by_home (home_of m n (endpoints_of setup (device_of m)))
  where
    by_home : (o : Option Home) → KeepsHandle m (ask_in_progress m n ask timed o)
    by_home None = quiet m _ refl
    by_home (Some home) = refused_keep m _ _ _ (quiet m _ refl)

answers_keep : (setup : Setup) (m : Machine) (n : ℕ) (verdict : Verdict) → KeepsHandle m (answer_effect setup m n verdict)
unfolding answer_effect answer_callback
answers_keep setup m n v = by_callback (callback_of n m.handle.in_callbacks) v
  where
    by_callback : (o : Option InCallback) (v : Verdict) → KeepsHandle m (answer_callback setup m v o)
    by_callback None v = quiet m _ refl
    by_callback (Some x) verdict.Stop = quiet m _ refl
    by_callback (Some x) verdict.Again = submits_keep setup m _ _ _
    by_callback (Some x) (verdict.AgainWith bytes) = submits_keep setup m _ _ _

-- every step's effect does
pub effect_keeps : (setup : Setup) (h : ℕ) (m : Machine) (step : Step) → KeepsHandle m (effect setup h m step)
unfolding effect open_effect close_effect claim_effect release_effect reset_effect clear_halt_effect serve_effect command_effect command_order deliver_effect deliver_news take_effect at_endpoint
effect_keeps setup h m (Open g dev) = refused_keep m _ _ _ (refused_keep m _ _ _ (refused_keep m _ _ _ (quiet m _ refl)))
effect_keeps setup h m (Close g) = refused_keep m _ _ _ (refused_keep m _ _ _ (quiet m _ refl))
effect_keeps setup h m (Claim g i) = refused_keep m _ _ _ (refused_keep m _ _ _ (refused_keep m _ _ _ (record { keeps = λ q. refl })))
effect_keeps setup h m (Release g i) = refused_keep m _ _ _ (refused_keep m _ _ _ (quiet m _ refl))
effect_keeps setup h m (Reset g) = refused_keep m _ _ _ (refused_keep m _ _ _ (refused_keep m _ _ _ (record { keeps = λ q. refl })))
effect_keeps setup h m (ClearHalt g ep) = by_end (endpoint_at m ep)
  where
    by_end : (o : Option Endpoint) → KeepsHandle m (clear_halt_effect m ep o)
    by_end None = quiet m _ refl
    by_end (Some e) = refused_keep m _ _ _ (refused_keep m _ _ _ (quiet m _ refl))
effect_keeps setup h m (Submit g request) = submits_keep setup m m.handle request 0
effect_keeps setup h m (Cancel g n) = asks_keep setup m n ask.Cancel false
effect_keeps setup h m (Expire g n) = asks_keep setup m n ask.Time true
effect_keeps setup h m (Serve dev ep) = by_end (m.endpoints dev ep)
  where
    by_end : (o : Option Endpoint) → KeepsHandle m (serve_effect setup m dev ep o)
    by_end None = quiet m _ refl
    by_end (Some e) = quiet m _ refl
effect_keeps setup h m Command = by_orders m.orders
  where
    by_end : (order : Order) (o : Option Endpoint) → KeepsHandle m (command_order setup m order o)
    by_end order None = quiet m _ refl
    by_end order (Some e) = quiet m _ refl

    by_orders : (xs : List Order) → KeepsHandle m (command_effect setup m xs)
    by_orders [] = quiet m _ refl
    by_orders (order ∷ xs) = by_end order (endpoint_at m order.ep)
effect_keeps setup h m Deliver = by_news m.news
  where
    by_end : (news : News) (o : Option Endpoint) → KeepsHandle m (deliver_news setup m news o)
    by_end news None = quiet m _ refl
    by_end news (Some e) = quiet m _ refl

    by_news : (xs : List News) → KeepsHandle m (deliver_effect setup m xs)
    by_news [] = quiet m _ refl
    by_news (news ∷ xs) = by_end news (endpoint_at m news.ep)
effect_keeps setup h m Take = by_results m.results
  where
    by_results : (xs : List TransferResult) → KeepsHandle m (take_effect h m xs)
    by_results [] = quiet m _ refl
    by_results (x ∷ xs) = quiet m _ refl
effect_keeps setup h m (Answer g n v) = answers_keep setup m n v
effect_keeps setup h m (Unplug dev) = quiet m _ refl

-- a change that another is in the way of asks for something
pub blocked_asks : (setup : Setup) (h : ℕ) (w : World) (change : Change) → is_blocked setup h w change ≡ true → asks_for change ≡ true
unfolding is_blocked
blocked_asks setup h w (Gains dev i) e = refl
blocked_asks setup h w (Renews dev) e = refl
blocked_asks setup h w _ e = absurd cc

-- and takes no endpoint out
pub asking_lends_nothing : (setup : Setup) (h : ℕ) (w : World) (change : Change) → asks_for change ≡ true → with_endpoint_out setup h w change ≡ w
asking_lends_nothing setup h w (Gains dev i) e = refl
asking_lends_nothing setup h w (Renews dev) e = refl
asking_lends_nothing setup h w _ e = absurd cc

-- so the world is as it was, once the handle is back
pub all_back : (h : ℕ) (w : World) (handle : Handle) → with_handle h (w.names h) (with_handle h handle w) ≡ w
all_back h w handle = λ i. record w { names = λ g. by_test g (h == g) refl i }
  where
    by_test : (g : ℕ) (b : Bool) → (h == g) ≡ b → (if b then w.names h else (if b then handle else w.names g)) ≡ w.names g
    by_test g true e = ap w.names (eqb-true h g e)
    by_test g false e = refl

-- who is in the way is in the way of the world as it was
blocked_at : (setup : Setup) (h : ℕ) (w v : World) (handle : Handle) (change : Change) (b : Bool) → v ≡ with_endpoint_out setup h (with_handle h handle w) change → is_blocked setup h v change ≡ b → is_blocked setup h w change ≡ b
blocked_at setup h w v handle change b is_lent e = sym (blocked_same setup h w handle change) ∙ (sym (ap (λ (x : World). is_blocked setup h x change) is_lent) ∙ e)

-- a turn that another is in the way of
pub turned_away : (setup : Setup) (h : ℕ) (w v : World) (step : Step) (done : Effect) (handle : Handle) → done ≡ effect setup h (machine_of setup h w) step → v ≡ with_endpoint_out setup h (with_handle h handle w) done.change
    → is_blocked setup h v done.change ≡ true → Turns (turn_of setup h w step) (record { owner = Some h; reply = reply.Refused HeldElsewhere }) (with_handle h done.handle v)
unfolding turn_of machine_of
turned_away setup h w v step done handle is_effect is_lent blocked =
    let at_w : is_blocked setup h w done.change ≡ true = blocked_at setup h w v handle done.change true is_lent blocked in
    let asks : asks_for done.change ≡ true = blocked_asks setup h w done.change at_w in
    let same : done.handle ≡ w.names h = ap (λ (x : Effect). x.handle) is_effect ∙ (effect_keeps setup h (machine_of setup h w) step).keeps (ap (λ (x : Effect). asks_for x.change) (sym is_effect) ∙ asks) in
    let back : with_handle h done.handle v ≡ w =
    ap (λ (x : World). with_handle h done.handle x) (is_lent ∙ asking_lends_nothing setup h (with_handle h handle w) done.change asks)
    ∙ (ap (λ (y : Handle). with_handle h y (with_handle h handle w)) same ∙ all_back h w handle) in
    rw (← is_effect, at_w) (refl, back)

-- and one that none is
pub turned : (setup : Setup) (h : ℕ) (w v : World) (step : Step) (done : Effect) (handle : Handle) → done ≡ effect setup h (machine_of setup h w) step → v ≡ with_endpoint_out setup h (with_handle h handle w) done.change
    → is_blocked setup h v done.change ≡ false → Turns (turn_of setup h w step) (record { owner = Some h; reply = done.reply }) (world_after setup h v step done)
unfolding turn_of
turned setup h w v step done handle is_effect is_lent free =
    let at_w : is_blocked setup h w done.change ≡ false = blocked_at setup h w v handle done.change false is_lent free in
    rw (← is_effect, at_w) (refl, ap (λ (x : World). world_after setup h x step done) is_lent ∙ put_back setup h w handle step done)
