-- Every step: the reason told is of the reply's sort.
use Rattle.std.proofs.Common.{◌≡◌, ℕ, Bool, true, false, List, [], ◌∷◌, map, Option, Some, None, refl, sym, ap, ◌∙◌}
use Rattle.std.specs.Prelude.{if◌then◌else◌}
use Rattle.usb_model.specs.declared.endpoint.Endpoint.{Endpoint}
use Rattle.usb_model.specs.declared.endpoint.EndpointState.{EndpointState}
use Rattle.usb_model.specs.declared.endpoint.EndpointState.TheVariants.{Running, Stopped, Halted}
use Rattle.usb_model.specs.declared.errand.Errand.{Errand}
use Rattle.usb_model.specs.declared.errand.Errand.TheVariants as errand
use Rattle.usb_model.specs.declared.item.Ask.TheVariants as ask
use Rattle.usb_model.specs.declared.news.News.{News}
use Rattle.usb_model.specs.declared.order.Order.{Order}
use Rattle.usb_model.specs.declared.refused.Refused.TheVariants as refused
use Rattle.usb_model.specs.declared.reply.Reply.TheVariants as reply
use Rattle.usb_model.specs.declared.result.TransferResult.{TransferResult}
use Rattle.usb_model.specs.declared.shared.Tagged.{Tagged}
use Rattle.usb_model.specs.declared.step.Step.{Step}
use Rattle.usb_model.specs.declared.step.Step.TheVariants.{Open, Close, Claim, Release, Reset, ClearHalt, Submit, Cancel, Expire, Serve, Command, Deliver, Take, Answer, Unplug}
use Rattle.usb_model.specs.declared.news.Event.{Event}
use Rattle.usb_model.specs.declared.news.Event.TheVariants as event
use Rattle.usb_model.specs.Endpoint.Command.{command}
use Rattle.usb_model.specs.declared.item.Item.{Item}
use Rattle.usb_model.specs.Endpoint.{in_progress, past_blanks}
use Rattle.usb_model.specs.Endpoint.Deliver.{blanked, deliver, finished_result, leads_blank, line_after, needs_reset, orders_errand, resume, withdrawn}
use Rattle.usb_model.specs.Setup.{Setup, packet_size_of}
use Rattle.usb_model.specs.Machine.{Machine, at_endpoint, endpoint_at}
use Rattle.usb_model.specs.Machine.Turns.{command_effect, command_order, deliver_effect, deliver_news, effect, serve_effect, take_effect}
use Rattle.usb_model.specs.World.{World, Turn, holder, is_blocked, machine_of, turn, turn_by, turn_of, turn_of_nobody, world_after}
use Rattle.usb_model.specs.World.Shared.{first_name, pieces_of}
use Rattle.proof_model.proofs.Lists.Pieces.{same_name}
use Rattle.trace_explain.specs.Reasons.{reason_of}
use Rattle.trace_explain.specs.Sorts.{Nothing, sort_of, sort_of_reply}
use Rattle.trace_explain.specs.Turns.{command_reason, deliver_reason, errand_reason, held_reason, news_reason, order_reason, serve_reason, serve_reason_by, take_reason}
use Rattle.trace_explain.proofs.TellsAsks.{ask_told}
use Rattle.trace_explain.proofs.TellsCalls.{claim_told, close_told, open_told, release_told, reset_told, unplug_told}
use Rattle.trace_explain.proofs.TellsEnds.{served_told}
use Rattle.trace_explain.proofs.TellsSubmissions.{answer_told, clear_told, submit_told}
use Rattle.trace_explain.proofs.Told.{replied, told_sort}

-- the reply to the step of a name
of_name : (setup : Setup) (h : ℕ) (w : World) (step : Step) → (turn_of setup h w step).entry.reply ≡ replied setup h w (effect setup h (machine_of setup h w) step)
unfolding turn_of
of_name setup h w step =
    either (is_blocked setup h w (effect setup h (machine_of setup h w) step).change) (record { entry = record { owner = Some h; reply = reply.Refused refused.HeldElsewhere }; world = w })
    (record { entry = record { owner = Some h; reply = (effect setup h (machine_of setup h w) step).reply }; world = world_after setup h w step (effect setup h (machine_of setup h w) step) })
  where
    either : (b : Bool) (x y : Turn) → (if b then x else y).entry.reply ≡ (if b then x.entry.reply else y.entry.reply)
    either true x y = refl
    either false x y = refl

-- the same of its sort
sort_of_name : (setup : Setup) (h : ℕ) (w : World) (step : Step) → sort_of_reply (replied setup h w (effect setup h (machine_of setup h w) step)) ≡ sort_of_reply (turn_of setup h w step).entry.reply
sort_of_name setup h w step = ap sort_of_reply (sym (of_name setup h w step))

-- a device answers one packet
serve_told : (setup : Setup) (w : World) (dev ep : ℕ) → sort_of (serve_reason setup w dev ep) ≡ sort_of_reply (turn_by setup (holder setup w.claims dev ep) w (Serve dev ep)).entry.reply
unfolding serve_reason held_reason turn_of_nobody effect serve_effect at_endpoint machine_of is_blocked
serve_told setup w dev ep = by_holder (holder setup w.claims dev ep) refl
  where
    by_holder : (o : Option ℕ) → holder setup w.claims dev ep ≡ o → sort_of (serve_reason_by setup w dev ep o) ≡ sort_of_reply (turn_by setup o w (Serve dev ep)).entry.reply
    by_holder None e = refl
    by_holder (Some h) e =
        let there : (machine_of setup h w).endpoints dev ep ≡ Some (w.endpoints dev ep) = rw (e, same_name h) refl in
        served_told (packet_size_of setup dev ep) dev ep (w.gone dev) (w.endpoints dev ep)
        ∙ ap (λ o. sort_of_reply (replied setup h w (serve_effect setup (machine_of setup h w) dev ep o))) (sym there)
        ∙ sort_of_name setup h w (Serve dev ep)

-- the first of all pieces is the first of its name's own
own_first : {A : Type 0} (x : Tagged A) (xs : List (Tagged A)) → pieces_of x.name (x ∷ xs) ≡ x.piece ∷ pieces_of x.name xs
own_first x xs = rw (same_name x.name) refl

-- an order, at the endpoint where it is carried out
errand_told : (size ep : ℕ) (e : Endpoint) (kind : Errand) (state : EndpointState) → sort_of (errand_reason ep kind state) ≡ sort_of_reply (command size ep e kind state).reply
unfolding command
errand_told size ep e errand.Stop Running = refl
errand_told size ep e errand.Stop Stopped = refl
errand_told size ep e errand.Stop Halted = refl
errand_told size ep e errand.Reset Running = refl
errand_told size ep e errand.Reset Stopped = refl
errand_told size ep e errand.Reset Halted = refl
errand_told size ep e errand.Move Running = refl
errand_told size ep e errand.Move Stopped = refl
errand_told size ep e errand.Move Halted = refl

order_told : (setup : Setup) (h : ℕ) (w : World) (m : Machine) (order : Order) (o : Option Endpoint) → sort_of (order_reason h order o) ≡ sort_of_reply (replied setup h w (command_order setup m order o))
unfolding command_order at_endpoint is_blocked
order_told setup h w m order None = refl
order_told setup h w m order (Some e) = errand_told _ order.ep e order.errand e.state

command_told : (setup : Setup) (w : World) (orders : List (Tagged Order)) → w.orders ≡ orders → sort_of (command_reason setup w orders) ≡ sort_of_reply (turn_by setup (first_name orders) w Command).entry.reply
unfolding command_reason turn_of_nobody effect command_effect machine_of
command_told setup w [] e = refl
command_told setup w (x ∷ xs) e =
    let m : Machine = machine_of setup x.name w in
    let own : m.orders ≡ x.piece ∷ pieces_of x.name xs = ap (pieces_of x.name) e ∙ own_first x xs in
    order_told setup x.name w m x.piece (endpoint_at m x.piece.ep)
    ∙ ap (λ os. sort_of_reply (replied setup x.name w (command_effect setup m os))) (sym own)
    ∙ sort_of_name setup x.name w Command

-- no piece of news that is handled needs a reason
resumed : (size : ℕ) (e : Endpoint) (line : List Item) (ep : ℕ) (kind : Errand) (ok : Bool) → sort_of_reply (resume size e (reply.Settled ep kind ok) line).reply ≡ Nothing
unfolding resume
resumed size e line ep kind ok = by_test (leads_blank (map blanked line))
  where
    by_test : (b : Bool) → sort_of_reply (if b then orders_errand (record e { line = map blanked line }) errand.Move (reply.Settled ep kind ok) (withdrawn size line) else record { reply = reply.Settled ep kind ok; endpoint = record e { line = map blanked line; errand = None; state = Running }; orders = []; news = []; results = withdrawn size line }).reply ≡ Nothing
    by_test true = refl
    by_test false = refl

delivered : (size ep : ℕ) (gone : Bool) (e : Endpoint) (happened : Event) → Nothing ≡ sort_of_reply (deliver size ep gone e happened).reply
unfolding deliver
delivered size ep gone e (event.Finished n code) = by_test (needs_reset code e.errand)
  where
    by_test : (b : Bool) → Nothing ≡ sort_of_reply (if b then orders_errand (record e { line = line_after n code e.line }) errand.Reset (reply.Finished n) (finished_result size gone code (in_progress n e.line)) else record { reply = reply.Finished n; endpoint = record e { line = line_after n code e.line }; orders = []; news = []; results = finished_result size gone code (in_progress n e.line) }).reply
    by_test true = refl
    by_test false = refl
delivered size ep gone e (event.Paused n) = refl
delivered size ep gone e (event.Settled errand.Stop false) = refl
delivered size ep gone e (event.Settled errand.Stop true) = sym (resumed size e e.line ep errand.Stop true)
delivered size ep gone e (event.Settled errand.Reset true) = refl
delivered size ep gone e (event.Settled errand.Reset false) = refl
delivered size ep gone e (event.Settled errand.Move true) = sym (resumed size e (past_blanks e.line) ep errand.Move true)
delivered size ep gone e (event.Settled errand.Move false) = sym (resumed size e (past_blanks e.line) ep errand.Move false)

news_told : (setup : Setup) (h : ℕ) (w : World) (m : Machine) (news : News) (o : Option Endpoint) → sort_of (news_reason h news o) ≡ sort_of_reply (replied setup h w (deliver_news setup m news o))
unfolding deliver_news at_endpoint is_blocked
news_told setup h w m news None = refl
news_told setup h w m news (Some e) = delivered _ news.ep _ e news.event

deliver_told : (setup : Setup) (w : World) (news : List (Tagged News)) → w.news ≡ news → sort_of (deliver_reason setup w news) ≡ sort_of_reply (turn_by setup (first_name news) w Deliver).entry.reply
unfolding deliver_reason turn_of_nobody effect deliver_effect machine_of
deliver_told setup w [] e = refl
deliver_told setup w (x ∷ xs) e =
    let m : Machine = machine_of setup x.name w in
    let own : m.news ≡ x.piece ∷ pieces_of x.name xs = ap (pieces_of x.name) e ∙ own_first x xs in
    news_told setup x.name w m x.piece (endpoint_at m x.piece.ep)
    ∙ ap (λ ns. sort_of_reply (replied setup x.name w (deliver_effect setup m ns))) (sym own)
    ∙ sort_of_name setup x.name w Deliver

take_told : (setup : Setup) (w : World) (results : List (Tagged TransferResult)) → w.results ≡ results → sort_of (take_reason results) ≡ sort_of_reply (turn_by setup (first_name results) w Take).entry.reply
unfolding take_reason turn_of_nobody effect take_effect machine_of is_blocked
take_told setup w [] e = refl
take_told setup w (x ∷ xs) e =
    let m : Machine = machine_of setup x.name w in
    let own : m.results ≡ x.piece ∷ pieces_of x.name xs = ap (pieces_of x.name) e ∙ own_first x xs in
    ap (λ rs. sort_of_reply (replied setup x.name w (take_effect x.name m rs))) (sym own)
    ∙ sort_of_name setup x.name w Take

pub sorts_agree : (setup : Setup) (w : World) (step : Step) → sort_of (reason_of setup w step) ≡ sort_of_reply (turn setup w step).entry.reply
unfolding reason_of turn effect turn_of_nobody
sorts_agree setup w (Open h dev) = told_sort setup h (machine_of setup h w) _ ∙ open_told setup h w (machine_of setup h w) dev ∙ sort_of_name setup h w (Open h dev)
sorts_agree setup w (Close h) = told_sort setup h (machine_of setup h w) _ ∙ close_told setup h w (machine_of setup h w) ∙ sort_of_name setup h w (Close h)
sorts_agree setup w (Claim h i) = told_sort setup h (machine_of setup h w) _ ∙ claim_told setup h w i ∙ sort_of_name setup h w (Claim h i)
sorts_agree setup w (Release h i) = told_sort setup h (machine_of setup h w) _ ∙ release_told setup h w (machine_of setup h w) i ∙ sort_of_name setup h w (Release h i)
sorts_agree setup w (Reset h) = told_sort setup h (machine_of setup h w) _ ∙ reset_told setup h w (machine_of setup h w) ∙ sort_of_name setup h w (Reset h)
sorts_agree setup w (ClearHalt h ep) = told_sort setup h (machine_of setup h w) _ ∙ clear_told setup h w (machine_of setup h w) ep ∙ sort_of_name setup h w (ClearHalt h ep)
sorts_agree setup w (Submit h request) = told_sort setup h (machine_of setup h w) _ ∙ submit_told setup h w (machine_of setup h w) (machine_of setup h w).handle request 0 ∙ sort_of_name setup h w (Submit h request)
sorts_agree setup w (Cancel h n) = told_sort setup h (machine_of setup h w) _ ∙ ask_told setup h w (machine_of setup h w) n ask.Cancel false ∙ sort_of_name setup h w (Cancel h n)
sorts_agree setup w (Expire h n) = told_sort setup h (machine_of setup h w) _ ∙ ask_told setup h w (machine_of setup h w) n ask.Time true ∙ sort_of_name setup h w (Expire h n)
sorts_agree setup w (Serve dev ep) = serve_told setup w dev ep
sorts_agree setup w Command = command_told setup w w.orders refl
sorts_agree setup w Deliver = deliver_told setup w w.news refl
sorts_agree setup w Take = take_told setup w w.results refl
sorts_agree setup w (Answer h n verdict) = told_sort setup h (machine_of setup h w) _ ∙ answer_told setup h w (machine_of setup h w) n verdict ∙ sort_of_name setup h w (Answer h n verdict)
sorts_agree setup w (Unplug dev) = unplug_told setup w.gone dev
