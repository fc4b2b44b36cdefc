-- A step of nobody, and a refused step, leave the world as it was.
use Rattle.std.proofs.Common.{◌≡◌, ℕ, ◌+◌, ◌-◌, ◌==◌, Bool, true, false, ◌&&◌, List, [], ◌∷◌, ◌++◌, map, Option, Some, None, refl, sym, ap, subst, ◌∙◌, append-nil}
use Rattle.std.specs.Prelude.{◌||◌, not, if◌then◌else◌}
use Rattle.std.proofs.Math.Bool.{or-false}
use Rattle.std.proofs.lemmas.Bool.{eqb-true, false≢true}
use Rattle.usb_model.specs.declared.errand.Errand.{Errand}
use Rattle.usb_model.specs.declared.errand.Errand.TheVariants as errand
use Rattle.usb_model.specs.declared.refused.Refused.{Refused}
use Rattle.usb_model.specs.declared.refused.Refused.TheVariants as refused
use Rattle.usb_model.specs.declared.reply.Reply.{Reply}
use Rattle.usb_model.specs.declared.reply.Reply.TheVariants as reply
use Rattle.usb_model.specs.declared.request.Request.{Request}
use Rattle.usb_model.specs.declared.request.Body.TheVariants.{Out}
use Rattle.usb_model.specs.declared.step.Step.{Step}
use Rattle.usb_model.specs.declared.step.Step.TheVariants.{Open, Close, Claim, Release, Reset, ClearHalt, Submit, Cancel, Expire, Serve, Command, Deliver, Take, Answer, Unplug}
use Rattle.usb_model.specs.declared.verdict.Verdict.{Verdict}
use Rattle.usb_model.specs.declared.verdict.Verdict.TheVariants.{Stop, Again, AgainWith}
use Rattle.usb_model.specs.declared.endpoint.Endpoint.{Endpoint}
use Rattle.usb_model.specs.declared.endpoint.EndpointState.{EndpointState}
use Rattle.usb_model.specs.declared.endpoint.EndpointState.TheVariants.{Running, Stopped, Halted}
use Rattle.usb_model.specs.declared.handle.Handle.{Handle}
use Rattle.usb_model.specs.declared.item.Ask.{Ask}
use Rattle.usb_model.specs.declared.item.Item.{Item}
use Rattle.usb_model.specs.declared.news.Event.{Event}
use Rattle.usb_model.specs.declared.news.Event.TheVariants.{Finished, Paused, Settled}
use Rattle.usb_model.specs.declared.news.News.{News}
use Rattle.usb_model.specs.declared.order.Order.{Order}
use Rattle.usb_model.specs.declared.result.InCallback.{InCallback}
use Rattle.usb_model.specs.declared.result.TransferResult.{TransferResult}
use Rattle.usb_model.specs.Setup.{Setup, is_device}
use Rattle.std.specs.Option.{unwrap_or}
use Rattle.usb_model.specs.declared.outcome.Outcome.{Outcome}
use Rattle.usb_model.specs.Endpoint.Packets.{outcome, open_with, count_of}
use Rattle.usb_model.specs.declared.endpoint_effect.EndpointEffect.{EndpointEffect}
use Rattle.usb_model.specs.Endpoint.{first_waiting, outcome_of}
use Rattle.usb_model.specs.Endpoint.Serve.{serve, serve_first, serve_by, serve_gone, is_no_packet, next_answer}
use Rattle.usb_model.specs.Endpoint.Command.{command}
use Rattle.usb_model.specs.Endpoint.Deliver.{deliver, resume, needs_reset, leads_blank, blanked}
use Rattle.usb_model.specs.declared.effect.Effect.{Effect}
use Rattle.usb_model.specs.Machine.{Machine, says, refused_if, at_endpoint, endpoint_at}
use Rattle.usb_model.specs.Machine.Calls.{open_effect, close_effect, claim_effect, release_effect, reset_effect, clear_halt_effect, submit_to, submit_effect, Home, asks, ask_in_progress, ask_effect, callback_of, answer_callback, answer_effect}
use Rattle.usb_model.specs.Machine.Turns.{serve_effect, command_order, command_effect, deliver_news, deliver_effect, take_effect, unplug_reply, effect, gone_after}
use Rattle.usb_model.specs.World.{World, Turn, machine_of, owner_of, world_after, is_blocked, turn_of, turn_of_nobody, turn_by, turn}
use Rattle.usb_model.specs.World.Journal.{is_unplug}
use Rattle.proof_laws.specs.Nothing.{NobodyChangesNothing, RefusedChangesNothing}

-- whether a reply is a refusal
abbrev is_refusal : Reply → Bool
is_refusal (reply.Refused why) = true
is_refusal _ = false

-- an effect that refuses only says so
abbrev RefusesAlone : Machine → Effect → Type 0
RefusesAlone m x = (why : Refused) → x.reply ≡ reply.Refused why → x ≡ says m (reply.Refused why)

never : (m : Machine) (x : Effect) → is_refusal x.reply ≡ false → RefusesAlone m x
never m x plain why e = absurd (false≢true (sym plain ∙ ap is_refusal e))

said : (m : Machine) (r : Reply) → RefusesAlone m (says m r)
said m r why e = ap (says m) e

if_refused : (m : Machine) (b : Bool) (why : Refused) (rest : Effect) → RefusesAlone m rest → RefusesAlone m (refused_if m b why rest)
unfolding refused_if
if_refused m true why rest alone other e = said m (reply.Refused why) other e
if_refused m false why rest alone other e = alone other e

-- a submission, an ask that a transfer end, and a verdict
submits_alone : (setup : Setup) (m : Machine) (handle : Handle) (request : Request) (round : ℕ) (o : Option Endpoint) → RefusesAlone m (submit_to setup m handle request round o)
unfolding submit_to at_endpoint
submits_alone setup m handle request round None = said m (reply.Refused refused.NotFound)
submits_alone setup m handle request round (Some e) =
    if_refused m _ _ _ (if_refused m _ _ _ (if_refused m _ _ _ (if_refused m _ _ _ (if_refused m _ _ _ (never m _ refl)))))

submit_alone : (setup : Setup) (m : Machine) (handle : Handle) (request : Request) (round : ℕ) → RefusesAlone m (submit_effect setup m handle request round)
unfolding submit_effect
submit_alone setup m handle request round = submits_alone setup m handle request round (endpoint_at m request.ep)

asks_alone : (m : Machine) (n : ℕ) (ask : Ask) (timed : Bool) (o : Option Home) → RefusesAlone m (ask_in_progress m n ask timed o)
unfolding ask_in_progress at_endpoint asks
asks_alone m n ask timed None = said m (reply.Refused refused.NotFound)
asks_alone m n ask timed (Some home) = if_refused m _ _ _ (never m _ refl)

answers_alone : (setup : Setup) (m : Machine) (v : Verdict) (o : Option InCallback) → RefusesAlone m (answer_callback setup m v o)
unfolding answer_callback
answers_alone setup m Stop None = said m (reply.Refused refused.NotFound)
answers_alone setup m Again None = said m (reply.Refused refused.NotFound)
answers_alone setup m (AgainWith bytes) None = said m (reply.Refused refused.NotFound)
answers_alone setup m Stop (Some x) = never m _ refl
answers_alone setup m Again (Some x) = submit_alone setup m _ x.request (x.round + 1)
answers_alone setup m (AgainWith bytes) (Some x) = submit_alone setup m _ (record x.request { body = Out bytes }) (x.round + 1)

clears_alone : (m : Machine) (ep : ℕ) (o : Option Endpoint) → RefusesAlone m (clear_halt_effect m ep o)
unfolding clear_halt_effect
clears_alone m ep None = said m (reply.Refused refused.NotFound)
clears_alone m ep (Some e) = if_refused m _ _ _ (if_refused m _ _ _ (never m _ refl))

-- what is done at an endpoint is never a refusal
served_by : (e : Endpoint) (x : Item) (before after : Outcome) (code : Option ℕ) → is_refusal (serve_by e x before after code).reply ≡ false
unfolding serve_by
served_by e x before after (Some code) = refl
served_by e x before after None = by_packet (is_no_packet (next_answer e))
  where
    by_packet : (t : Bool) → is_refusal (if t then reply.Nak x.n else reply.Moved x.n (count_of after - count_of before)) ≡ false
    by_packet true = refl
    by_packet false = refl

served : (size : ℕ) (gone : Bool) (e : Endpoint) → is_refusal (serve size gone e).reply ≡ false
unfolding serve serve_first serve_gone
served size gone e = by_parts gone e.state (first_waiting e.line)
  where
    by_parts : (g : Bool) (s : EndpointState) (o : Option Item) → is_refusal (serve_first size g e s o).reply ≡ false
    by_parts true Running (Some x) = refl
    by_parts false Running (Some x) =
        let after : Outcome = unwrap_or (outcome x.request size (x.share ++ next_answer e) e.device_halted) (open_with []) in
        served_by e x (outcome_of size x) after after.code
    by_parts true Running None = refl
    by_parts false Running None = refl
    by_parts true Stopped None = refl
    by_parts false Stopped None = refl
    by_parts true Stopped (Some x) = refl
    by_parts false Stopped (Some x) = refl
    by_parts true Halted None = refl
    by_parts false Halted None = refl
    by_parts true Halted (Some x) = refl
    by_parts false Halted (Some x) = refl

commanded : (size ep : ℕ) (e : Endpoint) (errand : Errand) (state : EndpointState) → is_refusal (command size ep e errand state).reply ≡ false
unfolding command
commanded size ep e errand.Stop Running = refl
commanded size ep e errand.Stop Stopped = refl
commanded size ep e errand.Stop Halted = refl
commanded size ep e errand.Reset Running = refl
commanded size ep e errand.Reset Stopped = refl
commanded size ep e errand.Reset Halted = refl
commanded size ep e errand.Move Running = refl
commanded size ep e errand.Move Stopped = refl
commanded size ep e errand.Move Halted = refl

either : (b : Bool) (x y : EndpointEffect) (r : Reply) → x.reply ≡ r → y.reply ≡ r → (if b then x else y).reply ≡ r
either true x y r p q = p
either false x y r p q = q

resumed : (size : ℕ) (e : Endpoint) (r : Reply) (line : List Item) → (resume size e r line).reply ≡ r
unfolding resume
resumed size e r line = either (leads_blank (map blanked line)) _ _ r refl refl

delivered : (size ep : ℕ) (gone : Bool) (e : Endpoint) (event : Event) → is_refusal (deliver size ep gone e event).reply ≡ false
unfolding deliver
delivered size ep gone e (Paused n) = refl
delivered size ep gone e (Finished n code) = ap is_refusal (either (needs_reset code e.errand) _ _ (reply.Finished n) refl refl)
delivered size ep gone e (Settled errand.Stop false) = refl
delivered size ep gone e (Settled errand.Stop true) = ap is_refusal (resumed size e (reply.Settled ep errand.Stop true) e.line)
delivered size ep gone e (Settled errand.Reset ok) = refl
delivered size ep gone e (Settled errand.Move ok) = ap is_refusal (resumed size e (reply.Settled ep errand.Move ok) _)

-- nor is what Command, Deliver and Take say
commands_say : (setup : Setup) (m : Machine) (xs : List Order) → is_refusal (command_effect setup m xs).reply ≡ false
unfolding command_effect command_order at_endpoint
commands_say setup m [] = refl
commands_say setup m (x ∷ xs) = by_end (endpoint_at m x.ep)
  where
    by_end : (o : Option Endpoint) → is_refusal (command_order setup m x o).reply ≡ false
    by_end None = refl
    by_end (Some e) = commanded _ _ e _ _

delivers_say : (setup : Setup) (m : Machine) (xs : List News) → is_refusal (deliver_effect setup m xs).reply ≡ false
unfolding deliver_effect deliver_news at_endpoint
delivers_say setup m [] = refl
delivers_say setup m (x ∷ xs) = by_end (endpoint_at m x.ep)
  where
    by_end : (o : Option Endpoint) → is_refusal (deliver_news setup m x o).reply ≡ false
    by_end None = refl
    by_end (Some e) = delivered _ _ _ e _

takes_say : (h : ℕ) (m : Machine) (xs : List TransferResult) → is_refusal (take_effect h m xs).reply ≡ false
unfolding take_effect
takes_say h m [] = refl
takes_say h m (x ∷ xs) = refl

serves_alone : (setup : Setup) (m : Machine) (dev ep : ℕ) (o : Option Endpoint) → RefusesAlone m (serve_effect setup m dev ep o)
unfolding serve_effect at_endpoint
serves_alone setup m dev ep None = never m _ refl
serves_alone setup m dev ep (Some e) = never m _ (served _ _ e)

-- a step that only says something leaves the world, but for what Command, Deliver and Take take
abbrev takes_nothing : Step → Type 0
takes_nothing Command = ⊥
takes_nothing Deliver = ⊥
takes_nothing Take = ⊥
takes_nothing (Unplug dev) = ⊥
takes_nothing _ = Unit {0}

name_stays : (w : World) (h g : ℕ) → (if h == g then w.names h else w.names g) ≡ w.names g
name_stays w h g = by_test (h == g) refl
  where
    by_test : (b : Bool) → (h == g) ≡ b → (if b then w.names h else w.names g) ≡ w.names g
    by_test true e = ap w.names (eqb-true h g e)
    by_test false e = refl

world_stays : (setup : Setup) (h : ℕ) (w : World) (step : Step) (r : Reply) → takes_nothing step → world_after setup h w step (says (machine_of setup h w) r) ≡ w
unfolding world_after machine_of
world_stays setup h w step r nothing = by_step step nothing
  where
    same : record {
      names = λ g. if h == g then w.names h else w.names g;
      claims = w.claims;
      endpoints = w.endpoints;
      gone = w.gone;
      orders = w.orders ++ [];
      news = w.news ++ [];
      results = w.results ++ [];
    } ≡ w
    same = λ i. record {
      names = λ g. name_stays w h g i;
      claims = w.claims;
      endpoints = w.endpoints;
      gone = w.gone;
      orders = append-nil w.orders i;
      news = append-nil w.news i;
      results = append-nil w.results i;
    }

    by_step : (s : Step) → takes_nothing s → world_after setup h w s (says (machine_of setup h w) r) ≡ w
    by_step (Open g dev) n = same
    by_step (Close g) n = same
    by_step (Claim g k) n = same
    by_step (Release g k) n = same
    by_step (Reset g) n = same
    by_step (ClearHalt g ep) n = same
    by_step (Submit g request) n = same
    by_step (Cancel g k) n = same
    by_step (Expire g k) n = same
    by_step (Serve dev ep) n = same
    by_step (Answer g k v) n = same
    by_step Command n = absurd n
    by_step Deliver n = absurd n
    by_step Take n = absurd n
    by_step (Unplug dev) n = absurd n

-- the turn of a name, where a refusal only says so
turn_stays : (setup : Setup) (h : ℕ) (w : World) (step : Step) (why : Refused) → takes_nothing step
    → RefusesAlone (machine_of setup h w) (effect setup h (machine_of setup h w) step)
    → (turn_of setup h w step).entry.reply ≡ reply.Refused why → (turn_of setup h w step).world ≡ w
unfolding turn_of
turn_stays setup h w step why nothing alone = by_test (is_blocked setup h w (effect setup h (machine_of setup h w) step).change)
  where
    done : Effect
    done = effect setup h (machine_of setup h w) step

    blocked : Turn
    blocked = record { entry = record { owner = Some h; reply = reply.Refused refused.HeldElsewhere }; world = w }

    made : Turn
    made = record { entry = record { owner = Some h; reply = done.reply }; world = world_after setup h w step done }

    by_test : (b : Bool) → (if◌then◌else◌ {A = Turn} b blocked made).entry.reply ≡ reply.Refused why → (if◌then◌else◌ {A = Turn} b blocked made).world ≡ w
    by_test true e = refl
    by_test false e = ap (world_after setup h w step) (alone why e) ∙ world_stays setup h w step (reply.Refused why) nothing

-- the turn of a name that doesn't refuse
turn_says : (setup : Setup) (h : ℕ) (w : World) (step : Step) (why : Refused)
    → is_refusal (effect setup h (machine_of setup h w) step).reply ≡ false → is_blocked setup h w (effect setup h (machine_of setup h w) step).change ≡ false
    → (turn_of setup h w step).entry.reply ≡ reply.Refused why → (turn_of setup h w step).world ≡ w
unfolding turn_of
turn_says setup h w step why plain free e = absurd (false≢true (sym plain ∙ ap is_refusal (sym (free_reply free) ∙ e)))
  where
    free_reply : is_blocked setup h w (effect setup h (machine_of setup h w) step).change ≡ false → (turn_of setup h w step).entry.reply ≡ (effect setup h (machine_of setup h w) step).reply
    free_reply f = rw f refl

or_none : (a b : Bool) → (a || (b && false)) ≡ a
or_none true b = refl
or_none false true = refl
or_none false false = refl

-- an Unplug that is refused finds the device gone, or none
unplug_stays : (setup : Setup) (w : World) (dev : ℕ) (why : Refused) → unplug_reply setup w.gone dev ≡ reply.Refused why → (turn_of_nobody setup w (Unplug dev)).world ≡ w
unfolding turn_of_nobody
unplug_stays setup w dev why = by_device (is_device setup dev) refl (w.gone dev) refl
  where
    by_device : (there : Bool) → is_device setup dev ≡ there → (gone : Bool) → w.gone dev ≡ gone
        → (if not there then reply.Refused refused.NotFound else if gone then reply.Refused refused.NoDevice else reply.Done) ≡ reply.Refused why
        → record w { gone = λ d. gone_after setup w.gone (Unplug dev) d } ≡ w
    by_device false is gone g e = λ i. record w { gone = λ d. none d is i }
      where
        none : (d : ℕ) → is_device setup dev ≡ false → (w.gone d || ((dev == d) && is_device setup dev)) ≡ w.gone d
        none d is = rw is (or_none (w.gone d) (dev == d))
    by_device true is true g e = λ i. record w { gone = λ d. before d i }
      where
        before : (d : ℕ) → (w.gone d || ((dev == d) && is_device setup dev)) ≡ w.gone d
        before d = by_place (dev == d) refl
          where
            by_place : (b : Bool) → (dev == d) ≡ b → (w.gone d || (b && is_device setup dev)) ≡ w.gone d
            by_place true at = let here : w.gone d ≡ true = ap w.gone (sym (eqb-true dev d at)) ∙ g in rw here refl
            by_place false at = or-false (w.gone d)
    by_device true is false g e = absurd cc

-- nobody's step
nobody_stays : (setup : Setup) (w : World) (step : Step) → is_unplug step ≡ false → ((turn_of_nobody setup w step).entry.reply ≡ reply.Idle) × ((turn_of_nobody setup w step).world ≡ w)
unfolding turn_of_nobody
nobody_stays setup w (Unplug dev) plain = absurd cc
nobody_stays setup w (Open h dev) plain = (refl, refl)
nobody_stays setup w (Close h) plain = (refl, refl)
nobody_stays setup w (Claim h i) plain = (refl, refl)
nobody_stays setup w (Release h i) plain = (refl, refl)
nobody_stays setup w (Reset h) plain = (refl, refl)
nobody_stays setup w (ClearHalt h ep) plain = (refl, refl)
nobody_stays setup w (Submit h request) plain = (refl, refl)
nobody_stays setup w (Cancel h n) plain = (refl, refl)
nobody_stays setup w (Expire h n) plain = (refl, refl)
nobody_stays setup w (Serve dev ep) plain = (refl, refl)
nobody_stays setup w Command plain = (refl, refl)
nobody_stays setup w Deliver plain = (refl, refl)
nobody_stays setup w Take plain = (refl, refl)
nobody_stays setup w (Answer h n v) plain = (refl, refl)

pub nobody_changes_nothing : NobodyChangesNothing
unfolding turn
nobody_changes_nothing setup w step nobody plain =
    let P : Option ℕ → Type 0 = λ o. ((turn_by setup o w step).entry.reply ≡ reply.Idle) × ((turn_by setup o w step).world ≡ w) in
    subst P (sym nobody) (nobody_stays setup w step plain)

-- Command, Deliver and Take are never in another's way
command_unblocked : (setup : Setup) (h : ℕ) (w : World) (m : Machine) (xs : List Order) → is_blocked setup h w (command_effect setup m xs).change ≡ false
unfolding command_effect command_order at_endpoint is_blocked
command_unblocked setup h w m [] = refl
command_unblocked setup h w m (x ∷ xs) = by_end (endpoint_at m x.ep)
  where
    by_end : (o : Option Endpoint) → is_blocked setup h w (command_order setup m x o).change ≡ false
    by_end None = refl
    by_end (Some e) = refl

deliver_unblocked : (setup : Setup) (h : ℕ) (w : World) (m : Machine) (xs : List News) → is_blocked setup h w (deliver_effect setup m xs).change ≡ false
unfolding deliver_effect deliver_news at_endpoint is_blocked
deliver_unblocked setup h w m [] = refl
deliver_unblocked setup h w m (x ∷ xs) = by_end (endpoint_at m x.ep)
  where
    by_end : (o : Option Endpoint) → is_blocked setup h w (deliver_news setup m x o).change ≡ false
    by_end None = refl
    by_end (Some e) = refl

take_unblocked : (setup : Setup) (h : ℕ) (w : World) (m : Machine) (xs : List TransferResult) → is_blocked setup h w (take_effect h m xs).change ≡ false
unfolding take_effect is_blocked
take_unblocked setup h w m [] = refl
take_unblocked setup h w m (x ∷ xs) = refl

by_owner : (setup : Setup) (w : World) (step : Step) (why : Refused) (o : Option ℕ) → is_unplug step ≡ false
    → ((h : ℕ) → (turn_of setup h w step).entry.reply ≡ reply.Refused why → (turn_of setup h w step).world ≡ w)
    → (turn_by setup o w step).entry.reply ≡ reply.Refused why → (turn_by setup o w step).world ≡ w
by_owner setup w step why (Some h) plain stays = stays h
by_owner setup w step why None plain stays = λ e. (nobody_stays setup w step plain).1

pub refused_changes_nothing : RefusedChangesNothing
unfolding turn turn_of_nobody effect is_blocked open_effect close_effect claim_effect release_effect reset_effect ask_effect answer_effect
refused_changes_nothing setup w (Open g dev) why = turn_stays setup g w (Open g dev) why tt (if_refused (machine_of setup g w) _ _ _ (if_refused (machine_of setup g w) _ _ _ (if_refused (machine_of setup g w) _ _ _ (never (machine_of setup g w) _ refl))))
refused_changes_nothing setup w (Close g) why = turn_stays setup g w (Close g) why tt (if_refused (machine_of setup g w) _ _ _ (if_refused (machine_of setup g w) _ _ _ (never (machine_of setup g w) _ refl)))
refused_changes_nothing setup w (Claim g i) why = turn_stays setup g w (Claim g i) why tt (if_refused (machine_of setup g w) _ _ _ (if_refused (machine_of setup g w) _ _ _ (if_refused (machine_of setup g w) _ _ _ (never (machine_of setup g w) _ refl))))
refused_changes_nothing setup w (Release g i) why = turn_stays setup g w (Release g i) why tt (if_refused (machine_of setup g w) _ _ _ (if_refused (machine_of setup g w) _ _ _ (never (machine_of setup g w) _ refl)))
refused_changes_nothing setup w (Reset g) why = turn_stays setup g w (Reset g) why tt (if_refused (machine_of setup g w) _ _ _ (if_refused (machine_of setup g w) _ _ _ (if_refused (machine_of setup g w) _ _ _ (never (machine_of setup g w) _ refl))))
refused_changes_nothing setup w (ClearHalt g ep) why = turn_stays setup g w (ClearHalt g ep) why tt (clears_alone (machine_of setup g w) ep (endpoint_at (machine_of setup g w) ep))
refused_changes_nothing setup w (Submit g request) why = turn_stays setup g w (Submit g request) why tt (submit_alone setup (machine_of setup g w) (machine_of setup g w).handle request 0)
refused_changes_nothing setup w (Cancel g n) why = turn_stays setup g w (Cancel g n) why tt (asks_alone (machine_of setup g w) n _ false _)
refused_changes_nothing setup w (Expire g n) why = turn_stays setup g w (Expire g n) why tt (asks_alone (machine_of setup g w) n _ true _)
refused_changes_nothing setup w (Answer g n v) why = turn_stays setup g w (Answer g n v) why tt (answers_alone setup (machine_of setup g w) v (callback_of n (machine_of setup g w).handle.in_callbacks))
refused_changes_nothing setup w (Unplug dev) why = unplug_stays setup w dev why
refused_changes_nothing setup w (Serve dev ep) why = by_owner setup w (Serve dev ep) why (owner_of setup w (Serve dev ep)) refl
    (λ h. turn_stays setup h w (Serve dev ep) why tt (serves_alone setup (machine_of setup h w) dev ep ((machine_of setup h w).endpoints dev ep)))
refused_changes_nothing setup w Command why = by_owner setup w Command why (owner_of setup w Command) refl
    (λ h. turn_says setup h w Command why (commands_say setup (machine_of setup h w) (machine_of setup h w).orders) (command_unblocked setup h w (machine_of setup h w) (machine_of setup h w).orders))
refused_changes_nothing setup w Deliver why = by_owner setup w Deliver why (owner_of setup w Deliver) refl
    (λ h. turn_says setup h w Deliver why (delivers_say setup (machine_of setup h w) (machine_of setup h w).news) (deliver_unblocked setup h w (machine_of setup h w) (machine_of setup h w).news))
refused_changes_nothing setup w Take why = by_owner setup w Take why (owner_of setup w Take) refl
    (λ h. turn_says setup h w Take why (takes_say h (machine_of setup h w) (machine_of setup h w).results) (take_unblocked setup h w (machine_of setup h w) (machine_of setup h w).results))
