-- Where there is work: at an endpoint, by what a packet does there; and where something waits in a list.
use Rattle.std.proofs.Common.{Bool, List, None, Option, Some, [], ap, false, refl, sym, true, ℕ, ◌∙◌, ◌∷◌, ◌≡◌}
use Rattle.usb_model.specs.declared.endpoint.Endpoint.{Endpoint}
use Rattle.usb_model.specs.declared.endpoint.EndpointState.{EndpointState}
use Rattle.usb_model.specs.declared.endpoint.EndpointState.TheVariants.{Halted, Running, Stopped}
use Rattle.usb_model.specs.declared.errand.Errand.{Errand}
use Rattle.usb_model.specs.declared.errand.Errand.TheVariants as errand
use Rattle.usb_model.specs.declared.news.News.{News}
use Rattle.usb_model.specs.declared.news.Event.{Event}
use Rattle.usb_model.specs.declared.news.Event.TheVariants.{Finished, Paused, Settled}
use Rattle.usb_model.specs.declared.order.Order.{Order}
use Rattle.usb_model.specs.declared.result.TransferResult.{TransferResult}
use Rattle.usb_model.specs.declared.shared.Tagged.{Tagged}
use Rattle.usb_model.specs.declared.step.Step.TheVariants.{Command, Deliver, Serve, Take}
use Rattle.usb_model.specs.Endpoint.Command.{command}
use Rattle.usb_model.specs.Endpoint.Serve.{serve}
use Rattle.usb_model.specs.Fitness.{IsWell, errands_of, events_of}
use Rattle.usb_model.specs.Machine.{Machine, at_endpoint, endpoint_at}
use Rattle.usb_model.specs.Machine.Turns.{command_effect, command_order, deliver_effect, deliver_news, effect, serve_effect, take_effect}
use Rattle.usb_model.specs.Setup.{Setup, packet_size_of}
use Rattle.usb_model.specs.World.Shared.{first_name, pieces_of}
use Rattle.usb_model.specs.World.{World, holder, is_blocked, is_its, machine_of, turn, turn_by, turn_of, turn_of_nobody}
use Rattle.proof_model.proofs.Machines.Idle.{idle_if_none}
use Rattle.proof_model.proofs.Lists.Pieces.{same_name}
use Rattle.usb_core.specs.Public.{does_something, serves}
use Rattle.usb_library.proofs.Served.{deliver_says, is_served, said_of}
use Rattle.usb_core.specs.Pending.{has_answers, tells_work}

-- each name's machine is well
abbrev pub AllWell : Setup → World → Type 0
AllWell setup w = (h : ℕ) → IsWell setup (machine_of setup h w)

-- something waits in a list
abbrev pub waits : {A : Type 0} → List A → Bool
waits [] = false
waits (x ∷ xs) = true

-- whether a packet does something there: the endpoint is held, and its next packet does
abbrev pub served_by : Option ℕ → (size : ℕ) → (gone : Bool) → Endpoint → Bool
served_by None size gone e = false
served_by (Some h) size gone e = is_served size gone e

-- the turn of a packet of a name
serve_turn : (setup : Setup) (w : World) (h d e : ℕ) → holder setup w.claims d e ≡ Some h → (turn_of setup h w (Serve d e)).entry.reply ≡ (serve (packet_size_of setup d e) (w.gone d) (w.endpoints d e)).reply
unfolding turn_of effect serve_effect machine_of is_blocked at_endpoint
serve_turn setup w h d e holds =
    let its : is_its h (holder setup w.claims d e) ≡ true = ap (is_its h) holds ∙ same_name h in
    rw its refl

-- a packet does something where the endpoint is held, and the packet tells of it there
pub serves_is : (setup : Setup) (w : World) (d e : ℕ) → serves setup w d e ≡ served_by (holder setup w.claims d e) (packet_size_of setup d e) (w.gone d) (w.endpoints d e)
unfolding turn turn_of_nobody
serves_is setup w d e = by_owner (holder setup w.claims d e) refl
  where
    by_owner : (o : Option ℕ) → holder setup w.claims d e ≡ o → tells_work (has_answers w d e) (turn_by setup o w (Serve d e)).entry.reply ≡ served_by o (packet_size_of setup d e) (w.gone d) (w.endpoints d e)
    by_owner None holds = refl
    by_owner (Some h) holds = ap (tells_work (has_answers w d e)) (serve_turn setup w h d e holds)

-- a Command that does something finds an order
pub order_waits : (setup : Setup) (w : World) → does_something setup w Command ≡ true → waits w.orders ≡ true
unfolding turn turn_of_nobody
order_waits setup w does = by_orders w.orders refl
  where
    by_orders : (xs : List (Tagged Order)) → w.orders ≡ xs → waits xs ≡ true
    by_orders [] is = absurd (cc (ap (λ l. tells_work false (turn_by setup (first_name l) w Command).entry.reply) (sym is) ∙ does))
    by_orders (x ∷ xs) is = refl

-- a Deliver that does something finds a piece of news
pub news_waits : (setup : Setup) (w : World) → does_something setup w Deliver ≡ true → waits w.news ≡ true
unfolding turn turn_of_nobody
news_waits setup w does = by_news w.news refl
  where
    by_news : (xs : List (Tagged News)) → w.news ≡ xs → waits xs ≡ true
    by_news [] is = absurd (cc (ap (λ l. tells_work false (turn_by setup (first_name l) w Deliver).entry.reply) (sym is) ∙ does))
    by_news (x ∷ xs) is = refl

-- a Take that does something finds a result
pub result_waits : (setup : Setup) (w : World) → does_something setup w Take ≡ true → waits w.results ≡ true
unfolding turn turn_of_nobody
result_waits setup w does = by_results w.results refl
  where
    by_results : (xs : List (Tagged TransferResult)) → w.results ≡ xs → waits xs ≡ true
    by_results [] is = absurd (cc (ap (λ l. tells_work false (turn_by setup (first_name l) w Take).entry.reply) (sym is) ∙ does))
    by_results (x ∷ xs) is = refl

-- an order that is carried out tells of it
command_tells : (size ep : ℕ) (e : Endpoint) (o : Errand) (s : EndpointState) → tells_work false (command size ep e o s).reply ≡ true
unfolding command
command_tells size ep e errand.Stop Running = refl
command_tells size ep e errand.Stop Stopped = refl
command_tells size ep e errand.Stop Halted = refl
command_tells size ep e errand.Reset Running = refl
command_tells size ep e errand.Reset Stopped = refl
command_tells size ep e errand.Reset Halted = refl
command_tells size ep e errand.Move Running = refl
command_tells size ep e errand.Move Stopped = refl
command_tells size ep e errand.Move Halted = refl

-- an event that is handled tells of it
event_tells : (ep : ℕ) (event : Event) → tells_work false (said_of ep event) ≡ true
event_tells ep (Finished n code) = refl
event_tells ep (Paused n) = refl
event_tells ep (Settled errand ok) = refl

-- where an order waits, a Command does something
pub commands : (setup : Setup) (w : World) → AllWell setup w → waits w.orders ≡ true → does_something setup w Command ≡ true
unfolding turn turn_of effect command_effect command_order at_endpoint is_blocked machine_of
commands setup w well there = by_orders w.orders refl there
  where
    by_orders : (xs : List (Tagged Order)) → w.orders ≡ xs → waits xs ≡ true → does_something setup w Command ≡ true
    by_orders [] is e = absurd cc
    by_orders (x ∷ xs) is e = ap (λ l. tells_work false (turn_by setup (first_name l) w Command).entry.reply) is ∙ by_end (endpoint_at m x.piece.ep) refl
      where
        m : Machine
        m = machine_of setup x.name w

        orders : m.orders ≡ x.piece ∷ pieces_of x.name xs
        orders = ap (pieces_of x.name) is ∙ rw (same_name x.name) refl

        posted : errands_of x.piece.ep m.orders ≡ x.piece.errand ∷ errands_of x.piece.ep (pieces_of x.name xs)
        posted = ap (errands_of x.piece.ep) orders ∙ rw (same_name x.piece.ep) refl

        by_end : (o : Option Endpoint) → endpoint_at m x.piece.ep ≡ o → tells_work false (turn_of setup x.name w Command).entry.reply ≡ true
        by_end None none = absurd (cc ((idle_if_none x.piece.ep m none ((well x.name).fits x.piece.ep)).no_orders, posted))
        by_end (Some a) here = rw (orders, here) (command_tells _ x.piece.ep a x.piece.errand a.state)

-- where a piece of news waits, a Deliver does something
pub delivers : (setup : Setup) (w : World) → AllWell setup w → waits w.news ≡ true → does_something setup w Deliver ≡ true
unfolding turn turn_of effect deliver_effect deliver_news at_endpoint is_blocked machine_of
delivers setup w well there = by_news w.news refl there
  where
    by_news : (xs : List (Tagged News)) → w.news ≡ xs → waits xs ≡ true → does_something setup w Deliver ≡ true
    by_news [] is e = absurd cc
    by_news (x ∷ xs) is e = ap (λ l. tells_work false (turn_by setup (first_name l) w Deliver).entry.reply) is ∙ by_end (endpoint_at m x.piece.ep) refl
      where
        m : Machine
        m = machine_of setup x.name w

        news : m.news ≡ x.piece ∷ pieces_of x.name xs
        news = ap (pieces_of x.name) is ∙ rw (same_name x.name) refl

        posted : events_of x.piece.ep m.news ≡ x.piece.event ∷ events_of x.piece.ep (pieces_of x.name xs)
        posted = ap (events_of x.piece.ep) news ∙ rw (same_name x.piece.ep) refl

        by_end : (o : Option Endpoint) → endpoint_at m x.piece.ep ≡ o → tells_work false (turn_of setup x.name w Deliver).entry.reply ≡ true
        by_end None none = absurd (cc ((idle_if_none x.piece.ep m none ((well x.name).fits x.piece.ep)).no_news, posted))
        by_end (Some a) here = rw (news, here) (ap (tells_work false) (deliver_says _ x.piece.ep _ a x.piece.event) ∙ event_tells x.piece.ep x.piece.event)

-- where a result waits, a Take does something
pub takes : (setup : Setup) (w : World) → waits w.results ≡ true → does_something setup w Take ≡ true
unfolding turn turn_of effect take_effect is_blocked machine_of
takes setup w there = by_results w.results refl there
  where
    by_results : (xs : List (Tagged TransferResult)) → w.results ≡ xs → waits xs ≡ true → does_something setup w Take ≡ true
    by_results [] is e = absurd cc
    by_results (x ∷ xs) is e = ap (λ l. tells_work false (turn_by setup (first_name l) w Take).entry.reply) is ∙ tells
      where
        results : (machine_of setup x.name w).results ≡ x.piece ∷ pieces_of x.name xs
        results = ap (pieces_of x.name) is ∙ rw (same_name x.name) refl

        tells : tells_work false (turn_of setup x.name w Take).entry.reply ≡ true
        tells = rw results refl
