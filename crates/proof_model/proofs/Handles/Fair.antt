-- A machine refuses nothing because of others.
use Rattle.std.proofs.Common.{◌≡◌, ℕ, Bool, true, false, not, List, [], ◌∷◌, Option, Some, None, refl}
use Rattle.std.specs.Prelude.{if◌then◌else◌}
use Rattle.usb_model.specs.declared.request.Request.{Request}
use Rattle.usb_model.specs.declared.refused.Refused.{Refused}
use Rattle.usb_model.specs.declared.reply.Reply.{Reply}
use Rattle.usb_model.specs.declared.reply.Reply.TheVariants as reply
use Rattle.usb_model.specs.declared.step.Step.{Step}
use Rattle.usb_model.specs.declared.step.Step.TheVariants.{Open, Close, Claim, Release, Reset, ClearHalt, Submit, Cancel, Expire, Serve, Command, Deliver, Take, Answer, Unplug}
use Rattle.usb_model.specs.declared.verdict.Verdict.{Verdict}
use Rattle.usb_model.specs.declared.verdict.Verdict.TheVariants as verdict
use Rattle.usb_model.specs.declared.endpoint.Endpoint.{Endpoint}
use Rattle.usb_model.specs.declared.handle.Handle.{Handle}
use Rattle.usb_model.specs.declared.item.Ask.{Ask}
use Rattle.usb_model.specs.declared.item.Ask.TheVariants as ask
use Rattle.usb_model.specs.declared.news.News.{News}
use Rattle.usb_model.specs.declared.order.Order.{Order}
use Rattle.usb_model.specs.declared.result.InCallback.{InCallback}
use Rattle.usb_model.specs.declared.result.TransferResult.{TransferResult}
use Rattle.usb_model.specs.Setup.{Setup, is_device}
use Rattle.usb_model.specs.declared.endpoint_effect.EndpointEffect.{EndpointEffect}
use Rattle.usb_model.specs.Machine.{Machine, endpoint_at, refused_if, at_endpoint}
use Rattle.usb_model.specs.declared.effect.Effect.{Effect}
use Rattle.usb_model.specs.Machine.Calls.{open_effect, close_effect, claim_effect, release_effect, reset_effect, clear_halt_effect, submit_to, submit_effect, Home, ask_in_progress, ask_effect, callback_of, answer_callback, answer_effect}
use Rattle.usb_model.specs.Machine.Turns.{serve_effect, command_order, command_effect, deliver_news, deliver_effect, take_effect, effect}
use Rattle.usb_model.specs.World.Journal.{is_held_elsewhere}
use Rattle.proof_model.proofs.Work.Replies.{told_fair, serve_told, command_told, deliver_told, asks_told}

-- a reply that isn't because of another handle
abbrev pub IsFair : Reply → Type 0
IsFair r = is_held_elsewhere r ≡ false

-- a refusal, or what stands behind it
fair_if : (m : Machine) (b : Bool) (why : Refused) (rest : Effect) → IsFair (reply.Refused why) → IsFair rest.reply → IsFair (refused_if m b why rest).reply
unfolding refused_if
fair_if m true why rest now later = now
fair_if m false why rest now later = later

-- a choice of two replies
fair_or : (b : Bool) (x y : Reply) → IsFair x → IsFair y → IsFair (if b then x else y)
fair_or true x y p q = p
fair_or false x y p q = q

-- work at an endpoint
fair_doing : (handle : Handle) (dev ep : ℕ) (x : EndpointEffect) → IsFair x.reply → IsFair (at_endpoint handle dev ep x).reply
unfolding at_endpoint
fair_doing handle dev ep x p = p

-- a submission, at an endpoint that may be the handle's
fair_submit_at : (setup : Setup) (m : Machine) (handle : Handle) (request : Request) (round : ℕ) (o : Option Endpoint) → IsFair (submit_to setup m handle request round o).reply
unfolding submit_to
fair_submit_at setup m handle request round None = refl
fair_submit_at setup m handle request round (Some e) = fair_if m _ _ _ refl (fair_if m _ _ _ refl (fair_if m _ _ _ refl (fair_if m _ _ _ refl (fair_if m _ _ _ refl (fair_doing _ _ _ _ refl)))))

-- a submission
fair_submit : (setup : Setup) (m : Machine) (handle : Handle) (request : Request) (round : ℕ) → IsFair (submit_effect setup m handle request round).reply
unfolding submit_effect
fair_submit setup m handle request round = fair_submit_at setup m handle request round (endpoint_at m request.ep)

-- an ask that a transfer end, by where it is in progress
fair_ask_at : (m : Machine) (n : ℕ) (ask : Ask) (timed : Bool) (o : Option Home) → IsFair (ask_in_progress m n ask timed o).reply
unfolding ask_in_progress
fair_ask_at m n ask timed None = refl
fair_ask_at m n ask timed (Some home) = fair_if m _ _ _ refl (fair_doing _ _ _ _ (told_fair _ (asks_told home.endpoint n ask)))

-- an ask that a transfer end
fair_ask : (setup : Setup) (m : Machine) (n : ℕ) (ask : Ask) (timed : Bool) → IsFair (ask_effect setup m n ask timed).reply
unfolding ask_effect
fair_ask setup m n ask timed = fair_ask_at m n ask timed _

-- a verdict, by the transfer in its callback
fair_answer_at : (setup : Setup) (m : Machine) (v : Verdict) (o : Option InCallback) → IsFair (answer_callback setup m v o).reply
unfolding answer_callback
fair_answer_at setup m v None = refl
fair_answer_at setup m verdict.Stop (Some x) = refl
fair_answer_at setup m verdict.Again (Some x) = fair_submit setup m _ _ _
fair_answer_at setup m (verdict.AgainWith bytes) (Some x) = fair_submit setup m _ _ _

-- a verdict
fair_answer : (setup : Setup) (m : Machine) (n : ℕ) (v : Verdict) → IsFair (answer_effect setup m n v).reply
unfolding answer_effect
fair_answer setup m n v = fair_answer_at setup m v (callback_of n m.handle.in_callbacks)

-- an order
fair_command_it : (setup : Setup) (m : Machine) (orders : List Order) → IsFair (command_effect setup m orders).reply
unfolding command_effect command_order
fair_command_it setup m [] = refl
fair_command_it setup m (order ∷ orders) = at_end (endpoint_at m order.ep)
  where
    at_end : (o : Option Endpoint) → IsFair (command_order setup m order o).reply
    at_end None = refl
    at_end (Some e) = fair_doing _ _ _ _ (told_fair _ (command_told _ _ e _ _))

-- a piece of news
fair_deliver_it : (setup : Setup) (m : Machine) (news : List News) → IsFair (deliver_effect setup m news).reply
unfolding deliver_effect deliver_news
fair_deliver_it setup m [] = refl
fair_deliver_it setup m (news ∷ rest) = at_end (endpoint_at m news.ep)
  where
    at_end : (o : Option Endpoint) → IsFair (deliver_news setup m news o).reply
    at_end None = refl
    at_end (Some e) = fair_doing _ _ _ _ (told_fair _ (deliver_told _ _ _ e _))

-- a call
fair_take : (h : ℕ) (m : Machine) (results : List TransferResult) → IsFair (take_effect h m results).reply
unfolding take_effect
fair_take h m [] = refl
fair_take h m (x ∷ xs) = refl

-- the end of a halt
fair_clear : (m : Machine) (ep : ℕ) (o : Option Endpoint) → IsFair (clear_halt_effect m ep o).reply
unfolding clear_halt_effect
fair_clear m ep None = refl
fair_clear m ep (Some e) = fair_if m _ _ _ refl (fair_if m _ _ _ refl refl)

-- a packet
fair_serve_it : (setup : Setup) (m : Machine) (dev ep : ℕ) (o : Option Endpoint) → IsFair (serve_effect setup m dev ep o).reply
unfolding serve_effect
fair_serve_it setup m dev ep None = refl
fair_serve_it setup m dev ep (Some e) = fair_doing _ _ _ _ (told_fair _ (serve_told _ _ e))

-- no step of a machine is refused because another handle holds an interface
pub effect_is_fair : (setup : Setup) (h : ℕ) (m : Machine) (step : Step) → is_held_elsewhere (effect setup h m step).reply ≡ false
unfolding effect open_effect close_effect claim_effect release_effect reset_effect
effect_is_fair setup h m (Open _ dev) = fair_if m _ _ _ refl (fair_if m _ _ _ refl (fair_if m _ _ _ refl refl))
effect_is_fair setup h m (Close _) = fair_if m _ _ _ refl (fair_if m _ _ _ refl refl)
effect_is_fair setup h m (Claim _ i) = fair_if m _ _ _ refl (fair_if m _ _ _ refl (fair_if m _ _ _ refl refl))
effect_is_fair setup h m (Release _ i) = fair_if m _ _ _ refl (fair_if m _ _ _ refl refl)
effect_is_fair setup h m (Reset _) = fair_if m _ _ _ refl (fair_if m _ _ _ refl (fair_if m _ _ _ refl refl))
effect_is_fair setup h m (ClearHalt _ ep) = fair_clear m ep (endpoint_at m ep)
effect_is_fair setup h m (Submit _ request) = fair_submit setup m m.handle request 0
effect_is_fair setup h m (Cancel _ n) = fair_ask setup m n ask.Cancel false
effect_is_fair setup h m (Expire _ n) = fair_ask setup m n ask.Time true
effect_is_fair setup h m (Serve dev ep) = fair_serve_it setup m dev ep (m.endpoints dev ep)
effect_is_fair setup h m Command = fair_command_it setup m m.orders
effect_is_fair setup h m Deliver = fair_deliver_it setup m m.news
effect_is_fair setup h m Take = fair_take h m m.results
effect_is_fair setup h m (Answer _ n v) = fair_answer setup m n v
effect_is_fair setup h m (Unplug dev) = fair_or (not (is_device setup dev)) _ _ refl (fair_or (m.gone dev) _ _ refl refl)
