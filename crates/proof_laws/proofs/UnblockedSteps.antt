-- Steps that no other handle is in the way of: all but a claim and a reset.
use Rattle.std.proofs.Common.{◌≡◌, ℕ, Bool, true, false, List, [], ◌∷◌, Option, Some, None, refl}
use Rattle.usb_model.specs.declared.request.Request.{Request}
use Rattle.usb_model.specs.declared.refused.Refused.{Refused}
use Rattle.usb_model.specs.declared.step.Step.{Step}
use Rattle.usb_model.specs.declared.step.Step.TheVariants.{Open, Close, Claim, Release, Reset, ClearHalt, Submit, Cancel, Expire, Serve, Command, Deliver, Take, Answer, Unplug}
use Rattle.usb_model.specs.declared.verdict.Verdict.{Verdict}
use Rattle.usb_model.specs.declared.verdict.Verdict.TheVariants as verdict
use Rattle.usb_model.specs.declared.endpoint.Endpoint.{Endpoint}
use Rattle.usb_model.specs.declared.handle.Handle.{Handle}
use Rattle.usb_model.specs.declared.item.Ask.{Ask}
use Rattle.usb_model.specs.declared.item.Ask.TheVariants as ask
use Rattle.usb_model.specs.declared.news.News.{News}
use Rattle.usb_model.specs.declared.order.Order.{Order}
use Rattle.usb_model.specs.declared.result.InCallback.{InCallback}
use Rattle.usb_model.specs.declared.result.TransferResult.{TransferResult}
use Rattle.usb_model.specs.Setup.{Setup}
use Rattle.usb_model.specs.declared.effect.Effect.{Effect}
use Rattle.usb_model.specs.Machine.{Machine, refused_if, at_endpoint, endpoint_at}
use Rattle.usb_model.specs.Machine.Calls.{open_effect, close_effect, release_effect, clear_halt_effect, submit_to, submit_effect, Home, ask_in_progress, ask_effect, callback_of, answer_callback, answer_effect}
use Rattle.usb_model.specs.Machine.Turns.{serve_effect, command_order, command_effect, deliver_news, deliver_effect, take_effect, effect}
use Rattle.usb_model.specs.World.{World, is_blocked}

-- what no other handle is in the way of
abbrev pub IsGentle : Setup → ℕ → World → Effect → Type 0
IsGentle setup h w done = is_blocked setup h w done.change ≡ false

-- a refusal, or what stands behind it
gentle_if : (setup : Setup) (h : ℕ) (w : World) (m : Machine) (b : Bool) (why : Refused) (rest : Effect) → IsGentle setup h w rest → IsGentle setup h w (refused_if m b why rest)
unfolding refused_if is_blocked
gentle_if setup h w m true why rest g = refl
gentle_if setup h w m false why rest g = g

-- a submission, at an endpoint that may be the handle's
gentle_submit : (setup : Setup) (h : ℕ) (w : World) (m : Machine) (handle : Handle) (request : Request) (round : ℕ) (o : Option Endpoint) → IsGentle setup h w (submit_to setup m handle request round o)
unfolding submit_to is_blocked at_endpoint
gentle_submit setup h w m handle request round None = refl
gentle_submit setup h w m handle request round (Some e) = gentle_if setup h w m _ _ _ (gentle_if setup h w m _ _ _ (gentle_if setup h w m _ _ _ (gentle_if setup h w m _ _ _ (gentle_if setup h w m _ _ _ refl))))

-- a verdict
gentle_answer : (setup : Setup) (h : ℕ) (w : World) (m : Machine) (v : Verdict) (o : Option InCallback) → IsGentle setup h w (answer_callback setup m v o)
unfolding answer_callback submit_effect is_blocked
gentle_answer setup h w m v None = refl
gentle_answer setup h w m verdict.Stop (Some x) = refl
gentle_answer setup h w m verdict.Again (Some x) = gentle_submit setup h w m _ _ _ _
gentle_answer setup h w m (verdict.AgainWith bytes) (Some x) = gentle_submit setup h w m _ _ _ _

-- an ask that a transfer end, by where it is in progress
gentle_ask : (setup : Setup) (h : ℕ) (w : World) (m : Machine) (n : ℕ) (ask : Ask) (timed : Bool) (o : Option Home) → IsGentle setup h w (ask_in_progress m n ask timed o)
unfolding ask_in_progress is_blocked at_endpoint
gentle_ask setup h w m n ask timed None = refl
gentle_ask setup h w m n ask timed (Some home) = gentle_if setup h w m _ _ _ refl

-- the end of a halt
gentle_clear : (setup : Setup) (h : ℕ) (w : World) (m : Machine) (ep : ℕ) (o : Option Endpoint) → IsGentle setup h w (clear_halt_effect m ep o)
unfolding clear_halt_effect is_blocked
gentle_clear setup h w m ep None = refl
gentle_clear setup h w m ep (Some e) = gentle_if setup h w m _ _ _ (gentle_if setup h w m _ _ _ refl)

-- a packet
gentle_serve : (setup : Setup) (h : ℕ) (w : World) (m : Machine) (dev ep : ℕ) (o : Option Endpoint) → IsGentle setup h w (serve_effect setup m dev ep o)
unfolding serve_effect is_blocked at_endpoint
gentle_serve setup h w m dev ep None = refl
gentle_serve setup h w m dev ep (Some e) = refl

-- an order, at an endpoint that may be the handle's
gentle_order : (setup : Setup) (h : ℕ) (w : World) (m : Machine) (order : Order) (o : Option Endpoint) → IsGentle setup h w (command_order setup m order o)
unfolding command_order is_blocked at_endpoint
gentle_order setup h w m order None = refl
gentle_order setup h w m order (Some e) = refl

-- the first order
gentle_command : (setup : Setup) (h : ℕ) (w : World) (m : Machine) (orders : List Order) → IsGentle setup h w (command_effect setup m orders)
unfolding command_effect is_blocked
gentle_command setup h w m [] = refl
gentle_command setup h w m (order ∷ orders) = gentle_order setup h w m order (endpoint_at m order.ep)

-- a piece of news, at an endpoint that may be the handle's
gentle_news : (setup : Setup) (h : ℕ) (w : World) (m : Machine) (news : News) (o : Option Endpoint) → IsGentle setup h w (deliver_news setup m news o)
unfolding deliver_news is_blocked at_endpoint
gentle_news setup h w m news None = refl
gentle_news setup h w m news (Some e) = refl

-- the first piece of news
gentle_deliver : (setup : Setup) (h : ℕ) (w : World) (m : Machine) (news : List News) → IsGentle setup h w (deliver_effect setup m news)
unfolding deliver_effect is_blocked
gentle_deliver setup h w m [] = refl
gentle_deliver setup h w m (news ∷ rest) = gentle_news setup h w m news (endpoint_at m news.ep)

-- a call
gentle_take : (setup : Setup) (h : ℕ) (w : World) (m : Machine) (results : List TransferResult) → IsGentle setup h w (take_effect h m results)
unfolding take_effect is_blocked
gentle_take setup h w m [] = refl
gentle_take setup h w m (x ∷ xs) = refl

-- whether a step claims an interface or resets a device
abbrev pub claims_or_resets : Step → Bool
claims_or_resets (Claim h i) = true
claims_or_resets (Reset h) = true
claims_or_resets _ = false

-- no other step is in another's way
pub gentle_else : (setup : Setup) (h : ℕ) (w : World) (m : Machine) (step : Step) → claims_or_resets step ≡ false → IsGentle setup h w (effect setup h m step)
unfolding effect is_blocked open_effect close_effect release_effect submit_effect ask_effect answer_effect
gentle_else setup h w m (Open _ dev) e = gentle_if setup h w m _ _ _ (gentle_if setup h w m _ _ _ (gentle_if setup h w m _ _ _ refl))
gentle_else setup h w m (Close _) e = gentle_if setup h w m _ _ _ (gentle_if setup h w m _ _ _ refl)
gentle_else setup h w m (Claim _ i) e = absurd cc
gentle_else setup h w m (Release _ i) e = gentle_if setup h w m _ _ _ (gentle_if setup h w m _ _ _ refl)
gentle_else setup h w m (Reset _) e = absurd cc
gentle_else setup h w m (ClearHalt _ ep) e = gentle_clear setup h w m ep (endpoint_at m ep)
gentle_else setup h w m (Submit _ request) e = gentle_submit setup h w m m.handle request 0 (endpoint_at m request.ep)
gentle_else setup h w m (Cancel _ n) e = gentle_ask setup h w m n ask.Cancel false _
gentle_else setup h w m (Expire _ n) e = gentle_ask setup h w m n ask.Time true _
gentle_else setup h w m (Serve dev ep) e = gentle_serve setup h w m dev ep (m.endpoints dev ep)
gentle_else setup h w m Command e = gentle_command setup h w m m.orders
gentle_else setup h w m Deliver e = gentle_deliver setup h w m m.news
gentle_else setup h w m Take e = gentle_take setup h w m m.results
gentle_else setup h w m (Answer _ n v) e = gentle_answer setup h w m v (callback_of n m.handle.in_callbacks)
gentle_else setup h w m (Unplug dev) e = refl
