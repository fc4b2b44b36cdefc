-- What a step of a machine may do, once its refusals are passed.
use Rattle.std.proofs.Common.{List, None, Some, [], false, true, ℕ, ◌+◌, ◌∷◌, ◌≡◌, ◌≤◌}
use Rattle.std.specs.Prelude.{is_some}
use Rattle.std.specs.List.{list_any}
use Rattle.usb_model.specs.declared.errand.Errand.{Errand}
use Rattle.usb_model.specs.declared.endpoint.Endpoint.{Endpoint}
use Rattle.usb_model.specs.declared.handle.Handle.{Handle}
use Rattle.usb_model.specs.declared.item.Ask.TheVariants as ask
use Rattle.usb_model.specs.declared.item.Ask.{Ask}
use Rattle.usb_model.specs.declared.item.Item.{Item}
use Rattle.usb_model.specs.declared.news.Event.{Event}
use Rattle.usb_model.specs.declared.news.News.{News}
use Rattle.usb_model.specs.declared.order.Order.{Order}
use Rattle.usb_model.specs.declared.result.InCallback.{InCallback}
use Rattle.usb_model.specs.declared.result.TransferResult.{TransferResult}
use Rattle.usb_model.specs.declared.refused.Refused.{Refused}
use Rattle.usb_model.specs.declared.reply.Reply.TheVariants as reply
use Rattle.usb_model.specs.declared.reply.Reply.{Reply}
use Rattle.usb_model.specs.declared.request.Body.TheVariants.{Out}
use Rattle.usb_model.specs.declared.request.Request.{Request}
use Rattle.usb_model.specs.declared.step.Step.TheVariants.{Answer, Cancel, Claim, ClearHalt, Close, Command, Deliver, Expire, Open, Release, Reset, Serve, Submit, Take, Unplug}
use Rattle.usb_model.specs.declared.step.Step.{Step}
use Rattle.usb_model.specs.declared.verdict.Verdict.TheVariants.{Again, AgainWith, Stop}
use Rattle.usb_model.specs.Machine.Calls.{asks, callback_of, called_back, is_bad_body, submitted, without}
use Rattle.usb_model.specs.Endpoint.Command.{command}
use Rattle.usb_model.specs.Endpoint.Deliver.{deliver}
use Rattle.usb_model.specs.declared.endpoint_effect.EndpointEffect.{EndpointEffect}
use Rattle.usb_model.specs.Endpoint.{in_progress}
use Rattle.usb_model.specs.declared.effect.Effect.{Effect}
use Rattle.usb_model.specs.declared.effect.Change.TheVariants.{Drops, Frees, Gains, Keeps, Renews}
use Rattle.usb_model.specs.Machine.{Machine, device_of, does, at_endpoint, endpoint_at, is_callback_at, is_gone, is_result_at, places, says}
use Rattle.usb_model.specs.Endpoint.Serve.{serve}
use Rattle.usb_model.specs.Setup.{Setup, is_within, packet_size_of}
use Rattle.usb_model.specs.World.Shared.{past_first}
use Rattle.usb_model.specs.Machine.Turns.{take_effect, takes_news, takes_order, takes_result}
use Rattle.proof_model.proofs.Coherence.Posts.{commands_now, delivers_now}
use Rattle.usb_model.specs.Fitness.{errands_of, events_of}
pub use Rattle.usb_model.specs.Laws.Bounds.{line_at}

-- the device's halt ends
abbrev pub cleared : Endpoint → EndpointEffect
cleared e = record { reply = reply.Done; endpoint = record e { device_halted = false }; orders = []; news = []; results = [] }

-- a step that asks a transfer to end
pub data IsAsk : Step → ℕ → Ask → Type 0 where
  cancels : (g n : ℕ) → IsAsk (Cancel g n) n ask.Cancel
  expires : (g n : ℕ) → IsAsk (Expire g n) n ask.Time

-- a step that submits: what is left of the handle without the transfer that is submitted again, the request, and the round
pub data IsSubmission (handle : Handle) : Step → Handle → Request → ℕ → Type 0 where
  anew : (g : ℕ) (request : Request) → IsSubmission handle (Submit g request) handle request 0
  again : (g k : ℕ) (x : InCallback) → callback_of k handle.in_callbacks ≡ Some x
      → IsSubmission handle (Answer g k Again) (record handle { in_callbacks = without x.n handle.in_callbacks }) x.request (x.round + 1)
  again_with : (g k : ℕ) (bytes : List ℕ) (x : InCallback) → callback_of k handle.in_callbacks ≡ Some x
      → IsSubmission handle (Answer g k (AgainWith bytes)) (record handle { in_callbacks = without x.n handle.in_callbacks }) (record x.request { body = Out bytes }) (x.round + 1)

-- work at the endpoint e of this address: the step, what it leaves of the handle, and what it does
pub data IsWork (setup : Setup) (m : Machine) (ep : ℕ) (e : Endpoint) : Step → Handle → EndpointEffect → Type 0 where
  serves : (dev : ℕ) → IsWork setup m ep e (Serve dev ep) m.handle (serve (packet_size_of setup (device_of m) ep) (is_gone m) e)
  commands : (o : Errand) (os : List Order) → m.orders ≡ record { ep = ep; errand = o } ∷ os → IsWork setup m ep e Command m.handle (command (packet_size_of setup (device_of m) ep) ep e o e.state)
  delivers : (event : Event) (ns : List News) → m.news ≡ record { ep = ep; event = event } ∷ ns → IsWork setup m ep e Deliver m.handle (deliver (packet_size_of setup (device_of m) ep) ep (is_gone m) e event)
  asks_it : {step : Step} {ask : Ask} (n : ℕ) (i : Item) → IsAsk step n ask → in_progress n e.line ≡ Some i → i.ask ≡ None → IsWork setup m ep e step m.handle (asks e n ask)
  submits : {step : Step} {handle : Handle} {request : Request} {round : ℕ} → IsSubmission m.handle step handle request round → request.ep ≡ ep → is_bad_body request.ep request.body ≡ false → places m ep e + 1 ≤ 16
      → IsWork setup m ep e step (record handle { next_number = m.handle.next_number + 1 }) (submitted m.handle.next_number request round e)
  clears : (g : ℕ) → e.line ≡ [] → IsWork setup m ep e (ClearHalt g ep) m.handle (cleared e)

-- an endpoint that is there has no result that waits, and no transfer in its callback
abbrev pub IsUnused : ℕ → Machine → Type 0
IsUnused ep m = is_some (endpoint_at m ep) ≡ true → (list_any (is_result_at ep) m.results ≡ false) × (list_any (is_callback_at ep) m.handle.in_callbacks ≡ false)

-- no transfer is in the endpoint's line, and nothing waits for it
pub record IsIdle (ep : ℕ) (m : Machine) : Type 0 where
  pub unused : IsUnused ep m
  pub no_line : line_at (endpoint_at m ep) ≡ []
  pub no_orders : errands_of ep m.orders ≡ []
  pub no_news : events_of ep m.news ≡ []

-- a reply that nothing is done, or that a device is gone
pub data IsBare : Step → Reply → Type 0 where
  refuses : {step : Step} (why : Refused) → IsBare step (reply.Refused why)
  idles : {step : Step} → IsBare step reply.Idle
  unplugs : (dev : ℕ) → IsBare (Unplug dev) reply.Done

-- the step takes none of the lists' pieces
pub record TakesNone (m : Machine) (step : Step) : Type 0 where
  pub orders : past_first (takes_order step) m.orders ≡ m.orders
  pub news : past_first (takes_news step) m.news ≡ m.news
  pub results : past_first (takes_result step) m.results ≡ m.results
  pub commands : (ep : ℕ) → commands_now ep m step ≡ 0
  pub delivers : (ep : ℕ) → delivers_now ep m step ≡ 0

-- what a step of the machine of handle h may do without work at an endpoint
pub data IsRest (setup : Setup) (h : ℕ) (m : Machine) : Step → Effect → Type 0 where
  stays : {step : Step} {r : Reply} → IsBare step r → TakesNone m step → IsRest setup h m step (says m r)
  claims_again : (g i : ℕ) → IsRest setup h m (Claim g i) (does m.handle Keeps)
  stops : (g k : ℕ) (x : InCallback) → callback_of k m.handle.in_callbacks ≡ Some x → IsRest setup h m (Answer g k Stop) (does (called_back m x.n) Keeps)
  opens : (g dev : ℕ) → m.handle.device ≡ None → IsRest setup h m (Open g dev) (does (record m.handle { device = Some dev }) Frees)
  closes : (g : ℕ) → ((ep : ℕ) → IsIdle ep m) → IsRest setup h m (Close g) (does (record m.handle { device = None }) Frees)
  claims : (g i : ℕ) → m.handle.device ≡ Some (device_of m) → m.held (device_of m) i ≡ false → IsRest setup h m (Claim g i) (does m.handle (Gains (device_of m) i))
  releases : (g i : ℕ) → ((ep : ℕ) → is_within setup (device_of m) i (device_of m) ep ≡ true → IsIdle ep m) → IsRest setup h m (Release g i) (does m.handle (Drops (device_of m) i))
  resets : (g : ℕ) → ((ep : ℕ) → IsIdle ep m) → IsRest setup h m (Reset g) (does m.handle (Renews (device_of m)))
  takes : (x : TransferResult) (xs : List TransferResult) → m.results ≡ x ∷ xs → IsRest setup h m Take (take_effect h m (x ∷ xs))

-- and all that it may do
pub data IsDone (setup : Setup) (h : ℕ) (m : Machine) : Step → Effect → Type 0 where
  only_rests : {step : Step} {done : Effect} → IsRest setup h m step done → IsDone setup h m step done
  works : {step : Step} {handle : Handle} {d : EndpointEffect} (ep : ℕ) (e : Endpoint) → endpoint_at m ep ≡ Some e → IsWork setup m ep e step handle d → IsDone setup h m step (at_endpoint handle (device_of m) ep d)
