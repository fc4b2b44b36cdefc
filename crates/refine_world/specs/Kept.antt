-- What is done at an endpoint leaves what the definitions' step leaves.
use Rattle.std.specs.Prelude.{◌≡◌, ℕ, ◌+◌, List, [], ◌++◌, length, Some, ◌≤◌, ◌==◌}
use Rattle.std.specs.Option.{unwrap_or}
use Rattle.usb_model.specs.declared.errand.Errand.{Errand}
use Rattle.usb_model.specs.Stands.{total}
use Rattle.usb_model.specs.Kept.{Telling, SentErrand, trbs_of}
use Rattle.refine_world.specs.ShownEndpoint.{ShowsEnd, count}
use Rattle.usb_model.specs.declared.endpoint_effect.EndpointEffect.{EndpointEffect}
use Rattle.usb_model.specs.declared.news.Event.{Event}
use Rattle.usb_model.specs.declared.reply.Reply.TheVariants.{Ran}
use Rattle.usb_model.specs.declared.endpoint.Endpoint.{Endpoint}
use Rattle.usb_model.specs.declared.item.Item.{Item}
use Rattle.usb_model.specs.Endpoint.{outcome_of, bytes_read, first_waiting}
use Rattle.usb_model.specs.declared.outcome.Outcome.{Outcome}
use Rattle.usb_model.specs.Endpoint.Packets.{outcome, open_with, count_of}
use Rattle.usb_model.specs.Endpoint.Serve.{next_answer, acknowledged}
use Rattle.usb_model.specs.Events.{Handled}
use Rattle.usb_model.specs.Packets.{Packet, got, gave, Answered}
use Rattle.usb_model.specs.Commands.{Carried}

-- a handled event leaves what the definitions' step leaves
pub record Handles (size : ℕ) (d : EndpointEffect) (h : Handled) (os : List Errand) (ns : List Event) (sent : List SentErrand) (told : List Telling) : Type 0 where
  pub reply : h.reply ≡ d.reply
  pub results : h.results ≡ d.results
  pub shows : ShowsEnd size d.endpoint (os ++ d.orders) ns h.endpoint (sent ++ h.orders) told

-- the item with the answer that is taken now
abbrev pub grown : Endpoint → Item → Item
grown e x = record x { share = x.share ++ next_answer e }

abbrev pub outcome_now : ℕ → Endpoint → Item → Outcome
outcome_now size e x = unwrap_or (outcome x.request size (x.share ++ next_answer e) e.device_halted) (open_with [])

-- what the packet tells of the transfer is what the definitions read off the whole share
pub record PacketIs (size : ℕ) (e : Endpoint) (x : Item) (k : Packet) : Type 0 where
  pub code : (outcome_now size e x).code ≡ k.code
  pub now : count_of (outcome_now size e x) ≡ count size x + k.bytes
  pub later : count size (grown e x) ≡ count size x + k.bytes
  pub fits : count size x + k.bytes ≤ total (trbs_of size x.request)
  pub bytes : bytes_read x.request.body (outcome_of size (grown e x)) ≡ bytes_read x.request.body (outcome_of size x) ++ got x.request.body (next_answer e) k.bytes
  pub packets_received : acknowledged x.request.body (outcome_of size x) (outcome_now size e x) ≡ gave x.request.body (next_answer e) (count size x) k.bytes

-- an answer leaves what the definitions' step leaves
pub record Serves (size : ℕ) (d : EndpointEffect) (a : Answered) (os : List Errand) (ns : List Event) (sent : List SentErrand) (told : List Telling) : Type 0 where
  pub reply : a.reply ≡ d.reply
  pub shows : ShowsEnd size d.endpoint (os ++ d.orders) (ns ++ d.news) a.endpoint sent (told ++ a.told)

-- a pause is told just where a packet moved
abbrev pub PauseTold : ℕ → Endpoint → Type 0
PauseTold size e = (x : Item) → first_waiting e.line ≡ Some x → (length (outcome_of size x).packets == 0) ≡ (count size x == 0)

-- an order leaves what the definitions' step leaves
pub record Carries (size ep : ℕ) (o : Errand) (d : EndpointEffect) (a : Carried) (os : List Errand) (ns : List Event) (sent : List SentErrand) (told : List Telling) : Type 0 where
  pub reply : Ran ep o a.ok ≡ d.reply
  pub shows : ShowsEnd size d.endpoint (os ++ d.orders) (ns ++ d.news) a.endpoint sent (told ++ a.told)
