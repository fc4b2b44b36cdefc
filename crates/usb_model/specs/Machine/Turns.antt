-- The steps of one handle's machine, and what it says alone.
use Rattle.std.specs.Prelude.{ℕ, ◌==◌, Bool, true, false, not, ◌&&◌, ◌||◌, List, [], ◌∷◌, ◌++◌, Option, Some, None, if◌then◌else◌}
use Rattle.std.specs.Option.{option_map}
use Rattle.usb_model.specs.declared.refused.Refused.TheVariants as refused
use Rattle.usb_model.specs.declared.reply.Reply.{Reply}
use Rattle.usb_model.specs.declared.reply.Reply.TheVariants as reply
use Rattle.usb_model.specs.declared.entry.Entry.{Entry}
use Rattle.usb_model.specs.declared.step.Step.{Step}
use Rattle.usb_model.specs.declared.step.Step.TheVariants.{Open, Close, Claim, Release, Reset, ClearHalt, Submit, Cancel, Expire, Serve, Command, Deliver, Take, Answer, Unplug}
use Rattle.usb_model.specs.declared.item.Ask.TheVariants as ask
use Rattle.usb_model.specs.declared.endpoint.Endpoint.{Endpoint}
use Rattle.usb_model.specs.declared.news.News.{News}
use Rattle.usb_model.specs.declared.order.Order.{Order}
use Rattle.usb_model.specs.declared.result.TransferResult.{TransferResult}
use Rattle.usb_model.specs.World.Shared.{past_first}
use Rattle.usb_model.specs.Setup.{Setup, is_device, is_within, packet_size_of}
use Rattle.usb_model.specs.Endpoint.{fresh}
use Rattle.usb_model.specs.Endpoint.Serve.{serve}
use Rattle.usb_model.specs.Endpoint.Command.{command}
use Rattle.usb_model.specs.Endpoint.Deliver.{deliver}
use Rattle.usb_model.specs.Machine.{Machine, new_machine, device_of, is_gone, endpoint_at, Change, Keeps, Frees, Gains, Drops, Renews, Sets, Effect, says, at_endpoint}
use Rattle.usb_model.specs.Machine.Calls.{open_effect, close_effect, claim_effect, release_effect, reset_effect, clear_halt_effect, submit_effect, ask_effect, answer_effect}

unfoldable pub serve_effect : Setup → Machine → ℕ → ℕ → Option Endpoint → Effect
serve_effect setup m dev ep None = says m reply.Idle
serve_effect setup m dev ep (Some e) = at_endpoint m.handle dev ep (serve (packet_size_of setup dev ep) (m.gone dev) e)

unfoldable pub command_order : Setup → Machine → Order → Option Endpoint → Effect
command_order setup m order None = says m reply.Idle
command_order setup m order (Some e) = at_endpoint m.handle (device_of m) order.ep (command (packet_size_of setup (device_of m) order.ep) order.ep e order.errand e.state)

-- the first order is carried out
unfoldable pub command_effect : Setup → Machine → List Order → Effect
command_effect setup m [] = says m reply.Idle
command_effect setup m (order ∷ orders) = command_order setup m order (endpoint_at m order.ep)

unfoldable pub deliver_news : Setup → Machine → News → Option Endpoint → Effect
deliver_news setup m news None = says m reply.Idle
deliver_news setup m news (Some e) = at_endpoint m.handle (device_of m) news.ep (deliver (packet_size_of setup (device_of m) news.ep) news.ep (is_gone m) e news.event)

-- the first piece of news is handled
unfoldable pub deliver_effect : Setup → Machine → List News → Effect
deliver_effect setup m [] = says m reply.Idle
deliver_effect setup m (news ∷ rest) = deliver_news setup m news (endpoint_at m news.ep)

-- the oldest result goes out to its callback
unfoldable pub take_effect : ℕ → Machine → List TransferResult → Effect
take_effect h m [] = says m reply.Idle
take_effect h m (x ∷ xs) =
    record (says m (reply.Called (record { h = h; n = x.n; ep = x.request.ep; round = x.round; status = x.status; actual = x.actual; bytes = x.bytes }))) {
      handle = record m.handle { in_callbacks = m.handle.in_callbacks ++ record { n = x.n; request = x.request; round = x.round; status = x.status } ∷ [] };
    }

-- the reply to an Unplug
abbrev pub unplug_reply : Setup → (ℕ → Bool) → ℕ → Reply
unplug_reply setup gone dev =
    if not (is_device setup dev) then reply.Refused refused.NotFound
    else if gone dev then reply.Refused refused.NoDevice
    else reply.Done

-- what a step does to the machine of handle h; an Unplug changes the gone devices alone (gone_after)
unfoldable pub effect : Setup → ℕ → Machine → Step → Effect
effect setup h m (Open _ dev) = open_effect setup m dev
effect setup h m (Close _) = close_effect setup m
effect setup h m (Claim _ i) = claim_effect setup m i
effect setup h m (Release _ i) = release_effect setup m i
effect setup h m (Reset _) = reset_effect setup m
effect setup h m (ClearHalt _ ep) = clear_halt_effect m ep (endpoint_at m ep)
effect setup h m (Submit _ request) = submit_effect setup m m.handle request 0
effect setup h m (Cancel _ n) = ask_effect setup m n ask.Cancel false
effect setup h m (Expire _ n) = ask_effect setup m n ask.Time true
effect setup h m (Serve dev ep) = serve_effect setup m dev ep (m.endpoints dev ep)
effect setup h m Command = command_effect setup m m.orders
effect setup h m Deliver = deliver_effect setup m m.news
effect setup h m Take = take_effect h m m.results
effect setup h m (Answer _ n verdict) = answer_effect setup m n verdict
effect setup h m (Unplug dev) = says m (unplug_reply setup m.gone dev)

-- Command takes the first order, Deliver the first piece of news, Take the first result
abbrev pub takes_order : Step → Bool
takes_order Command = true
takes_order _ = false

abbrev pub takes_news : Step → Bool
takes_news Deliver = true
takes_news _ = false

abbrev pub takes_result : Step → Bool
takes_result Take = true
takes_result _ = false

-- the gone devices after a step
abbrev pub gone_after : Setup → (ℕ → Bool) → Step → ℕ → Bool
gone_after setup gone (Unplug dev) d = gone d || ((dev == d) && is_device setup dev)
gone_after setup gone _ d = gone d

-- its interfaces after a change
abbrev pub held_after : (ℕ → ℕ → Bool) → Change → ℕ → ℕ → Bool
held_after held Keeps d i = held d i
held_after held Frees d i = false
held_after held (Gains dev k) d i = ((dev == d) && (k == i)) || held d i
held_after held (Drops dev k) d i = not ((dev == d) && (k == i)) && held d i
held_after held (Renews dev) d i = held d i
held_after held (Sets dev ep e) d i = held d i

-- its endpoints after a change
abbrev pub ends_after : Setup → (ℕ → ℕ → Option Endpoint) → Change → ℕ → ℕ → Option Endpoint
ends_after setup ends Keeps d e = ends d e
ends_after setup ends Frees d e = None
ends_after setup ends (Gains dev k) d e = if is_within setup dev k d e then Some (fresh setup d e) else ends d e
ends_after setup ends (Drops dev k) d e = if is_within setup dev k d e then None else ends d e
ends_after setup ends (Renews dev) d e = option_map (λ old. fresh setup d e) (ends d e)
ends_after setup ends (Sets dev ep x) d e = if (dev == d) && (ep == e) then option_map (λ old. x) (ends d e) else ends d e

-- the machine after a step with this effect
unfoldable pub machine_after : Setup → Machine → Step → Effect → Machine
machine_after setup m step done = record {
  handle = done.handle;
  held = λ d i. held_after m.held done.change d i;
  endpoints = λ d e. ends_after setup m.endpoints done.change d e;
  gone = λ d. gone_after setup m.gone step d;
  orders = past_first (takes_order step) m.orders ++ done.orders;
  news = past_first (takes_news step) m.news ++ done.news;
  results = past_first (takes_result step) m.results ++ done.results;
}

-- whose entry a step of the machine has: an Unplug is nobody's
abbrev pub maker : ℕ → Step → Option ℕ
maker h (Unplug dev) = None
maker h _ = Some h

unfoldable pub alone_from : Setup → ℕ → Machine → List Step → List Entry
alone_from setup h m [] = []
alone_from setup h m (step ∷ steps) =
    record { owner = maker h step; reply = (effect setup h m step).reply }
    ∷ alone_from setup h (machine_after setup m step (effect setup h m step)) steps

-- the entries of one handle's machine over these steps
unfoldable pub alone : Setup → List Step → ℕ → List Entry
alone setup steps h = alone_from setup h new_machine steps

-- the machine where they end
unfoldable pub machine_from : Setup → ℕ → Machine → List Step → Machine
machine_from setup h m [] = m
machine_from setup h m (step ∷ steps) = machine_from setup h (machine_after setup m step (effect setup h m step)) steps
