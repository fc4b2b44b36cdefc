-- What is gathered of the core: of each handle what is read before orders are carried out and events handled, and what waits of all handles.
use Rattle.std.specs.Prelude.{◌≡◌, ℕ, zero, suc, ◌==◌, Bool, false, ◌&&◌, List, [], ◌∷◌, ◌++◌, length, map, take, Option, Some, None, option_map, slice_get, if◌then◌else◌}
use Rattle.std.specs.List.{filter, flat_map, list_any}
use Rattle.usb_model.specs.declared.endpoint.Endpoint.{Endpoint}
use Rattle.usb_model.specs.declared.item.Item.{Item}
use Rattle.usb_model.specs.declared.news.News.{News}
use Rattle.usb_model.specs.declared.order.Order.{Order}
use Rattle.usb_model.specs.declared.reply.Reply.{Reply}
use Rattle.usb_model.specs.declared.reply.Reply.TheVariants as reply
use Rattle.usb_model.specs.declared.result.TransferResult.{TransferResult}
use Rattle.usb_model.specs.declared.shared.Tagged.{Tagged}
use Rattle.usb_model.specs.declared.setup.Configuration.{Configuration}
use Rattle.usb_model.specs.Setup.{Setup}
use Rattle.usb_model.specs.World.{World, is_its, own_endpoint}
use Rattle.usb_core.specs.Public.{ShowsWorld, State, halted, number_in}
use Rattle.usb_core.specs.declared.inventory.WaitingResult.{WaitingResult}
use Rattle.trace_left.specs.declared.inventory.Inventory.{Inventory}
use Rattle.trace_left.specs.declared.left.Left.{Left}
use Rattle.trace_left.specs.declared.left.Left.TheVariants.{At, Held, Open}
use Rattle.trace_left.specs.declared.left.Thing.{Thing}
use Rattle.trace_left.specs.declared.left.Thing.TheVariants.{Callback, Finished, HasEnded, Order as OrderWaits, Paused, Result as ResultWaits, Settled, Waits}
use Rattle.trace_left.specs.Left.{answers_left, callbacks_below, event_left, halt_left, order_left, result_left}

-- a transfer of this number, if there is one, as one that waits
abbrev pub waits_left : ℕ → ℕ → Option ℕ → List Left
waits_left h ep None = []
waits_left h ep (Some n) = At h ep (Waits n) ∷ []

-- the transfers of a line
abbrev pub line_read : ℕ → ℕ → List Item → List Left
line_read h ep line = flat_map (λ x. waits_left h ep (number_in (Some x))) line

-- an endpoint, where it is the handle's
abbrev pub end_read : ℕ → ℕ → Option Endpoint → List Left
end_read h ep None = []
end_read h ep (Some e) = line_read h ep e.line ++ (halt_left h ep (halted e) ++ answers_left h ep (length e.script_left))

-- the transfer of this number, where it is in its callback at an endpoint
abbrev pub called_at : ℕ → ℕ → Option ℕ → List Left
called_at h n None = []
called_at h n (Some ep) = At h ep (Callback n) ∷ []

-- an interface, where the handle holds it
abbrev pub held_read : ℕ → ℕ → (holder : Option ℕ) → List Left
held_read h i holder = if is_its h holder then Held h i ∷ [] else []

-- what the handle has of a device with this configuration: interfaces, then endpoints, in its order
abbrev pub configured_read : Setup → World → ℕ → ℕ → Option Configuration → List Left
configured_read setup w h dev None = []
configured_read setup w h dev (Some config) =
    flat_map (λ i. held_read h i (w.claims dev i)) config.interfaces
    ++ flat_map (λ x. end_read h x.address (own_endpoint setup h w dev x.address)) config.endpoints

-- the device that the handle has open
abbrev pub device_read : Setup → World → ℕ → Option ℕ → List Left
device_read setup w h None = []
device_read setup w h (Some dev) =
    Open h dev ∷ configured_read setup w h dev (option_map (λ x. x.config) (slice_get setup dev))

-- what is read of a handle
abbrev pub handle_read : Setup → World → ℕ → Inventory
handle_read setup w h = record { h = h; at_device = device_read setup w h (w.names h).device; callbacks = callbacks_below h (w.names h).in_callbacks (w.names h).next_number }

-- and of the names below this number
unfoldable pub handles_read : Setup → World → ℕ → List Inventory
handles_read setup w zero = []
handles_read setup w (suc h) = handles_read setup w h ++ handle_read setup w h ∷ []

-- what waits, of whichever handle
abbrev pub order_of : Tagged Order → Left
order_of x = order_left x.name x.piece

abbrev pub event_of : Tagged News → Left
event_of x = event_left x.name x.piece

abbrev pub result_of : Tagged TransferResult → Left
result_of x = result_left x.name x.piece

-- where there is one, a list of it
abbrev pub of_option : Option Left → List Left
of_option None = []
of_option (Some x) = x ∷ []

-- the first, as something left
abbrev pub first_of : {A : Type 0} → (A → Left) → List A → Option Left
first_of f [] = None
first_of f (x ∷ xs) = Some (f x)

-- a result, as the core tells it
abbrev pub result_told : WaitingResult → Left
result_told x = At x.h x.ep (ResultWaits x.n x.status)

-- an order, as the entry of its Command tells it
abbrev pub order_told : Option ℕ → Reply → Option Left
order_told (Some h) (reply.Ran ep errand ok) = Some (At h ep (OrderWaits errand))
order_told _ _ = None

-- an event, as the entry of its Deliver tells it
abbrev pub thing_told : Reply → Option Thing
thing_told (reply.Finished n) = Some (Finished n)
thing_told (reply.Paused n) = Some (Paused n)
thing_told (reply.Settled ep errand ok) = Some (Settled errand ok)
thing_told _ = None

abbrev pub event_told : Option ℕ → (at : Option ℕ) → Reply → Option Left
event_told (Some h) (Some ep) said = option_map (λ thing. At h ep thing) (thing_told said)
event_told _ _ said = None

-- so many orders of a world were carried out: they stand behind what was there, and the world that is shown has its news, and more behind them
pub record TakesOrders {P : Type 0} (setup : Setup) (w : World) (new : State P) (count : ℕ) (before after : List Left) : Type 0 where
  pub world : World
  pub shown : ShowsWorld setup new world
  pub gathered : after ≡ before ++ map order_of (take count w.orders)
  pub more : List (Tagged News)
  pub news : world.news ≡ w.news ++ more

-- all that waits in a world
abbrev pub all_waiting : World → List Left
all_waiting w = map order_of w.orders ++ (map event_of w.news ++ map result_of w.results)

-- whether this is of the handle
abbrev pub is_of : ℕ → Left → Bool
is_of h (Open g dev) = g == h
is_of h (Held g i) = g == h
is_of h (At g ep thing) = g == h

-- whether this is the event of the transfer of this number that ended at an endpoint
abbrev pub is_end_of : ℕ → ℕ → Left → Bool
is_end_of ep n (At g e (Finished k)) = (e == ep) && (k == n)
is_end_of ep n _ = false

-- what was read at an endpoint, as it is by what waits of the handle: a transfer in line has ended where its event waits
abbrev pub as_told : List Left → ℕ → Thing → Thing
as_told own ep (Waits n) = if list_any (is_end_of ep n) own then HasEnded n else Waits n
as_told own ep thing = thing

-- so what was read of the handle
abbrev pub by_events : List Left → Left → Left
by_events own (At h ep thing) = At h ep (as_told own ep thing)
by_events own x = x

-- what a handle left behind, of what was read of it and what waits of all
abbrev pub joined : List Left → Inventory → List Left
joined waiting x = map (by_events (filter (is_of x.h) waiting)) x.at_device ++ (filter (is_of x.h) waiting ++ x.callbacks)
