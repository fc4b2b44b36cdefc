-- What handles haven't finished in a world.
use Rattle.std.specs.Prelude.{ℕ, zero, suc, ◌==◌, Bool, not, List, [], ◌∷◌, ◌++◌, length, map, Option, Some, None, if◌then◌else◌}
use Rattle.std.specs.List.{filter, flat_map}
use Rattle.usb_model.specs.declared.endpoint.Endpoint.{Endpoint}
use Rattle.usb_model.specs.declared.item.Item.{Item}
use Rattle.usb_model.specs.declared.news.Event.{Event}
use Rattle.usb_model.specs.declared.news.Event.TheVariants as event
use Rattle.usb_model.specs.declared.news.News.{News}
use Rattle.usb_model.specs.declared.order.Order.{Order}
use Rattle.usb_model.specs.declared.response.Response.{Response}
use Rattle.usb_model.specs.declared.result.InCallback.{InCallback}
use Rattle.usb_model.specs.declared.result.TransferResult.{TransferResult}
use Rattle.usb_model.specs.Setup.{Setup, endpoints_of, interfaces_of}
use Rattle.usb_model.specs.Endpoint.{is_blank, is_waiting}
use Rattle.usb_model.specs.Machine.{Machine}
use Rattle.usb_model.specs.Machine.Calls.{callback_of}
use Rattle.usb_model.specs.World.{World, machine_with}
use Rattle.usb_core.specs.Public.{halted}
use Rattle.trace_left.specs.declared.left.Left.{Left}
use Rattle.trace_left.specs.declared.left.Left.TheVariants.{At, Held, Open}
use Rattle.trace_left.specs.declared.left.Thing.{Thing}
use Rattle.trace_left.specs.declared.left.Thing.TheVariants.{Waits, HasEnded, IsHalted, Unused, Finished, Paused, Settled, Order as OrderWaits, Result as ResultWaits, Callback}

-- a transfer in a line: it waits, or it has ended and its event isn't handled
abbrev pub thing_of : Item → Thing
thing_of x = if is_waiting x then Waits x.n else HasEnded x.n

abbrev pub order_left : ℕ → Order → Left
order_left h x = At h x.ep (OrderWaits x.errand)

-- an event that waits
abbrev pub thing_of_event : Event → Thing
thing_of_event (event.Finished n code) = Finished n
thing_of_event (event.Paused n) = Paused n
thing_of_event (event.Settled errand ok) = Settled errand ok

abbrev pub event_left : ℕ → News → Left
event_left h x = At h x.ep (thing_of_event x.event)

abbrev pub result_left : ℕ → TransferResult → Left
result_left h x = At h x.request.ep (ResultWaits x.n x.status)

-- the transfer of this number, where it is in its callback
abbrev pub callback_left : ℕ → ℕ → Option InCallback → List Left
callback_left h n None = []
callback_left h n (Some x) = At h x.request.ep (Callback n) ∷ []

-- the transfers in callbacks of the numbers below this one, by rising number
unfoldable pub callbacks_below : ℕ → List InCallback → ℕ → List Left
callbacks_below h callbacks zero = []
callbacks_below h callbacks (suc n) = callbacks_below h callbacks n ++ callback_left h n (callback_of n callbacks)

-- the transfers of a line; a place that a withdrawn one left is none
abbrev pub transfers_left : ℕ → ℕ → List Item → List Left
transfers_left h ep line = map (λ x. At h ep (thing_of x)) (filter (λ x. not (is_blank x)) line)

-- that it is halted, if it is
abbrev pub halt_left : ℕ → ℕ → Bool → List Left
halt_left h ep halted = if halted then At h ep IsHalted ∷ [] else []

-- how many answers a device has left, if it has any
abbrev pub answers_left : ℕ → ℕ → ℕ → List Left
answers_left h ep answers = if answers == 0 then [] else At h ep (Unused answers) ∷ []

-- what is left at one endpoint: nothing, where it isn't the handle's
abbrev pub at_endpoint : ℕ → ℕ → Option Endpoint → List Left
at_endpoint h ep None = []
at_endpoint h ep (Some e) = transfers_left h ep e.line ++ (halt_left h ep (halted e) ++ answers_left h ep (length e.script_left))

-- what is left at the device that a handle has open: that it is open, the interfaces of it that the handle holds, and what is left at its endpoints, in the order of its configuration; nothing where none is open
abbrev pub at_device : Setup → ℕ → Machine → Option ℕ → List Left
at_device setup h m None = []
at_device setup h m (Some dev) =
    Open h dev
    ∷ (map (Held h) (filter (m.held dev) (interfaces_of setup dev))
    ++ flat_map (λ x. at_endpoint h x.address (m.endpoints dev x.address)) (endpoints_of setup dev))

-- what a handle left behind, by its machine: at its device; then its orders, its events, its results, and its callbacks by rising number
abbrev pub left_of : Setup → ℕ → Machine → List Left
left_of setup h m =
    at_device setup h m m.handle.device
    ++ (map (order_left h) m.orders ++ (map (event_left h) m.news ++ (map (result_left h) m.results ++ callbacks_below h m.handle.in_callbacks m.handle.next_number)))

-- what the name of this number left behind in a world
abbrev pub left_by : Setup → World → ℕ → List Left
left_by setup w h = left_of setup h (machine_with setup h (w.names h) w)

-- what the names below this number left behind, by rising name
unfoldable pub left_below : Setup → World → ℕ → List Left
left_below setup w zero = []
left_below setup w (suc h) = left_below setup w h ++ left_by setup w h

-- what all handles left behind, by rising name
abbrev pub all_left : Setup → World → List Left
all_left setup w = left_below setup w 64
