-- The reasons of the steps of device, controller and event loop.
use Rattle.std.specs.Prelude.{ℕ, ◌&&◌, Bool, true, false, List, [], ◌∷◌, Option, Some, None}
use Rattle.usb_model.specs.declared.endpoint.Endpoint.{Endpoint}
use Rattle.usb_model.specs.declared.endpoint.EndpointState.{EndpointState}
use Rattle.usb_model.specs.declared.endpoint.EndpointState.TheVariants as state
use Rattle.usb_model.specs.declared.errand.Errand.{Errand}
use Rattle.usb_model.specs.declared.errand.Errand.TheVariants as errand
use Rattle.usb_model.specs.declared.item.Item.{Item}
use Rattle.usb_model.specs.declared.news.News.{News}
use Rattle.usb_model.specs.declared.order.Order.{Order}
use Rattle.usb_model.specs.declared.result.TransferResult.{TransferResult}
use Rattle.usb_model.specs.declared.shared.Tagged.{Tagged}
use Rattle.usb_model.specs.Requests.{is_read, is_short_not_ok, length_of}
use Rattle.usb_model.specs.Setup.{Setup, endpoints_of, interface_of, is_device, packet_size_of}
use Rattle.usb_model.specs.Endpoint.{first_waiting}
use Rattle.usb_model.specs.Machine.{endpoint_at}
use Rattle.usb_model.specs.World.{World, holder, machine_of}
use Rattle.trace_explain.specs.declared.sentence.CalledWith.{CalledWith}
use Rattle.trace_explain.specs.declared.sentence.Idleness.{Idleness}
use Rattle.trace_explain.specs.declared.sentence.Idleness.TheVariants as idleness
use Rattle.trace_explain.specs.Endpoints.{listed}
use Rattle.trace_explain.specs.declared.sentence.TransferEnd.TheVariants as ending
use Rattle.trace_explain.specs.declared.sentence.Reason.{Reason}
use Rattle.trace_explain.specs.declared.sentence.Reason.TheVariants.{Idle, Ended, Failed, Called}
use Rattle.trace_explain.specs.Endings.{answer_end, answer_reason}

-- a device answers the first item that waits, while the endpoint is running; gone: whether the device is
abbrev pub first_reason : ℕ → ℕ → ℕ → Bool → Endpoint → EndpointState → Option Item → Option Reason
first_reason size dev ep gone e state.Running None = Some (Idle (idleness.NoTransfer ep))
first_reason size dev ep true e state.Running (Some x) = Some (Ended (ending.Unplugged dev))
first_reason size dev ep false e state.Running (Some x) = answer_reason ep e x (answer_end size e x)
first_reason size dev ep gone e stands _ = Some (Idle (idleness.Stands ep stands))

-- at an endpoint that a handle holds
unfoldable pub held_reason : Setup → World → ℕ → ℕ → Endpoint → Option Reason
held_reason setup w dev ep e = first_reason (packet_size_of setup dev ep) dev ep (w.gone dev) e e.state (first_waiting e.line)

-- why no handle holds an endpoint: there is no such device, or endpoint, or it is free; exists: whether there is the device
abbrev pub unheld : Setup → ℕ → ℕ → (exists : Bool) → (interface : Option ℕ) → Idleness
unheld setup dev ep false interface = idleness.NoDevice dev
unheld setup dev ep true None = idleness.NoEndpoint dev ep (listed (endpoints_of setup dev))
unheld setup dev ep true (Some i) = idleness.NoHolder dev ep

abbrev pub serve_reason_by : Setup → World → ℕ → ℕ → Option ℕ → Option Reason
serve_reason_by setup w dev ep None = Some (Idle (unheld setup dev ep (is_device setup dev) (interface_of setup dev ep)))
serve_reason_by setup w dev ep (Some h) = held_reason setup w dev ep (w.endpoints dev ep)

-- a device answers one packet
unfoldable pub serve_reason : Setup → World → ℕ → ℕ → Option Reason
serve_reason setup w dev ep = serve_reason_by setup w dev ep (holder setup w.claims dev ep)

-- an order fails at an endpoint in another state than it needs
abbrev pub errand_reason : ℕ → Errand → EndpointState → Option Reason
errand_reason ep errand.Stop state.Running = None
errand_reason ep errand.Reset state.Halted = None
errand_reason ep errand.Move state.Stopped = None
errand_reason ep errand stands = Some (Failed ep stands)

abbrev pub order_reason : ℕ → Order → Option Endpoint → Option Reason
order_reason h order None = Some (Idle (idleness.Lost h order.ep))
order_reason h order (Some e) = errand_reason order.ep order.errand e.state

-- the controller carries out the first order
unfoldable pub command_reason : Setup → World → List (Tagged Order) → Option Reason
command_reason setup w [] = Some (Idle idleness.NoOrder)
command_reason setup w (x ∷ xs) = order_reason x.name x.piece (endpoint_at (machine_of setup x.name w) x.piece.ep)

abbrev pub news_reason : ℕ → News → Option Endpoint → Option Reason
news_reason h news None = Some (Idle (idleness.Lost h news.ep))
news_reason h news (Some e) = None

-- the first piece of news is handled
unfoldable pub deliver_reason : Setup → World → List (Tagged News) → Option Reason
deliver_reason setup w [] = Some (Idle idleness.NoEvent)
deliver_reason setup w (x ∷ xs) = news_reason x.name x.piece (endpoint_at (machine_of setup x.name w) x.piece.ep)

-- what a result tells its callback: its status, how many of how many bytes moved, and whether a short read is an error (libusb, LIBUSB_TRANSFER_SHORT_NOT_OK)
abbrev pub outcome_of : TransferResult → CalledWith
outcome_of x = record { status = x.status; moved = x.actual; bytes = length_of x.request.body; short_not_ok = is_read x.request.body && is_short_not_ok x.request }

-- the oldest result goes out to its callback
unfoldable pub take_reason : List (Tagged TransferResult) → Option Reason
take_reason [] = Some (Idle idleness.NoResult)
take_reason (x ∷ xs) = Some (Called (outcome_of x.piece))
