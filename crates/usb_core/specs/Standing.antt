-- How an endpoint stands, and a transfer in its line, as it is asked of a core.
use Rattle.std.specs.Prelude.{ℕ, Bool, false, List, slice_get, Option, Some, None, if◌then◌else◌}
use Rattle.std.specs.Option.{option_map_or}
use Rattle.usb_model.specs.declared.endpoint.EndpointState.{EndpointState}
use Rattle.usb_model.specs.declared.endpoint.EndpointState.TheVariants.{Running}
use Rattle.usb_model.specs.declared.item.Ask.{Ask}
use Rattle.usb_model.specs.declared.item.Item.{Item}
use Rattle.usb_model.specs.declared.request.Request.{Request}
use Rattle.usb_model.specs.Endpoint.{bytes_read, is_blank, outcome_of}
use Rattle.usb_device.specs.Pipe.{pipe_at}
use Rattle.usb_tables.specs.declared.transfer.Transfer.{Transfer as InFlight}
use Rattle.usb_xhc.specs.Controller.{Controller}
use Rattle.refine_core.specs.Works.{context_in}

-- a transfer in a line: its number, its request, whether and why it was asked to end, and the bytes that it read
pub record LineTransfer : Type 0 where
  pub n : ℕ
  pub request : Request
  pub ask : Option Ask
  pub read : List ℕ

-- at a place of a world's line; none at a place that a withdrawn one left, and past the end. size: of the endpoint's packets
abbrev pub in_line : ℕ → Option Item → Option LineTransfer
in_line size None = None
in_line size (Some x) = if is_blank x then None else Some (record { n = x.n; request = x.request; ask = x.ask; read = bytes_read x.request.body (outcome_of size x) })

-- as the parts keep it
abbrev pub in_flight : {P : Type 0} → InFlight P → LineTransfer
in_flight t = record { n = t.n; request = t.request; ask = t.ask; read = t.bytes.items }

-- the state of an endpoint at the controller (xHCI 1.2, 4.8.3); one without a ring runs
abbrev pub state_in : Controller → (d e : ℕ) → EndpointState
state_in k d e = option_map_or (λ x. x.state) (context_in k d e) Running

-- whether a device's endpoint is halted at the device (USB 2.0, 9.4.5)
abbrev pub device_halted_in : Controller → (d e : ℕ) → Bool
device_halted_in k d e = option_map_or (λ s. (pipe_at s.pipes e).halted) (slice_get k.slots d) false
