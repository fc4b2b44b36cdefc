-- What the host does at an endpoint: its doorbell, and its transfer ring (xHCI 1.2, 4.7, 4.9.2).
use Rattle.std.specs.Prelude.{ℕ, List, [], length, replicate, get_or}
use Rattle.usb_model.specs.declared.endpoint.EndpointState.{EndpointState}
use Rattle.usb_model.specs.declared.endpoint.EndpointState.TheVariants.{Running, Stopped, Halted}
use Rattle.usb_trb.specs.declared.kind.TrbKind.{TrbKind}
use Rattle.usb_trb.specs.declared.kind.TrbKind.TheVariants.{NoOp}
use Rattle.usb_rings.specs.Memory.{puts}
use Rattle.usb_rings.specs.Line.{places, blanked, dropped, enqueue_of, place_of, pushed}
use Rattle.usb_rings.specs.View.{Ring}
use Rattle.usb_xhc.specs.Context.{Context}

-- a doorbell makes a stopped endpoint run
abbrev pub state_by_doorbell : EndpointState → EndpointState
state_by_doorbell Stopped = Running
state_by_doorbell Running = Running
state_by_doorbell Halted = Halted

abbrev pub rung : Context → Context
rung c = record c { state = state_by_doorbell c.state }

-- the endpoint with another ring
abbrev pub with_ring : Context → Ring → Context
with_ring c r = record c { ring = r }

-- a ring with one item more
abbrev pub with_pushed : Ring → List TrbKind → Ring
with_pushed r ks = record { line = pushed r.line ks; memory = puts places r.memory (enqueue_of r.line) ks }

-- a ring with an item of No Ops
abbrev pub with_blank : Ring → ℕ → Ring
with_blank r i = record { line = blanked r.line i; memory = puts places r.memory (place_of r.line i) (replicate (length (get_or r.line.items i [])) NoOp) }

-- a ring without its first items
abbrev pub without_first : Ring → ℕ → Ring
without_first r k = record r { line = dropped r.line k }
