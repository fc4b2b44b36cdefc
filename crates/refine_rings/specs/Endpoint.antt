-- When an endpoint of the controller, and of its device, is a kept one.
use Rattle.std.specs.Prelude.{◌≡◌, ℕ, ◌+◌, ◌-◌, ◌≤◌, nat_lt, false, List, take, Some, ◌⊎◌}
use Rattle.usb_model.specs.declared.endpoint.EndpointState.{EndpointState}
use Rattle.usb_model.specs.Stands.{length_at, total}
use Rattle.usb_model.specs.Kept.{KeptEndpoint, KeptTransfer}
use Rattle.usb_model.specs.Events.{find_at}
use Rattle.usb_device.specs.Pipe.{Pipe}
use Rattle.usb_xhc.specs.Context.{Context}
use Rattle.refine_rings.specs.Line.{IsLine}

-- of the transfer where the controller stands: whether any of it moved; of its TRB no more moved than it has
pub record IsBegun (c : Context) (dequeue within : ℕ) (y : KeptTransfer) : Type 0 where
  pub begun : c.begun ≡ nat_lt 0 (total (take (dequeue - y.place) y.lengths) + within)
  pub fits : within ≤ length_at y.lengths (dequeue - y.place)

-- the controller keeps this line, up to the enqueue place, and stands at the dequeue place, so many bytes within its TRB
pub record Stands (c : Context) (line : List KeptTransfer) (end dequeue within : ℕ) (state : EndpointState) : Type 0 where
  pub ring : IsLine c.size c.ring.line line end dequeue
  pub runs : c.state ≡ state
  pub partly : c.within ≡ within
  pub front : (y : KeptTransfer) → find_at dequeue line ≡ Some y → IsBegun c dequeue within y
  pub rests : dequeue ≡ end → (within ≡ 0) × (c.begun ≡ false)

-- what the controller keeps of a kept endpoint
abbrev pub IsContext : Context → KeptEndpoint → Type 0
IsContext c b = Stands c b.line b.end b.dequeue b.within b.state

-- what the device keeps of it
pub record IsPipe (p : Pipe) (b : KeptEndpoint) : Type 0 where
  pub left : p.left ≡ b.script_left
  pub halted : p.halted ≡ b.device_halted
  pub taken : p.taken ≡ b.packets_received

-- the controller stands at a transfer in progress, or at the end of the line
abbrev pub IsFresh : KeptEndpoint → Type 0
IsFresh b = (b.dequeue ≡ b.end) ⊎ ((y : KeptTransfer) × (find_at b.dequeue b.line ≡ Some y) × (y.blank ≡ false))
