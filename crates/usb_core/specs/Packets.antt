-- The packets that devices took.
use Rattle.std.specs.Prelude.{ℕ, List, Option, slice_get}
use Rattle.std.specs.Option.{option_and_then}
use Rattle.usb_device.specs.Pipe.{pipe_at}
use Rattle.usb_xhc.specs.Controller.{Controller}

-- the packet of index i, of those that an endpoint took since it was made new
abbrev pub taken_in : Controller → (d e i : ℕ) → Option (List ℕ)
taken_in k d e i = option_and_then (λ s. slice_get (pipe_at s.pipes e).taken i) (slice_get k.slots d)
