-- How far devices are in their scripts, and which endpoints are halted, as the parts keep it.
use Rattle.std.specs.Prelude.{ℕ, Bool, true, false, ◌||◌, length, slice_get}
use Rattle.std.specs.Option.{option_map_or}
use Rattle.usb_model.specs.declared.endpoint.EndpointState.{EndpointState}
use Rattle.usb_model.specs.declared.endpoint.EndpointState.TheVariants.{Halted}
use Rattle.usb_device.specs.Pipe.{pipe_at}
use Rattle.usb_xhc.specs.Controller.{Controller}
use Rattle.refine_core.specs.Works.{context_in}

-- whether an endpoint is halted at the controller (xHCI 1.2, 4.8.3)
abbrev pub is_halted_state : EndpointState → Bool
is_halted_state Halted = true
is_halted_state _ = false

-- whether the controller has a device's endpoint halted; none without a ring
abbrev pub stalled_in : Controller → (d e : ℕ) → Bool
stalled_in k d e = option_map_or (λ x. is_halted_state x.state) (context_in k d e) false

-- whether a device's endpoint is halted, at the device or at the controller
abbrev pub halted_in : Controller → (d e : ℕ) → Bool
halted_in k d e = option_map_or (λ s. (pipe_at s.pipes e).halted || stalled_in k d e) (slice_get k.slots d) false

-- how many answers a device has left for its endpoint
abbrev pub answers_in : Controller → (d e : ℕ) → ℕ
answers_in k d e = option_map_or (λ s. length (pipe_at s.pipes e).left) (slice_get k.slots d) 0
