-- What can be asked of a world without a step.
use Rattle.std.specs.Prelude.{◌≡◌, ℕ, Bool, true, false, Some, slice_get}
use Rattle.usb_model.specs.declared.endpoint.Endpoint.{Endpoint}
use Rattle.usb_model.specs.declared.reply.Reply.{Reply}
use Rattle.usb_model.specs.declared.reply.Reply.TheVariants.{Done}
use Rattle.usb_model.specs.declared.step.Step.TheVariants.{Expire}
use Rattle.usb_model.specs.Setup.{Setup}
use Rattle.usb_model.specs.World.{World, turn}
use Rattle.usb_device.specs.Pipe.{pipe_at}
use Rattle.usb_xhc.specs.Controller.{Controller}
use Rattle.usb_xhc.specs.Slots.{DeviceSlot}

-- whether a step is done that is replied with this
abbrev pub is_done : Reply → Bool
is_done Done = true
is_done reply = false

-- whether a transfer's time could be over now: its Expire would be done
abbrev pub would_expire : Setup → World → (h n : ℕ) → Bool
would_expire setup w h n = is_done (turn setup w (Expire h n)).entry.reply

-- a device's endpoint stands as the world has it: in its script, at its halt, and by the packets that it took
pub record IsLeft (k : Controller) (d e : ℕ) (b : Endpoint) : Type 0 where
  pub slot : DeviceSlot
  pub there : slice_get k.slots d ≡ Some slot
  pub left : (pipe_at slot.pipes e).left ≡ b.script_left
  pub halted : (pipe_at slot.pipes e).halted ≡ b.device_halted
  pub taken : (pipe_at slot.pipes e).taken ≡ b.packets_received
