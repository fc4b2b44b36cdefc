-- A device that is fed: one more answer behind a script of it.
use Rattle.std.specs.Prelude.{ℕ, Bool, false, slice_get, slice_set}
use Rattle.std.specs.Option.{option_map_or}
use Rattle.usb_model.specs.declared.response.Response.{Response}
use Rattle.usb_model.specs.Setup.{endpoint_id}
use Rattle.usb_device.specs.Feeds.{may_be_fed, pipe_fed}
use Rattle.usb_device.specs.Pipe.{pipe_at}
use Rattle.usb_xhc.specs.Controller.{Controller, slot_changed}
use Rattle.usb_xhc.specs.Slots.{DeviceSlot}

-- the slot, where the device of it is fed at this address
abbrev pub slot_fed : ℕ → Response → DeviceSlot → DeviceSlot
slot_fed ep answer s = record s { pipes = slice_set s.pipes (endpoint_id ep) (pipe_fed answer (pipe_at s.pipes ep)) }

-- the controller, where this device is fed
abbrev pub controller_fed : ℕ → ℕ → Response → Controller → Controller
controller_fed dev ep answer v = slot_changed v dev (slot_fed ep answer)

-- whether it may have that answer there
abbrev pub device_may_be_fed : ℕ → ℕ → Response → Controller → Bool
device_may_be_fed dev ep answer v = option_map_or (λ s. may_be_fed ep answer (pipe_at s.pipes ep)) (slice_get v.slots dev) false
