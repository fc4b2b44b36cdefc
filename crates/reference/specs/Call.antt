-- A call of a handle: what it reads.
use Rattle.std.specs.Prelude.{◌≡◌}
use Rattle.usb_model.specs.declared.effect.Effect.{Effect}
use Rattle.usb_model.specs.declared.handle.Handle.{Handle}
use Rattle.usb_model.specs.Machine.{Machine}
use Rattle.usb_model.specs.World.{World, machine_with}
use Rattle.reference.specs.declared.call.Call.{Call}
use Rattle.reference.specs.System.{with_endpoint_out, world_of}

-- the world that it is made in
abbrev pub world_in : Call → World
world_in call = world_of call.setup.now call.system.now

-- what that is to the handle, of which this is kept
abbrev pub machine_in : Call → Handle → Machine
machine_in call handle = machine_with call.setup.now call.name handle (world_in call)

-- the effect sets no endpoint, so none was taken out for it
abbrev pub SetsNone : Call → Effect → Type 0
SetsNone call x = with_endpoint_out call.setup.now call.name (world_in call) x.change ≡ world_in call
