-- A call of a handle: what it reads.
use Rattle.usb_model.specs.Setup.{Setup}
use Rattle.usb_model.specs.Machine.{Machine}
use Rattle.usb_model.specs.World.{World, machine_with}
use Rattle.reference.specs.System.{world_of}
use Rattle.trace_explain.specs.declared.caller.Caller.{Caller}

-- the devices as they were set up
abbrev pub setup_in : Caller → Setup
setup_in caller = caller.setup.now

-- the world that it is made in
abbrev pub world_in : Caller → World
world_in caller = world_of caller.setup.now caller.system.now

-- what that is to the handle
abbrev pub machine_of : Caller → Machine
machine_of caller = machine_with caller.setup.now caller.name caller.handle.now (world_in caller)
