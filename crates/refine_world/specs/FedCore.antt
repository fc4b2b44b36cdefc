-- A core whose devices are fed shows the world where more is left.
use Rattle.std.specs.Prelude.{ℕ, List, ◌++◌}
use Rattle.usb_model.specs.declared.response.Response.{Response}
use Rattle.usb_model.specs.Setup.{Setup}
use Rattle.usb_model.specs.World.{World}
use Rattle.usb_model.specs.Kept.{KeptEndpoint}
use Rattle.refine_world.specs.Lively.{IsFine}
use Rattle.refine_world.specs.Shows.{Core, Shows}
use Rattle.refine_world.specs.Living.{More, GoesOn, world_with}

abbrev pub kept_with : List Response → KeptEndpoint → KeptEndpoint
kept_with more b = record b { script_left = b.script_left ++ more }

abbrev pub core_with : More → Core → Core
core_with more c = record c { endpoints = λ d ep. kept_with (more d ep) (c.endpoints d ep) }

-- whatever was served before, and at whatever moment
abbrev pub ShowsFed : Type 0
ShowsFed = (setup longer : Setup) (more : More) (w : World) (c : Core) → GoesOn setup longer more → IsFine setup
    → Shows setup w c → Shows longer (world_with more w) (core_with more c)
