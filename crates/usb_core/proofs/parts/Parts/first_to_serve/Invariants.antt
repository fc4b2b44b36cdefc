-- At the endpoints before nothing is to be done.
use Rattle.std.specs.Prelude.{◌≡◌, find}
use Rattle.usb_model.specs.Setup.{Setup}
use Rattle.usb_model.specs.World.{World}
use Rattle.refine_world.specs.Shows.{Core, Shows}
use Rattle.refine_core.specs.State.{Keeps}
use Rattle.usb_core.specs.Pending.{ends_from, serves}
use Rattle.usb_core.proofs.Circle.{from_here}
use Rattle.usb_core.proofs.parts.Parts.first_to_serve.Given as goal

abbrev pub invariant-loop-i : goal.invariant-loop-i
invariant-loop-i g l = (setup : Setup) (w : World) (c : Core) → Keeps setup l.self c → Shows setup w c → find (λ x. serves setup w x.0 x.1) (ends_from 120 l.start) ≡ from_here (λ x. serves setup w x.0 x.1) l.start l.i
