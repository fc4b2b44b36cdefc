-- An order waits where the command ring isn't empty.
use Rattle.std.proofs.Common.{ap, ◌∙◌, ℕ, ◌-◌}
use Rattle.std.specs.Prelude.{length}
use Rattle.usb_rings.specs.Ring.{Ring}
use Rattle.refine_core.specs.State.{State}
use Rattle.usb_core.proofs.Waits.{commands}
use Rattle.usb_core.proofs.parts.Parts.has_order.Goals as goal

pub returns : goal.returns
returns g c = λ setup w core keeps shows. commands setup w c.args.self.now core keeps shows c.room.result
    (c.room.ensures ∙ ap (λ (k : Ring). 254 - length k.waits) c.command_ring.ensures ∙ ap (λ (s : State g.row.P.Denot). 254 - length s.controller.commands.waits) c.self.view_is)
