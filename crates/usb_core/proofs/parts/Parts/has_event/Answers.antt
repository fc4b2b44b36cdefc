-- An event waits where the event ring isn't empty.
use Rattle.std.proofs.Common.{ap, ◌∙◌, ℕ, ◌-◌}
use Rattle.std.specs.Prelude.{length}
use Rattle.usb_rings.specs.Ring.{Ring}
use Rattle.refine_core.specs.State.{State}
use Rattle.usb_core.proofs.Waits.{delivers_one}
use Rattle.usb_core.proofs.parts.Parts.has_event.Goals as goal

pub returns : goal.returns
returns g c = λ setup w core keeps shows. delivers_one setup w c.args.self.now core keeps shows c.room.result
    (c.room.ensures ∙ ap (λ (k : Ring). 4095 - length k.waits) c.event_ring.ensures ∙ ap (λ (s : State g.row.P.Denot). 4095 - length s.controller.events.waits) c.self.view_is)
