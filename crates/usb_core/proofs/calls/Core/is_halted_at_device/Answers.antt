use Rattle.std.proofs.Common.{subst, sym, ◌∙◌}
use Rattle.refine_core.specs.State.{ShowsWorld, State}
use Rattle.usb_core.proofs.EndpointReads.{device_halted_shown}
use Rattle.usb_core.proofs.calls.Core.is_halted_at_device.Goals as goal

pub returns : goal.returns
returns g c = λ setup w h shown held. c.is_halted_at_device.ensures ∙ device_halted_shown setup c.self.inside.parts w (subst (λ (s : State g.row.P.Denot). ShowsWorld setup s w) (sym c.self.view_is) shown) h c.args.dev c.args.ep held
