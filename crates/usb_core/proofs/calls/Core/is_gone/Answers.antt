use Rattle.std.proofs.Common.{subst, sym, ◌∙◌}
use Rattle.refine_core.specs.State.{ShowsWorld, State}
use Rattle.usb_core.proofs.EndpointReads.{gone_shown}
use Rattle.usb_core.proofs.calls.Core.is_gone.Goals as goal

pub returns : goal.returns
returns g c = λ setup w shown device. c.is_gone.ensures ∙ gone_shown setup c.self.inside.parts w (subst (λ (s : State g.row.P.Denot). ShowsWorld setup s w) (sym c.self.view_is) shown) c.args.dev device
