use Rattle.std.proofs.Common.{subst, sym, ◌∙◌}
use Rattle.refine_core.specs.State.{ShowsWorld, State}
use Rattle.usb_core.proofs.EndpointReads.{transfers_shown}
use Rattle.usb_core.proofs.calls.Core.in_line.Goals as goal

pub returns : goal.returns
returns g c = λ setup w h shown held. c.in_line.ensures ∙ transfers_shown setup c.self.inside.parts w (subst (λ (s : State g.row.P.Denot). ShowsWorld setup s w) (sym c.self.view_is) shown) h c.args.dev c.args.ep held c.args.item
