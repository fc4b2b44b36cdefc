use Rattle.std.proofs.Common.{subst, sym}
use Rattle.refine_core.specs.State.{ShowsWorld, State}
use Rattle.usb_core.proofs.calls.Core.has_packet.Goals as goal

pub returns : goal.returns
returns g c = λ setup w shown.
    let inside : ShowsWorld setup c.self.inside.parts w = subst (λ (s : State g.row.P.Denot). ShowsWorld setup s w) (sym c.self.view_is) shown in
    c.has_packet.ensures setup w inside.0 inside.1 inside.2
