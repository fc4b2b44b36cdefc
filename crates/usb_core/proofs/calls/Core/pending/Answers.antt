use Rattle.std.proofs.Common.{subst, sym}
use Rattle.refine_core.specs.State.{ShowsWorld, State}
use Rattle.usb_core.proofs.Shown.{pending_shown}
use Rattle.usb_core.proofs.calls.Core.pending.Goals as goal

pub returns : goal.returns
returns g c = λ setup w shown. pending_shown c.self.inside.parts c.args.after c.pending.result c.pending.ensures setup w (subst (λ (s : State g.row.P.Denot). ShowsWorld setup s w) (sym c.self.view_is) shown)
