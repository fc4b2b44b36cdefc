use Rattle.std.proofs.Common.{subst, sym}
use Rattle.refine_core.specs.State.{ShowsWorld, State}
use Rattle.usb_core.proofs.Shown.{expires_shown}
use Rattle.usb_core.proofs.calls.Core.expires.Goals as goal

pub returns : goal.returns
returns g c = λ setup w shown. expires_shown c.self.inside.parts c.args.h c.args.n c.expires.result c.expires.ensures setup w (subst (λ (s : State g.row.P.Denot). ShowsWorld setup s w) (sym c.self.view_is) shown)
