use Rattle.std.proofs.Common.{subst, sym}
use Rattle.refine_core.specs.State.{ShowsWorld, State}
use Rattle.usb_core.proofs.Shown.{next_shown}
use Rattle.usb_core.proofs.calls.Core.next_len.Goals as goal

pub returns : goal.returns
returns g c = λ setup w shown. next_shown c.self.inside.parts c.next_len.result c.next_len.ensures setup w (subst (λ (s : State g.row.P.Denot). ShowsWorld setup s w) (sym c.self.view_is) shown)
