use Rattle.std.proofs.Common.{subst, sym, ◌∙◌}
use Rattle.refine_core.specs.State.{ShowsWorld, State}
use Rattle.refine_core.proofs.Inventory.{callback_shown}
use Rattle.usb_core.proofs.calls.Core.callback.Goals as goal

pub returns : goal.returns
returns g c = λ setup w shown. c.callback.ensures ∙ callback_shown setup c.self.inside.parts w (subst (λ (s : State g.row.P.Denot). ShowsWorld setup s w) (sym c.self.view_is) shown) c.args.h c.args.n
