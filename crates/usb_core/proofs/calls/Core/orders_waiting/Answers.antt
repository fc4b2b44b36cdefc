use Rattle.std.proofs.Common.{subst, sym, ◌∙◌}
use Rattle.refine_core.specs.State.{ShowsWorld, State}
use Rattle.refine_core.proofs.Inventory.{orders_shown}
use Rattle.usb_core.proofs.calls.Core.orders_waiting.Goals as goal

pub returns : goal.returns
returns g c = λ setup w shown. c.orders_waiting.ensures ∙ orders_shown setup c.self.inside.parts w (subst (λ (s : State g.row.P.Denot). ShowsWorld setup s w) (sym c.self.view_is) shown)
