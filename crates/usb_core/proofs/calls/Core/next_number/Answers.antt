use Rattle.std.proofs.Common.{subst, sym, ◌∙◌}
use Rattle.refine_core.specs.State.{ShowsWorld, State}
use Rattle.refine_core.proofs.Inventory.{number_shown}
use Rattle.usb_core.proofs.calls.Core.next_number.Goals as goal

pub returns : goal.returns
returns g c = λ setup w shown. c.next_number.ensures ∙ number_shown setup c.self.inside.parts w (subst (λ (s : State g.row.P.Denot). ShowsWorld setup s w) (sym c.self.view_is) shown) c.args.h
