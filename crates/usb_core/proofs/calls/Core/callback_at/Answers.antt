use Rattle.std.proofs.Common.{ap, subst, sym, ◌∙◌}
use Rattle.std.specs.Option.{option_map}
use Rattle.usb_model.specs.declared.result.InCallback.{InCallback}
use Rattle.refine_core.specs.State.{ShowsWorld, State}
use Rattle.refine_core.proofs.Inventory.{callback_shown}
use Rattle.usb_core.proofs.calls.Core.callback_at.Goals as goal

pub returns-in-Some : goal.returns-in-Some
returns-in-Some g c = λ setup w shown.
    ap (option_map (λ (x : InCallback). x.request.ep)) (c.in-Some.ensures ∙ callback_shown setup c.self.inside.parts w (subst (λ (s : State g.row.P.Denot). ShowsWorld setup s w) (sym c.self.view_is) shown) c.args.h c.args.n)

pub returns-in-None : goal.returns-in-None
returns-in-None g c = λ setup w shown.
    ap (option_map (λ (x : InCallback). x.request.ep)) (c.in-None.ensures ∙ callback_shown setup c.self.inside.parts w (subst (λ (s : State g.row.P.Denot). ShowsWorld setup s w) (sym c.self.view_is) shown) c.args.h c.args.n)
