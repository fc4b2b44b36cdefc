use Rattle.std.proofs.Common.{subst, sym}
use Rattle.usb_model.specs.declared.step.Step.TheVariants.{Command}
use Rattle.refine_core.specs.State.{ShowsWorld, State}
use Rattle.usb_core.proofs.Shown.{work_shown}
use Rattle.usb_core.proofs.calls.Core.has_order.Goals as goal

pub returns : goal.returns
returns g c = λ setup w shown. work_shown c.self.inside.parts Command c.has_order.result c.has_order.ensures setup w (subst (λ (s : State g.row.P.Denot). ShowsWorld setup s w) (sym c.self.view_is) shown)
