-- The parts are those of the core.
use Rattle.std.proofs.Common.{subst, sym}
use Rattle.usb_xhc.specs.Controller.{Controller}
use Rattle.refine_core.specs.State.{ShowsWorld, State}
use Rattle.usb_core.specs.Reads.{IsLeft}
use Rattle.usb_core.proofs.Shown.{left_shown}
use Rattle.usb_core.proofs.calls.Core.into_setup.Goals as goal

pub returns-clause-setup : goal.returns-clause-setup
returns-clause-setup g c = λ setup w shown. c.into_setup.ensures.setup setup w (subst (λ (s : State g.row.P.Denot). ShowsWorld setup s w) (sym c.self.view_is) shown)

pub returns-clause-devices : goal.returns-clause-devices
returns-clause-devices g c = λ setup w d e k shown its.
    subst (λ (k : Controller). IsLeft k d e (w.endpoints d e)) (sym c.into_setup.ensures.controller)
    (left_shown c.self.inside.parts setup w d e k (subst (λ (s : State g.row.P.Denot). ShowsWorld setup s w) (sym c.self.view_is) shown) its)
