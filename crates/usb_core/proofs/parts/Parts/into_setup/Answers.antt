-- The parts have the devices of each setup of which they show a world.
use Rattle.std.proofs.Common.{◌∙◌, List, ap, subst, sym}
use Rattle.usb_model.specs.declared.setup.Configuration.{Configuration}
use Rattle.refine_core.specs.Made.{AreReady, Devices, setup_of}
use Rattle.refine_core.specs.State.{State}
use Rattle.refine_core.proofs.Made.{ready_again}
use Rattle.usb_core.proofs.parts.Parts.into_setup.Goals as goal

pub invariant_of-result : goal.invariant_of-result
invariant_of-result g c =
    let left : State g.row.P.Denot → Devices = λ s. record { configs = s.claims.configs; controller = s.controller } in
    subst AreReady
    (ap left (sym c.self.view_is) ∙ ap (λ (l : List Configuration). record { configs = l; controller = c.self.inside.controller }) (sym c.into_configs.ensures))
    (ready_again c.requires.0 c.args.self c.requires.2.0 c.requires.2.1).0

pub returns-clause-setup : goal.returns-clause-setup
returns-clause-setup g c = λ setup w shown.
    let left : State g.row.P.Denot → Devices = λ s. record { configs = s.claims.configs; controller = s.controller } in
    ap (λ (l : List Configuration). setup_of (record { configs = l; controller = c.self.inside.controller })) c.into_configs.ensures
    ∙ (ap (λ (s : State g.row.P.Denot). setup_of (left s)) c.self.view_is
    ∙ (ready_again setup c.args.self shown.0 shown.1).1)
