-- A device joins behind the others.
use Rattle.std.proofs.Common.{◌++◌, ◌∷◌, ◌∙◌, [], List, ap, sym, subst, arith, map, length}
use Rattle.usb_model.specs.declared.setup.Configuration.{Configuration}
use Rattle.refine_core.specs.Made.{AreReady, Devices, setup_from, setup_of}
use Rattle.refine_core.proofs.Made.{ready_added}
use Rattle.usb_core.proofs.setup.Setup.add.Goals as goal

pub invariant_of-self : goal.invariant_of-self
invariant_of-self g c =
    let x : Devices = record { configs = c.self.inside.configs.items; controller = c.self.inside.controller } in
    let added = ready_added x c.add.new.self c.args.config (g.D.Device.pipes c.args.device) c.self.invariant (omega (arith, c.self.invariant.as_many, c.in-Ok.ensures.room))
    c.endpoints.ensures.table (omega (arith, c.endpoints.ensures.room, ap length c.endpoints.ensures.value)) c.requires c.in-Ok.ensures.added in
    subst (λ (l : List Configuration). AreReady (record { configs = l; controller = c.add.new.self })) (sym c.push.ensures.items) added.0

pub returns-in-Ok-clause-added : goal.returns-in-Ok-clause-added
returns-in-Ok-clause-added g c =
    let x : Devices = record { configs = c.self.inside.configs.items; controller = c.self.inside.controller } in
    let added = ready_added x c.add.new.self c.args.config (g.D.Device.pipes c.args.device) c.self.invariant (omega (arith, c.self.invariant.as_many, c.in-Ok.ensures.room))
    c.endpoints.ensures.table (omega (arith, c.endpoints.ensures.room, ap length c.endpoints.ensures.value)) c.requires c.in-Ok.ensures.added in
    ap (λ (l : List Configuration). setup_from l c.add.new.self.slots) c.push.ensures.items ∙ added.1
    ∙ ap (λ (y : Devices). setup_of y ++ record { config = c.args.config; scripts = map (λ p. p.script) (g.D.Device.pipes c.args.device) } ∷ []) c.self.view_is
