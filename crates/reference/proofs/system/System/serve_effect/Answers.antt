-- The endpoint serves where it is the handle's.
use Rattle.std.proofs.Common.{sym, ◌∙◌}
use Rattle.usb_model.specs.Machine.{Machine}
use Rattle.usb_model.specs.World.{machine_with}
use Rattle.reference.specs.System.{world_of}
use Rattle.reference.proofs.Steps.{serves_nothing, serves_it}
use Rattle.reference.proofs.system.System.serve_effect.Goals as goal

pub returns-in_default-clause-effect : goal.returns-in_default-clause-effect
returns-in_default-clause-effect c =
    let m : Machine = machine_with c.args.setup.now c.args.h c.args.handle (world_of c.args.setup.now c.args.self.now) in
    c.says.ensures ∙ sym (serves_nothing c.args.setup.now m c.args.dev c.args.ep _ (sym (c.take_endpoint.ensures.taken) ∙ c.in_default.is))

pub returns-clause-effect : goal.returns-clause-effect
returns-clause-effect c =
    let m : Machine = machine_with c.args.setup.now c.args.h c.args.handle (world_of c.args.setup.now c.args.self.now) in
    rw (c.in_ok-at_endpoint.ensures, c.in_ok-done.ensures, c.packet_size_of.ensures, c.is_gone-gone.ensures)
    (sym (serves_it c.args.setup.now m c.args.dev c.args.ep _ c.in-Some.endpoint (sym (c.in-Some.ensures.taken))))
