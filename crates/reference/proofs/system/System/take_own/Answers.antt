-- The endpoint of the device that the handle opened.
use Rattle.std.proofs.Common.{None, sym, ◌∙◌}
use Rattle.usb_model.specs.Machine.{Machine}
use Rattle.usb_model.specs.World.{machine_with}
use Rattle.reference.specs.System.{world_of}
use Rattle.reference.proofs.Steps.{end_there}
use Rattle.reference.proofs.system.System.take_own.Goals as goal

pub returns-in-None : goal.returns-in-None
returns-in-None c =
    let m : Machine = machine_with c.args.setup.now c.args.h c.args.handle.now (world_of c.args.setup.now c.args.self.now) in
    (end_there m c.in-Some.dev c.args.ep None c.in-Some.is (sym (c.take_endpoint.ensures.taken) ∙ c.in-None.is), c.take_endpoint.ensures.kept c.in-None.is)

pub returns-in-Some-take_endpoint : goal.returns-in-Some-take_endpoint
returns-in-Some-take_endpoint c =
    let m : Machine = machine_with c.args.setup.now c.args.h c.args.handle.now (world_of c.args.setup.now c.args.self.now) in
    (c.in-Some.is, end_there m c.in-Some.dev c.args.ep _ c.in-Some.is (sym (c.take_endpoint.ensures.taken) ∙ c.in-Some-take_endpoint.is), c.take_endpoint.ensures.left)
