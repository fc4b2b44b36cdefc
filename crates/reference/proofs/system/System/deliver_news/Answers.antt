-- It is done where the endpoint is the handle's.
use Rattle.std.proofs.Common.{sym}
use Rattle.usb_model.specs.Machine.{Machine}
use Rattle.usb_model.specs.World.{machine_with}
use Rattle.reference.specs.System.{world_of}
use Rattle.reference.proofs.Steps.{delivers_it}
use Rattle.reference.proofs.system.System.deliver_news.Goals as goal

pub returns-clause-effect : goal.returns-clause-effect
returns-clause-effect c =
    let m : Machine = machine_with c.args.setup.now c.args.h c.args.handle (world_of c.args.setup.now c.args.self.now) in
    rw (c.in_ok-at_endpoint.ensures, c.in_ok-done.ensures, c.packet_size_of.ensures, c.has_lost-gone.ensures)
    (sym (delivers_it c.args.setup.now m c.args.news _ _ _ c.in-Some.ensures.0 c.in-Some.ensures.1))
