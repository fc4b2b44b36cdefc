-- The ask is kept where the transfer is found.
use Rattle.std.proofs.Common.{sym, ◌∙◌}
use Rattle.usb_model.specs.Machine.{Machine, at_endpoint}
use Rattle.usb_model.specs.World.{machine_with}
use Rattle.reference.specs.System.{world_of}
use Rattle.reference.proofs.Asks.{closed_asks_nothing}
use Rattle.reference.proofs.system.System.ask_effect.Goals as goal

pub returns-in_default-clause-effect : goal.returns-in_default-clause-effect
returns-in_default-clause-effect c =
    let m : Machine = machine_with c.args.setup.now c.args.h c.args.handle (world_of c.args.setup.now c.args.self.now) in
    c.refuses.ensures ∙ sym (closed_asks_nothing c.args.setup.now m c.args.n c.args.ask c.args.timed c.in_default.is)

pub returns-clause-effect : goal.returns-clause-effect
returns-clause-effect c = rw (c.in_ok-at_endpoint.ensures, c.in_ok-done.ensures) (sym (c.in-Some-askable.ensures.asked c.args.ask c.take_found-endpoint.result (c.take_found-endpoint.ensures.taken)))

pub returns-clause-left : goal.returns-clause-left
unfolding at_endpoint
returns-clause-left c = rw c.in_ok-at_endpoint.ensures c.take_found-endpoint.ensures.left
