use Rattle.std.proofs.Common.{arith}
use Rattle.usb_workers.proofs.Told.{delivers_either}
use Rattle.usb_workers.proofs.event.deliver.Goals as goal

pub returns-in-Ok-clause-made : goal.returns-in-Ok-clause-made
returns-in-Ok-clause-made g c =
    rw c.if-events.true (delivers_either g.L.Naming.setup _ c.args.caller.now c.deliver_all.new.caller c.deliver_all.result (omega (arith, c.max.ensures)) c.deliver_all.ensures.made c.deliver_all.ensures.ends c.deliver_all.ensures.refused)
