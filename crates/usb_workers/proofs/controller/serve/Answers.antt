use Rattle.usb_workers.proofs.Told.{serves_either}
use Rattle.usb_workers.proofs.controller.serve.Goals as goal

pub returns-in-Ok-clause-made : goal.returns-in-Ok-clause-made
returns-in-Ok-clause-made g c =
    rw c.in-Some.is (serves_either g.L.Naming.setup c.in-Some.dev c.in-Some.ep _ c.args.caller.now c.serve_all.new.caller c.serve_all.result c.serve_all.ensures.made c.serve_all.ensures.some c.serve_all.ensures.refused)
