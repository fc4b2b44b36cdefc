use Rattle.usb_model.specs.declared.step.Step.TheVariants.{Command}
use Rattle.usb_workers.proofs.Told.{does_either}
use Rattle.usb_workers.proofs.controller.command.Goals as goal

pub returns-after-command-clause-made : goal.returns-after-command-clause-made
returns-after-command-clause-made g c = rw c.if-pending.true (does_either g.L.Naming.setup Command c.args.caller.now c.command.new.caller c.command.result (λ a. a.receipt) c.command.ensures.made c.command.ensures.refused)
