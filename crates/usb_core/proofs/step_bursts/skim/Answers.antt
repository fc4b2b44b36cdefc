-- What is told is that of the bytes that are sent.
use Rattle.usb_xhc.specs.Skims.{size_at}
use Rattle.usb_core.proofs.Wholes.{told_out}
use Rattle.usb_core.proofs.step_bursts.skim.Goals as goal

pub returns-in-Out-clause-whole : goal.returns-in-Out-clause-whole
returns-in-Out-clause-whole g c = told_out c.args.controller.now c.args.dev c.args.ep c.skim_out.result (size_at c.args.controller.now c.args.dev c.args.ep) c.args.transfer.now.request.body _ _ c.in-Out.is c.as_slice.ensures c.skim_out.ensures.whole
