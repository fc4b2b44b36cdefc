-- Where it isn't whole it isn't this one.
use Rattle.usb_core.proofs.step_bursts.is_it.Goals as goal

pub returns-in-None-clause-other : goal.returns-in-None-clause-other
returns-in-None-clause-other c = λ is same. c.in-None.ensures.other c.args.each.now same
