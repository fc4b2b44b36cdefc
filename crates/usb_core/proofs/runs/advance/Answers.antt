use Rattle.std.proofs.Common.{sym}
use Rattle.usb_core.proofs.Reached.{advances}
use Rattle.usb_core.proofs.runs.advance.Goals as goal

pub returns-in-Ok-clause-advanced : goal.returns-in-Ok-clause-advanced
returns-in-Ok-clause-advanced g c = advances c.push.result c.args.core.now c.step.new.self c.args.step.now c.in_ok-clone.field-0 c.in-Ok.stepped.entry c.args.entries.now c.push.new.self (sym c.in_ok-clone.ensures.cases) c.in-Ok.ensures.turned c.push.ensures.pushed
