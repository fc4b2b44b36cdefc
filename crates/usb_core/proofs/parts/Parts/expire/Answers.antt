use Rattle.refine_core.proofs.Asks.{expires}
use Rattle.usb_core.proofs.parts.Parts.expire.Goals as goal

pub returns-clause-done : goal.returns-clause-done
returns-clause-done g c = expires c.args.self.now c.ask_to_end.new.self c.args.h c.args.n c.ask_to_end.result c.ask_to_end.ensures.done
