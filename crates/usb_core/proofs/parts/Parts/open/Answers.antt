use Rattle.refine_core.proofs.Opens.{opens, opens_gone}
use Rattle.usb_core.proofs.parts.Parts.open.Goals as goal

pub returns-then-is_gone-clause-done : goal.returns-then-is_gone-clause-done
returns-then-is_gone-clause-done g c = opens_gone c.args.self.now c.args.h c.args.dev (cc)

pub returns-clause-done : goal.returns-clause-done
returns-clause-done g c = opens _ _ c.args.h c.args.dev c.open.new.self c.open.result c.reply_to.result c.self.view_is (cc) c.open.ensures.answer c.open.ensures.devices c.open.ensures.owners c.open.ensures.configs c.open.ensures.refused c.reply_to.ensures
