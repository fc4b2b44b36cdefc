use Rattle.refine_core.proofs.Unplugs.{unplugs_gone, unplugs_none, unplugs_now}
use Rattle.usb_core.proofs.parts.Parts.unplug.Goals as goal

pub returns-then-not-is_device-clause-done : goal.returns-then-not-is_device-clause-done
returns-then-not-is_device-clause-done g c = unplugs_none c.args.self.now c.args.dev (cc)

pub returns-then-is_gone-clause-done : goal.returns-then-is_gone-clause-done
returns-then-is_gone-clause-done g c = unplugs_gone c.args.self.now c.args.dev (cc) (cc)

pub returns-clause-done : goal.returns-clause-done
returns-clause-done g c = unplugs_now _ _ c.args.dev c.unplug.new.self c.self.view_is (cc) (cc) c.unplug.ensures
