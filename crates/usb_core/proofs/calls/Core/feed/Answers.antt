use Rattle.usb_core.proofs.FedCores.{fed_state, fed_world}
use Rattle.usb_core.proofs.calls.Core.feed.Goals as goal

pub invariant_of-self : goal.invariant_of-self
invariant_of-self g c = fed_state c.self.inside.parts c.feed.new.self c.args.dev c.args.ep c.args.answer c.feed.result c.self.invariant c.feed.ensures.fed c.feed.ensures.may c.feed.ensures.stays

pub returns-clause-fed : goal.returns-clause-fed
returns-clause-fed g c = rw (← c.self.view_is) (fed_world c.self.inside.parts c.feed.new.self c.args.dev c.args.ep c.args.answer c.feed.result c.feed.ensures.fed c.feed.ensures.may)
