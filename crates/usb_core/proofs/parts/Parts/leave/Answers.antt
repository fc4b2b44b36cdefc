use Rattle.refine_core.proofs.Settleable.{leaves_by}
use Rattle.usb_core.proofs.Carried.{flights_follow}
use Rattle.refine_core.proofs.Payloads.{follows_leave}
use Rattle.usb_core.proofs.parts.Parts.leave.Goals as goal

pub returns-clause-done : goal.returns-clause-done
returns-clause-done g c = leaves_by c.args.self.now _ c.self.view_is c.args.dev c.args.ep c.args.count c.drop_front.new.self c.leave.new.self c.requires c.leave.ensures c.drop_front.ensures

pub returns-clause-carries : goal.returns-clause-carries
returns-clause-carries g c = flights_follow c.args.self.now _ c.self.view_is c.leave.new.self (follows_leave c.self.inside.flights c.leave.new.self c.args.dev c.args.ep c.args.count c.leave.ensures)
