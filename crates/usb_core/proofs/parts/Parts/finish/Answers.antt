use Rattle.refine_core.proofs.Ends.{finishes_by, leaves_blank, leaves_within}
use Rattle.usb_core.proofs.Carried.{live_seen, parts_follow}
use Rattle.refine_core.proofs.Payloads.{follows_end, follows_leave, follows_on}
use Rattle.usb_core.proofs.parts.Parts.finish.Goals as goal

pub leave-requires-clause-within : goal.leave-requires-clause-within
leave-requires-clause-within g c = leaves_within c.args.self.now _ c.self.view_is c.args.at.name c.args.at.dev c.args.at.ep c.args.item _ c.leaving-count.result c.leaving-count.ensures c.args.ending c.end.new.self c.requires c.end.ensures

pub leave-requires-clause-blank : goal.leave-requires-clause-blank
leave-requires-clause-blank g c = leaves_blank c.args.self.now _ c.self.view_is c.args.at.name c.args.at.dev c.args.at.ep c.args.item _ c.leaving-count.result c.leaving-count.ensures c.args.ending c.end.new.self c.requires c.end.ensures

pub returns-clause-done : goal.returns-clause-done
returns-clause-done g c = finishes_by c.args.self.now _ c.self.view_is c.args.at.name c.args.at.dev c.args.at.ep c.args.item _ c.leaving-count.result c.leaving-count.ensures c.args.ending c.end.new.self c.requires c.end.ensures
    c.drop_front.new.self c.leave.new.self c.result_made.new.self c.leave.ensures c.result_made.ensures.results c.result_made.ensures.numbers c.result_made.ensures.callbacks c.result_made.ensures.counts c.drop_front.ensures

pub returns-clause-carries : goal.returns-clause-carries
returns-clause-carries g c = parts_follow c.args.self.now _ c.self.view_is c.leave.new.self c.result_made.new.self
    (follows_on c.self.inside.flights c.end.new.self c.leave.new.self
    (follows_end c.self.inside.flights c.end.new.self c.args.at.dev c.args.at.ep c.args.item c.args.ending (live_seen c.args.self.now _ c.self.view_is c.args.at.dev c.args.at.ep c.args.item c.requires.live) c.end.ensures)
    (follows_leave c.end.new.self c.leave.new.self c.args.at.dev c.args.at.ep c.leaving-count.result c.leave.ensures))
    c.result_made.ensures.numbers
