use Rattle.refine_core.proofs.Settleable.{can_settle_on, can_withdraw, withdraws_by}
use Rattle.usb_core.proofs.Carried.{live_asked, live_seen, parts_follow}
use Rattle.refine_core.proofs.Payloads.{follows_end}
use Rattle.usb_tables.specs.TransfersInFlight.{item_at}
use Rattle.usb_core.proofs.parts.Parts.withdraw.Goals as goal

pub result_made-requires : goal.result_made-requires
result_made-requires g c = (can_withdraw c.args.self.now _ c.self.view_is c.args.name c.args.dev c.args.ep c.args.item c.args.ending c.requires.settle c.requires.asked).1

pub blank-requires : goal.blank-requires
blank-requires g c = (can_withdraw c.args.self.now _ c.self.view_is c.args.name c.args.dev c.args.ep c.args.item c.args.ending c.requires.settle c.requires.asked).2

pub returns-clause-withdrawn : goal.returns-clause-withdrawn
returns-clause-withdrawn g c = withdraws_by c.args.self.now _ c.self.view_is c.args.dev c.args.ep c.args.name c.args.item c.args.ending c.blank.new.self c.end.new.self c.result_made.new.self
    c.end.ensures c.result_made.ensures.results c.result_made.ensures.numbers c.result_made.ensures.callbacks c.result_made.ensures.counts c.blank.ensures

pub returns-clause-settle : goal.returns-clause-settle
returns-clause-settle g c = can_settle_on c.args.self.now _ c.args.name c.args.dev c.args.ep c.args.item c.args.ending c.requires.settle c.requires.asked
    (withdraws_by c.args.self.now _ c.self.view_is c.args.dev c.args.ep c.args.name c.args.item c.args.ending c.blank.new.self c.end.new.self c.result_made.new.self
    c.end.ensures c.result_made.ensures.results c.result_made.ensures.numbers c.result_made.ensures.callbacks c.result_made.ensures.counts c.blank.ensures)

pub returns-clause-carries : goal.returns-clause-carries
returns-clause-carries g c = parts_follow c.args.self.now _ c.self.view_is c.end.new.self c.result_made.new.self
    (follows_end c.self.inside.flights c.end.new.self c.args.dev c.args.ep c.args.item c.args.ending
    (live_seen c.args.self.now _ c.self.view_is c.args.dev c.args.ep c.args.item (live_asked (item_at c.args.self.now.flights c.args.dev c.args.ep c.args.item) c.args.ending c.requires.asked)) c.end.ensures)
    c.result_made.ensures.numbers
