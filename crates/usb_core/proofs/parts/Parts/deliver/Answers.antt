use Rattle.refine_core.proofs.Reports.{delivered, none_taken, taken_by}
use Rattle.usb_core.proofs.parts.Parts.deliver.Goals as goal

pub event-requires : goal.event-requires
event-requires g c = (c.requires.0, c.requires.2.0, taken_by c.args.self.now _ c.self.view_is c.take_event.new.self c.take_event.ensures.controller c.in-Some.event c.in-Some.ensures.event c.requires.0 c.requires.1 c.requires.2.0 c.requires.2.1 c.requires.2.2)

pub returns-in-Some-clause-done : goal.returns-in-Some-clause-done
returns-in-Some-clause-done g c = λ setup w core keeps shows. delivered setup core _ _ (c.event.ensures.done setup core (taken_by c.args.self.now _ c.self.view_is c.take_event.new.self c.take_event.ensures.controller c.in-Some.event c.in-Some.ensures.event setup w core keeps shows))

pub returns-in-None-clause-done : goal.returns-in-None-clause-done
returns-in-None-clause-done g c = λ setup w core keeps shows. none_taken c.args.self.now _ c.self.view_is c.take_event.new.self c.take_event.ensures.controller c.in-None.ensures.event setup core keeps
