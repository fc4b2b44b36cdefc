use Rattle.std.proofs.Common.{◌∙◌, ap}
use Rattle.std.specs.Prelude.{slice_get}
use Rattle.refine_core.specs.State.{State}
use Rattle.refine_core.proofs.FirstEvents.{no_first}
use Rattle.refine_core.proofs.Reports.{delivered, none_taken, taken_by}
use Rattle.usb_core.proofs.parts.Parts.deliver_at.Goals as goal

pub event-entry-requires : goal.event-entry-requires
event-entry-requires g c = (c.requires.0, c.requires.2.0, taken_by c.args.self.now _ c.self.view_is c.take_event.new.self c.take_event.ensures.controller c.in-Some.event c.in-Some.ensures.event c.requires.0 c.requires.1 c.requires.2.0 c.requires.2.1 c.requires.2.2)

pub returns-in-Some-clause-done : goal.returns-in-Some-clause-done
returns-in-Some-clause-done g c = λ setup w core keeps shows. delivered setup core _ _ (c.event-entry.ensures.done setup core (taken_by c.args.self.now _ c.self.view_is c.take_event.new.self c.take_event.ensures.controller c.in-Some.event c.in-Some.ensures.event setup w core keeps shows))

pub returns-in-Some-clause-at : goal.returns-in-Some-clause-at
returns-in-Some-clause-at g c = λ setup w core keeps shows.
    c.endpoint_of-ep.ensures setup w core (taken_by c.args.self.now _ c.self.view_is c.take_event.new.self c.take_event.ensures.controller c.in-Some.event c.in-Some.ensures.event setup w core keeps shows) shows

pub returns-in-None-clause-done : goal.returns-in-None-clause-done
returns-in-None-clause-done g c = λ setup w core keeps shows. none_taken c.args.self.now _ c.self.view_is c.take_event.new.self c.take_event.ensures.controller c.in-None.ensures.event setup core keeps

pub returns-in-None-clause-at : goal.returns-in-None-clause-at
returns-in-None-clause-at g c = λ setup w core keeps shows.
    no_first setup c.args.self.now w core keeps shows (c.in-None.ensures.event ∙ ap (λ (s : State g.row.P.Denot). slice_get s.controller.events.waits 0) c.self.view_is)
