use Rattle.std.proofs.Common.{◌∙◌, ap, sym}
use Rattle.std.specs.Prelude.{is_some}
use Rattle.usb_rings.specs.View.{Ring}
use Rattle.usb_xhc.specs.Context.{Context}
use Rattle.usb_xhc.specs.Commands.{before, moved_at}
use Rattle.usb_xhc.proofs.Moves.{leads, moved-there, stayed-there}
use Rattle.usb_xhc.proofs.context.EndpointContext.set_dequeue.Goals as goal

pub returns-then-found-clause-found : goal.returns-then-found-clause-found
returns-then-found-clause-found c =
    (leads c.self.inside.ring.line c.args.pointer c.set_dequeue-found.result c.set_dequeue-found.new.self.line
    c.set_dequeue-found.ensures.found c.set_dequeue-found.ensures.known (λ h. ap (λ (r : Ring). r.line) (c.set_dequeue-found.ensures.absent h))).0
    ∙ ap (λ (x : Context). is_some (before x.ring.line c.args.pointer)) c.self.view_is

pub returns-then-found-clause-context : goal.returns-then-found-clause-context
returns-then-found-clause-context c =
    let went = leads c.self.inside.ring.line c.args.pointer c.set_dequeue-found.result c.set_dequeue-found.new.self.line
    c.set_dequeue-found.ensures.found c.set_dequeue-found.ensures.known (λ h. ap (λ (r : Ring). r.line) (c.set_dequeue-found.ensures.absent h)) in
    moved-there inside (before c.self.inside.ring.line c.args.pointer) c.set_dequeue-found.new.self went.1 c.set_dequeue-found.ensures.memory (sym went.0 ∙ c.if-found.true)
    ∙ ap (λ (x : Context). (moved_at x (before x.ring.line c.args.pointer)).context) c.self.view_is
  where
    inside : Context
    inside = record {
      slot = c.self.inside.slot;
      id = c.self.inside.id;
      size = c.self.inside.size;
      state = c.self.inside.state;
      within = c.self.inside.within;
      begun = c.self.inside.begun;
      ring = c.self.inside.ring;
    }

pub returns-else-found-clause-found : goal.returns-else-found-clause-found
returns-else-found-clause-found c =
    (leads c.self.inside.ring.line c.args.pointer c.set_dequeue-found.result c.set_dequeue-found.new.self.line
    c.set_dequeue-found.ensures.found c.set_dequeue-found.ensures.known (λ h. ap (λ (r : Ring). r.line) (c.set_dequeue-found.ensures.absent h))).0
    ∙ ap (λ (x : Context). is_some (before x.ring.line c.args.pointer)) c.self.view_is

pub returns-else-found-clause-context : goal.returns-else-found-clause-context
returns-else-found-clause-context c =
    let went = leads c.self.inside.ring.line c.args.pointer c.set_dequeue-found.result c.set_dequeue-found.new.self.line
    c.set_dequeue-found.ensures.found c.set_dequeue-found.ensures.known (λ h. ap (λ (r : Ring). r.line) (c.set_dequeue-found.ensures.absent h)) in
    stayed-there inside (before c.self.inside.ring.line c.args.pointer) c.set_dequeue-found.new.self went.1 c.set_dequeue-found.ensures.memory (sym went.0 ∙ c.if-found.false)
    ∙ ap (λ (x : Context). (moved_at x (before x.ring.line c.args.pointer)).context) c.self.view_is
  where
    inside : Context
    inside = record {
      slot = c.self.inside.slot;
      id = c.self.inside.id;
      size = c.self.inside.size;
      state = c.self.inside.state;
      within = c.self.inside.within;
      begun = c.self.inside.begun;
      ring = c.self.inside.ring;
    }
