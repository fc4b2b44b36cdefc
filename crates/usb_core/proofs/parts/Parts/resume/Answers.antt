use Rattle.std.proofs.Common.{sym, ◌∙◌, ap, ◌≡◌, Some, None}
use Rattle.std.specs.Prelude.{option_copied}
use Rattle.refine_core.proofs.Posts.{can_post_ring}
use Rattle.refine_core.proofs.Settleable.{resumes_by}
use Rattle.usb_core.proofs.parts.Parts.resume.Goals as goal

pub returns-in-Some-clause-done : goal.returns-in-Some-clause-done
returns-in-Some-clause-done g c = resumes_by c.args.self.now _ c.self.view_is c.args.dev c.args.ep c.ring_doorbell.new.self c.set.new.self c.in-Some.context.now c.slot-slot.result c.id-id.result c.in-Some.ensures c.slot-slot.ensures c.id-id.ensures c.ring_doorbell.ensures c.set.ensures.written

pub returns-in_default-clause-done : goal.returns-in_default-clause-done
returns-in_default-clause-done g c = λ h.
    let ring = can_post_ring c.args.self.now c.args.dev c.args.ep c.requires in
    let none : None ≡ Some ring.0 = sym (ap option_copied c.in_default.is) ∙ c.context.ensures ∙ ring.1 in
    absurd cc
