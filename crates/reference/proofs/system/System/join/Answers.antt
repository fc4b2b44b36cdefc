-- The transfer joined its line.
use Rattle.std.proofs.Common.{◌≡◌, ◌+◌, Some, sym, ◌∙◌}
use Rattle.usb_model.specs.Machine.Calls.{submitted}
use Rattle.usb_model.specs.Machine.{at_endpoint}
use Rattle.reference.specs.Submit.{after_callback}
use Rattle.usb_model.specs.World.{machine_with}
use Rattle.reference.specs.System.{world_of}
use Rattle.reference.proofs.system.System.join.Goals as goal

pub returns-clause-effect : goal.returns-clause-effect
returns-clause-effect c =
    let there : (machine_with c.args.setup.now c.args.h c.args.handle (world_of c.args.setup.now c.args.self.now)).endpoints c.args.dev c.args.submission.request.ep ≡ Some c.take_found-endpoint.result = c.take_found-endpoint.ensures.taken in
    let made : c.in_ok-at_endpoint.field-0 ≡ at_endpoint (record (after_callback c.args.submission.ended c.args.handle) { next_number = c.args.handle.next_number + 1 }) c.args.dev c.args.submission.request.ep (submitted c.args.handle.next_number c.args.submission.request c.args.submission.round c.take_found-endpoint.result) = rw (← c.in_ok-handle.ensures, ← c.in_ok-done.ensures) c.in_ok-at_endpoint.ensures in
    made ∙ sym (c.requires.admitted (after_callback c.args.submission.ended c.args.handle) c.args.submission.round c.take_found-endpoint.result there)

pub returns-clause-left : goal.returns-clause-left
unfolding at_endpoint
returns-clause-left c = rw c.in_ok-at_endpoint.ensures c.take_found-endpoint.ensures.left
