-- The read ends as the number of its full packets says.
use Rattle.std.proofs.Common.{◌≡◌, ◌∙◌, ap, length}
use Rattle.usb_model.specs.Endpoint.Packets.{front_of, full_front, without_naks}
use Rattle.trace_explain.specs.Answers.{answers_in}
use Rattle.trace_explain.proofs.FullFronts.{read_by_number}
use Rattle.trace_explain.proofs.ends.read_end.Goals as goal

pub returns : goal.returns
returns c =
    let number : c.full_front-full.result.0 ≡ length (front_of c.args.n c.args.size (without_naks (answers_in c.args.answers.now))) = c.full_front-full.ensures.count ∙ ap (λ k. length (full_front c.args.size k (without_naks (answers_in c.args.answers.now)))) c.most_full.ensures in
    c.behind_full.ensures ∙ read_by_number c.args.request.now c.args.n c.args.size c.full_front-full.result.0 (without_naks (answers_in c.args.answers.now)) (without_naks (answers_in c.full_front-full.result.1)) number c.full_front-full.ensures.behind
