-- One full packet more, or none.
use Rattle.std.proofs.Common.{suc, length, ap, ◌∙◌}
use Rattle.std.specs.Prelude.{if◌then◌else◌}
use Rattle.usb_model.specs.Endpoint.Packets.{full_front}
use Rattle.trace_explain.proofs.FullFronts.{front_more, front_stops}
use Rattle.trace_explain.proofs.answers.Answers.full_front.Goals as goal

pub returns-then-not-is_full-clause-count : goal.returns-then-not-is_full-clause-count
returns-then-not-is_full-clause-count c =
    front_stops c.loop-count.invariant c.loop-count-test.true c.in-Some.ensures.first
    (λ k l. c.is_full.ensures k l ∙ ap (λ b. if b then suc (length (full_front c.args.size k l)) else 0) c.if-not-is_full.true)

pub loop-count-preserved : goal.loop-count-preserved
loop-count-preserved c =
    front_more c.loop-count.invariant c.loop-count-test.true c.in-Some.ensures.first
    (λ k l. c.is_full.ensures k l ∙ ap (λ b. if b then suc (length (full_front c.args.size k l)) else 0) c.if-not-is_full.false)
