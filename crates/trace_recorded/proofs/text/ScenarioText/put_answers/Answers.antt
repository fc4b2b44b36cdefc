-- An answer more behind a space, and the end.
use Rattle.std.proofs.Common.{◌≡◌, ◌++◌, codes, ap, ◌∙◌, append_assoc, arith}
use Rattle.trace_recorded.specs.Lines.{answer_text}
use Rattle.trace_recorded.proofs.Joined.{joined_next, joined_end}
use Rattle.trace_recorded.proofs.text.ScenarioText.put_answers.Goals as goal

pub loop-answer-preserved : goal.loop-answer-preserved
loop-answer-preserved c =
    joined_next (λ answer. codes " " ++ answer_text answer) c.loop-answer.self _ _ c.args.answers.now c.loop-answer.answer-index c.answer-item.result c.loop-answer-test.true c.answer-item.is
    (c.in_ok-put_answer.ensures ∙ ap (λ t. t ++ answer_text c.answer-item.result) c.in_ok-put.ensures ∙ append_assoc c.loop-answer.self (codes " ") (answer_text c.answer-item.result))
    c.loop-answer.invariant

pub returns : goal.returns
returns c = joined_end (λ answer. codes " " ++ answer_text answer) _ _ c.args.answers.now c.loop-answer.answer-index (omega arith) c.loop-answer.invariant
