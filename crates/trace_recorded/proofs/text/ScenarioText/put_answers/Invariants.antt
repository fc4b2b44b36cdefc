-- With the answers that are left they are all.
use Rattle.std.proofs.Common.{◌≡◌, ◌++◌, drop}
use Rattle.trace_recorded.specs.Lines.{answers_text}
use Rattle.trace_recorded.proofs.text.ScenarioText.put_answers.Given as goal

abbrev pub invariant-loop-answer : goal.invariant-loop-answer
invariant-loop-answer l = l.self ++ answers_text (drop l.answer-index l.answers) ≡ l.fn.self ++ answers_text l.answers
