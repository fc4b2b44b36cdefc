use Rattle.std.proofs.Common.{sym, ◌∙◌, ap, rules, Some}
use Rattle.usb_scripttext.specs.Script.{each_of, answer_of}
use Rattle.usb_scripttext.specs.Words.{words_of}
use Rattle.usb_scripttext.proofs.Each.{over-start, over-more, over-none, faults, read_as}
use Rattle.usb_scripttext.proofs.script.each_answer.Goals as goal

pub loop-word-init : goal.loop-word-init
loop-word-init c = over-start _ _ c.new-answers.ensures.items

pub returns-in_err-answer : goal.returns-in_err-answer
returns-in_err-answer c =
    let h = faults c.answer.result c.in_err-answer.field-0.0 _ (each_of (answer_of c.args.ep) (words_of c.args.words.now)) c.answer.ensures c.in_err-answer.was (over-none _ _ _ _ c.loop-word-test.true) in
    search rules

pub loop-word-preserved : goal.loop-word-preserved
loop-word-preserved c =
    over-more _ _ _ _ _ _ c.loop-word-test.true c.loop-word.invariant (read_as _ _ _ c.answer.ensures c.in_ok-answer.was)
    ∙ ap Some (sym c.in_ok-push.ensures.items)
