use Rattle.std.proofs.Common.{◌≡◌, take, Some}
use Rattle.usb_scripttext.specs.Words.{words_of}
use Rattle.usb_scripttext.specs.Script.{each_of}
use Rattle.usb_devicetext.specs.Answer.{answer_of}
use Rattle.usb_devicetext.proofs.answer.each_answer.Given as goal

abbrev pub invariant-loop-word : goal.invariant-loop-word
invariant-loop-word l = each_of (answer_of l.kind) (take l.word-index (words_of l.words)) ≡ Some l.answers.items
