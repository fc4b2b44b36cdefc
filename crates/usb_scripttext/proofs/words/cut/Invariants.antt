-- The words so far were taken.
use Rattle.std.proofs.Common.{◌≡◌}
use Rattle.usb_scripttext.specs.Words.{words_of}
use Rattle.usb_scripttext.proofs.words.cut.Given as goal

abbrev pub invariant-loop-word : goal.invariant-loop-word
invariant-loop-word l = words_of l.words.items ≡ words_of l.yielded
