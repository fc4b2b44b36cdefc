-- The words so far.
use Rattle.std.proofs.Common.{◌≡◌, take}
use Rattle.usb_scripttext.specs.Words.{words_of}
use Rattle.usb_devicetext.specs.Text.{spaced}
use Rattle.usb_devicetext.proofs.text.spaced.Given as goal

abbrev pub invariant-loop-word : goal.invariant-loop-word
invariant-loop-word l = l.bytes.items ≡ spaced (take l.word-index (words_of l.words))
