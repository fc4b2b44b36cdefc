-- The words so far are written out, and are few.
use Rattle.std.proofs.Common.{◌≡◌, length, nat_le, take, true}
use Rattle.std.specs.List.{flat_map}
use Rattle.usb_model.specs.Limits.{longest_script}
use Rattle.usb_scripttext.specs.Repeats.{copies_of}
use Rattle.usb_scripttext.specs.Words.{words_of}
use Rattle.usb_scripttext.proofs.repeats.copies.Given as goal

abbrev pub invariant-loop-word : goal.invariant-loop-word
invariant-loop-word l = (words_of l.all.items ≡ flat_map copies_of (take l.word-index (words_of l.words))) × (nat_le (length l.all.items) longest_script ≡ true)
