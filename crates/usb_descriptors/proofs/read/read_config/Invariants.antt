use Rattle.usb_descriptors.proofs.Runs.{IsUnderway}
use Rattle.usb_descriptors.proofs.read.read_config.Given as goal

-- what is left leads to the grammar's answer
abbrev pub invariant-loop-piece : goal.invariant-loop-piece
invariant-loop-piece l = IsUnderway l.fn.input l.reader l.piece-iterator
