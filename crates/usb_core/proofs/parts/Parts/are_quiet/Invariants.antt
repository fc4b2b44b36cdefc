-- The endpoints before are quiet.
use Rattle.refine_core.specs.Handles.{FirstQuiet}
use Rattle.usb_core.proofs.parts.Parts.are_quiet.Given as goal

abbrev pub invariant-loop-info : goal.invariant-loop-info
invariant-loop-info g l = FirstQuiet l.self l.h l.dev l.among l.info-items l.info-index
