-- What was gathered and isn't written yet stands behind what was appended.
use Rattle.std.proofs.Common.{take}
use Rattle.usb_model.specs.Text.{lines_text}
use Rattle.trace_io.specs.Output.{AppendsAllBut}
use Rattle.trace_io.proofs.print.print.Given as goal

abbrev pub invariant-loop-entry : goal.invariant-loop-entry
invariant-loop-entry g l = AppendsAllBut (lines_text (take l.entry-index l.entries)) l.lines (g.W.Write.contents l.initial.out) (g.W.Write.contents l.out)
