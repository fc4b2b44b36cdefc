use Rattle.std.proofs.Common.{◌≡◌, ◌++◌}
use Rattle.usb_journal.specs.Booked.{steps_of}
use Rattle.trace_live.specs.Lines.{said_by_all}
use Rattle.trace_live.proofs.handles.HandleDriverPlannedCallback.drive.Given as goal

abbrev pub invariant-loop : goal.invariant-loop
invariant-loop g l = steps_of l.caller.own ++ said_by_all l.lines ≡ steps_of l.initial.caller.own ++ said_by_all l.initial.lines
