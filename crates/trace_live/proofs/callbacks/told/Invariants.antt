use Rattle.std.proofs.Common.{◌≡◌, filter}
use Rattle.usb_journal.specs.Booked.{entries_of}
use Rattle.trace_threads.specs.Callbacks.{is_callback}
use Rattle.trace_live.proofs.callbacks.told.Given as goal

abbrev pub invariant-loop-place : goal.invariant-loop-place
invariant-loop-place l = l.lines.items ≡ filter is_callback (entries_of l.yielded)
