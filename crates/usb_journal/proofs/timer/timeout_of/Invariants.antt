use Rattle.std.proofs.Common.{◌≡◌, drop}
use Rattle.usb_journal.specs.Timers.{timeout_in}
use Rattle.usb_journal.proofs.timer.timeout_of.Given as goal

abbrev pub invariant-loop-timer : goal.invariant-loop-timer
invariant-loop-timer l = timeout_in l.fn.h l.fn.n l.fn.timers ≡ timeout_in l.fn.h l.fn.n (drop l.timer-index l.fn.timers)
