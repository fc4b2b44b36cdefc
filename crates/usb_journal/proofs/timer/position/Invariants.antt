use Rattle.std.proofs.Common.{◌≡◌, ◌++◌, drop, take}
use Rattle.usb_journal.specs.Timers.{stopped}
use Rattle.usb_journal.proofs.timer.position.Given as goal

abbrev pub invariant-loop-timer : goal.invariant-loop-timer
invariant-loop-timer l = (l.index ≡ l.timer-index) × (stopped l.fn.h l.fn.n l.fn.timers ≡ take l.timer-index l.fn.timers ++ stopped l.fn.h l.fn.n (drop l.timer-index l.fn.timers))
