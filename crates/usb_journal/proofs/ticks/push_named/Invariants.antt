use Rattle.std.proofs.Common.{◌≡◌, ◌==◌, ◌++◌, take}
use Rattle.std.specs.List.{filter}
use Rattle.usb_journal.proofs.ticks.push_named.Given as goal

abbrev pub invariant-loop-timer : goal.invariant-loop-timer
invariant-loop-timer l = l.sorted.items ≡ l.initial.sorted.items ++ filter (λ t. t.h == l.fn.number) (take l.timer-index l.fn.timers)
