-- As many names as turns, and no callback of any runs.
use Rattle.std.proofs.Common.{◌≡◌, length}
use Rattle.usb_plans.proofs.NoneRuns.{NoneRuns}
use Rattle.usb_plans.proofs.running_callbacks.RunningCallbacks.new.Given as goal

abbrev pub invariant-loop : goal.invariant-loop
invariant-loop g l = record { count : length l.names.items ≡ l.counter; none : NoneRuns l.names.items }
