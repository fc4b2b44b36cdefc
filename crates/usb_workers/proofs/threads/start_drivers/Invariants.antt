use Rattle.std.proofs.Common.{◌≡◌, ◌++◌, map}
use Rattle.usb_workers.proofs.threads.start_drivers.Given as goal

abbrev pub invariant-loop-seat : goal.invariant-loop-seat
invariant-loop-seat g l = map (λ t. t.promise.seat.value) l.threads.items ≡ map (λ t. t.promise.seat.value) l.initial.threads.items ++ l.yielded
