use Rattle.std.proofs.Common.{◌≡◌, [], All, map}
use Rattle.usb_workers.proofs.seat.seated.Given as goal

abbrev pub invariant-loop-driver : goal.invariant-loop-driver
invariant-loop-driver g l = (map (λ s. s.driver) l.seats.items ≡ l.yielded) × All (λ s. s.caller.own ≡ []) l.seats.items
