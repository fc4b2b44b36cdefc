use Rattle.std.proofs.Common.{◌≡◌, ◌++◌, map}
use Rattle.usb_workers.proofs.life.apart.Given as goal

abbrev pub invariant-loop-home : goal.invariant-loop-home
invariant-loop-home g l = (l.callers.items ≡ l.initial.callers.items ++ map (λ h. h.caller) l.yielded) × (l.left.items ≡ map (λ h. h.left) l.yielded)
