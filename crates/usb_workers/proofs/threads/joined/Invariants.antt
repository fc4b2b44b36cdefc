use Rattle.std.proofs.Common.{map}
use Rattle.usb_workers.specs.Life.{Each}
use Rattle.usb_workers.proofs.threads.joined.Given as goal

abbrev pub invariant-loop-thread : goal.invariant-loop-thread
invariant-loop-thread g l = Each (λ s h. g.T.Driver.makes s.driver g.L.Naming.setup s.caller h.caller h.left) (map (λ t. t.promise.seat.value) l.yielded) l.homes.items
