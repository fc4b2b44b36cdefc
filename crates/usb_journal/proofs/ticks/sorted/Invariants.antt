use Rattle.std.proofs.Common.{◌≡◌, ◌==◌}
use Rattle.std.specs.List.{filter, flat_map}
use Rattle.usb_model.specs.World.Due.{below}
use Rattle.usb_journal.proofs.ticks.sorted.Given as goal

abbrev pub invariant-loop-number : goal.invariant-loop-number
invariant-loop-number l = l.sorted.items ≡ flat_map (λ h. filter (λ t. t.h == h) l.fn.timers) (below l.number)
