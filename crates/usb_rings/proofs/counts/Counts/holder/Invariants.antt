use Rattle.std.proofs.Common.{◌≡◌, ◌+◌, take}
use Rattle.usb_rings.specs.View.{total}
use Rattle.usb_rings.proofs.counts.Counts.holder.Given as goal

abbrev pub invariant-loop-i : goal.invariant-loop-i
invariant-loop-i l = total (take l.i l.self) + l.rest ≡ l.ahead
