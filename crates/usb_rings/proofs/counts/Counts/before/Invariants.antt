use Rattle.std.proofs.Common.{◌≡◌, take}
use Rattle.usb_rings.specs.View.{total}
use Rattle.usb_rings.proofs.counts.Counts.before.Given as goal

abbrev pub invariant-loop-k : goal.invariant-loop-k
invariant-loop-k l = l.all ≡ total (take l.k l.self)
