use Rattle.std.proofs.Common.{◌+◌, ◌*◌, ◌≡◌, ◌≤◌, ◌++◌, length, not, false}
use Rattle.usb_tables.specs.Trbs.{td_at}
use Rattle.usb_model.specs.Stands.{lengths_of}
use Rattle.usb_tables.proofs.tds.Tds.pieces.Given as goal

-- the TRBs so far, and behind them those of the bytes that are left
abbrev pub invariant-loop-left : goal.invariant-loop-left
invariant-loop-left l =
    (l.trbs ++ td_at l.self.inward (not l.self.extra) l.at (lengths_of false l.left)
    ≡ td_at l.self.inward (not l.self.extra) l.address (lengths_of false l.self.length))
    × (l.at + l.left ≡ l.address + l.self.length)
    × (65536 * length l.trbs + l.left ≤ 262144)
    × (length l.trbs ≤ 3)

abbrev pub decreases-loop-left : goal.decreases-loop-left
decreases-loop-left l = l.left
