use Rattle.std.proofs.Common.{◌≡◌, ◌++◌, drop}
use Rattle.std.specs.List.{concat}
use Rattle.usb_model.proofs.outcome.Outcome.joined.Given as goal

-- the bytes so far, and those of the packets that are left
abbrev pub invariant-loop-packet : goal.invariant-loop-packet
invariant-loop-packet l = concat l.self.packets ≡ l.bytes.items ++ concat (drop l.packet-index l.packet-items)
