use Rattle.std.proofs.Common.{◌≡◌, ◌+◌, length, drop}
use Rattle.std.specs.List.{concat}
use Rattle.usb_model.proofs.outcome.joined_length.Given as goal

-- the bytes so far, and those of the packets that are left
abbrev pub invariant-loop-packet : goal.invariant-loop-packet
invariant-loop-packet l = length (concat l.packets) ≡ l.count + length (concat (drop l.packet-index l.packets))
