use Rattle.std.proofs.Common.{◌+◌, ◌≤◌, length}
use Rattle.usb_model.specs.Endpoint.Packets.{without_naks}
use Rattle.reference.proofs.Walks.{IsAcks}
use Rattle.reference.proofs.share.acks.Given as goal

-- all so far are acknowledgements or naks
abbrev pub invariant-loop-behind : goal.invariant-loop-behind
invariant-loop-behind l = record {
  so_far : IsAcks (without_naks l.share) l.count (without_naks l.rest);
  few : l.count + length l.rest ≤ length l.share;
}

abbrev pub decreases-loop-behind : goal.decreases-loop-behind
decreases-loop-behind l = length l.rest
