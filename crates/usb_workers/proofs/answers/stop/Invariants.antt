use Rattle.std.proofs.Common.{◌≡◌, ℕ}
use Rattle.usb_workers.specs.Rounds.{AreCounted, missed_by}
use Rattle.usb_workers.proofs.answers.stop.Given as goal

-- so often memory was refused, which is counted
abbrev pub invariant-loop : goal.invariant-loop
invariant-loop g l = record {
  often : (k : ℕ) × (l.caller ≡ missed_by k l.initial.caller);
  counted : AreCounted l.tries.refused l.caller;
}
