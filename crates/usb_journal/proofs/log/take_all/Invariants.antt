use Rattle.std.proofs.Common.{◌≡◌}
use Rattle.usb_journal.specs.Seen.{claims_of}
use Rattle.usb_journal.proofs.log.take_all.Given as goal

abbrev pub invariant-loop-receipt : goal.invariant-loop-receipt
invariant-loop-receipt g l = (l.keeper.log ≡ l.initial.keeper.log) × (l.keeper.entries ≡ l.initial.keeper.entries) × (l.keeper.next ≡ l.initial.keeper.next) × (l.keeper.back ≡ l.initial.keeper.back) × (l.keeper.taken ≡ claims_of l.yielded)
