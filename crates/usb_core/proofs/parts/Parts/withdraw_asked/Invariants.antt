-- The items before are withdrawn, where they were asked to end, and what is kept with transfers stays with them.
use Rattle.refine_core.specs.Payloads.{StillCarries}
use Rattle.refine_core.specs.Deliveries.{CanSettle, WithdrawsTo}
use Rattle.usb_core.proofs.parts.Parts.withdraw_asked.Given as goal

abbrev pub invariant-loop-item : goal.invariant-loop-item
invariant-loop-item g l = WithdrawsTo l.fn.self l.self l.name l.dev l.ep l.item × CanSettle l.self l.name l.dev l.ep × StillCarries l.fn.self l.self
