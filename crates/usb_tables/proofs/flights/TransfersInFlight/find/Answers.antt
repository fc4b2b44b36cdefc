-- The first item of the number is found.
use Rattle.std.proofs.Common.{sym, ◌∙◌, arith}
use Rattle.usb_tables.specs.TransfersInFlight.{is_number, line_at}
use Rattle.usb_tables.proofs.Plain.{found-at, none-at}
use Rattle.usb_tables.proofs.flights.TransfersInFlight.find.Goals as goal

pub returns-then-is_number-clause-value : goal.returns-then-is_number-clause-value
returns-then-is_number-clause-value g c =
    sym (found-at (is_number c.args.n) (line_at c.args.self.now c.args.dev c.args.ep) c.loop-item.item (omega (arith, c.len-item-end.ensures.value)) c.loop-item.invariant
    (sym c.is_number.ensures ∙ c.if-is_number.true))

pub returns-clause-value : goal.returns-clause-value
returns-clause-value g c =
    sym (none-at (is_number c.args.n) (line_at c.args.self.now c.args.dev c.args.ep) (λ k lt. c.loop-item.invariant k (omega (arith, c.len-item-end.ensures.value))))
