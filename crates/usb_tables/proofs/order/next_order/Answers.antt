use Rattle.std.proofs.Common.{false, sym, true, ◌∙◌}
use Rattle.usb_tables.proofs.Ordered.{ends_by}
use Rattle.usb_tables.proofs.order.next_order.Goals as goal

pub returns-then-needs_reset-clause-endpoint : goal.returns-then-needs_reset-clause-endpoint
returns-then-needs_reset-clause-endpoint c = λ gone next p b found e. ends_by c.args.outstanding c.args.code true (sym c.needs_reset.ensures ∙ c.if-needs_reset.true) gone next p b found e

pub returns-else-needs_reset-clause-endpoint : goal.returns-else-needs_reset-clause-endpoint
returns-else-needs_reset-clause-endpoint c = λ gone next p b found e. ends_by c.args.outstanding c.args.code false (sym c.needs_reset.ensures ∙ c.if-needs_reset.false) gone next p b found e
