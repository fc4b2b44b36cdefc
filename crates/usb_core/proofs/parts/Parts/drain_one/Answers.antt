-- What is next, if anything.
use Rattle.std.proofs.Common.{sym, ◌∙◌, false, true}
use Rattle.usb_model.specs.declared.step.Step.TheVariants.{Command, Deliver}
use Rattle.usb_core.proofs.Drains.{delivers, orders, waits}
use Rattle.usb_core.proofs.parts.Parts.drain_one.Goals as goal

pub returns-then-has_result-clause-drained : goal.returns-then-has_result-clause-drained
returns-then-has_result-clause-drained g c = λ setup w core keeps shows. (waits setup w (sym (c.has_result.ensures setup w core keeps shows) ∙ c.if-has_result.true), keeps)

pub returns-then-has_event-clause-drained : goal.returns-then-has_event-clause-drained
returns-then-has_event-clause-drained g c = λ setup w core keeps shows. (
  Deliver,
  delivers setup w (sym (c.has_result.ensures setup w core keeps shows) ∙ c.if-has_result.false) (sym (c.has_event.ensures setup w core keeps shows) ∙ c.if-has_event.true),
  (c.deliver.ensures.done setup w core keeps shows).1,
)

pub returns-then-has_order-clause-drained : goal.returns-then-has_order-clause-drained
returns-then-has_order-clause-drained g c = λ setup w core keeps shows. (
  Command,
  orders setup w true (sym (c.has_result.ensures setup w core keeps shows) ∙ c.if-has_result.false) (sym (c.has_event.ensures setup w core keeps shows) ∙ c.if-has_event.false) (sym (c.has_order.ensures setup w core keeps shows) ∙ c.if-has_order.true),
  (c.command.ensures.done setup w core keeps shows).1,
)

pub returns-clause-drained : goal.returns-clause-drained
returns-clause-drained g c = λ setup w core keeps shows. (
  orders setup w false (sym (c.has_result.ensures setup w core keeps shows) ∙ c.if-has_result.false) (sym (c.has_event.ensures setup w core keeps shows) ∙ c.if-has_event.false) (sym (c.has_order.ensures setup w core keeps shows) ∙ c.if-has_order.false),
  keeps,
)
