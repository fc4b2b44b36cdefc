-- The entry tells the first order.
use Rattle.std.proofs.Common.{◌≡◌, ◌++◌, ap, subst, ◌∙◌}
use Rattle.std.specs.Prelude.{IfOk}
use Rattle.trace_left.specs.Gathered.{of_option}
use Rattle.trace_left.proofs.Gathers.{shown_reached}
use Rattle.trace_left.proofs.Turns.{order_said}
use Rattle.trace_left.proofs.gather.add_order.Goals as goal

pub returns-clause-world : goal.returns-clause-world
returns-clause-world g c = λ setup w shown. (c.call-entry.ensures.turned setup w shown).1

pub returns-clause-order : goal.returns-clause-order
returns-clause-order g c = λ setup w shown.
    let said = order_said setup w c.call-entry.result (shown_reached setup w c.args.core.now shown) (c.call-entry.ensures.turned setup w shown).0 in
    subst (λ o. IfOk c.add_if_any.result (λ _. c.add_if_any.new.left.items ≡ c.args.left.now.items ++ of_option o)) (c.order_left.ensures ∙ said) c.add_if_any.ensures
