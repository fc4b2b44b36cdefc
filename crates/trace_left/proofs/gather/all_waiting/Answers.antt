-- The orders, then the events that waited before, then the results.
use Rattle.std.proofs.Common.{◌++◌, ◌∙◌, ap, map, subst}
use Rattle.trace_left.specs.Gathered.{TakesOrders, result_of}
use Rattle.trace_left.proofs.Gathers.{waiting_is}
use Rattle.trace_left.proofs.gather.all_waiting.Goals as goal

pub returns : goal.returns
returns g c = λ setup w shown.
    let orders = c.orders_waiting-orders.result in
    let o = subst (λ l. TakesOrders setup w c.add_orders.new.core orders l c.add_orders.new.left.items) c.new-left.ensures.items (c.in_ok-add_orders.ensures setup w shown) in
    waiting_is setup w c.add_orders.new.core orders c.events_waiting-events.result c.add_orders.new.left.items c.add_events.new.left.items c.add_results.new.left.items c.append.new.self.items
    (c.orders_waiting-orders.ensures setup w shown) (c.events_waiting-events.ensures setup w shown) o (c.in_ok-add_events.ensures setup o.world o.shown)
    (c.in_ok-add_results.ensures setup w shown ∙ ap (λ l. l ++ map result_of w.results) c.new-results.ensures.items) c.in_ok-append.ensures.items
