-- An order further each turn.
use Rattle.trace_left.proofs.Gathers.{all_orders, no_orders_yet, one_order_more}
use Rattle.trace_left.proofs.gather.add_orders.Goals as goal

pub loop-turn-init : goal.loop-turn-init
loop-turn-init g c = λ setup w shown. no_orders_yet setup w c.args.core.now c.args.count c.args.left.now.items shown

pub loop-turn-preserved : goal.loop-turn-preserved
loop-turn-preserved g c = λ setup w shown.
    one_order_more setup w c.loop-turn.core c.add_order.new.core c.args.count c.loop-turn.turn c.args.left.now.items c.loop-turn.left.items c.add_order.new.left.items c.loop-turn-test.true (c.loop-turn.invariant setup w shown)
    c.add_order.ensures.world c.in_ok-add_order.ensures.order

pub returns : goal.returns
returns g c = λ setup w shown. all_orders setup w c.loop-turn.core c.args.count c.loop-turn.turn c.args.left.now.items c.loop-turn.left.items c.loop-turn-test.false (c.loop-turn.invariant setup w shown)
