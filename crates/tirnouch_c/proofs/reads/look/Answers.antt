-- What is to be done at an endpoint.
use Rattle.tirnouch_c.proofs.Looks.{looked}
use Rattle.tirnouch_c.proofs.reads.look.Goals as goal

pub returns : goal.returns
returns c = looked c.args.dev c.args.ep c.args.session.now c.new.result c.has_packet-packet.result c.has_order-order.result c.has_event-event.result c.has_result-outcome.result c.is_halted-is_halted.result c.answers_left-left.result c.new.ensures c.has_packet-packet.ensures c.has_order-order.ensures c.has_event-event.ensures c.has_result-outcome.ensures c.is_halted-is_halted.ensures c.answers_left-left.ensures
