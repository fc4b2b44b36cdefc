-- An event further each turn.
use Rattle.trace_left.proofs.Gathers.{all_events, no_events_yet, one_event_more}
use Rattle.trace_left.proofs.gather.add_events.Goals as goal

pub loop-turn-init : goal.loop-turn-init
loop-turn-init g c = λ setup w shown. no_events_yet setup w c.args.core.now c.args.count c.args.left.now.items shown

pub loop-turn-preserved : goal.loop-turn-preserved
loop-turn-preserved g c = λ setup w shown.
    one_event_more setup w c.loop-turn.core c.add_event.new.core c.args.count c.loop-turn.turn c.args.left.now.items c.loop-turn.left.items c.add_event.new.left.items c.loop-turn-test.true (c.loop-turn.invariant setup w shown)
    c.add_event.ensures.world c.in_ok-add_event.ensures.event

pub returns : goal.returns
returns g c = λ setup w shown. all_events setup w c.loop-turn.core c.args.count c.loop-turn.turn c.args.left.now.items c.loop-turn.left.items c.loop-turn-test.false (c.loop-turn.invariant setup w shown)
