-- None at first, and one more each time.
use Rattle.trace_recorded.proofs.Joined.{notes_none, notes_more}
use Rattle.trace_recorded.proofs.text.ScenarioText.put_others.Goals as goal

pub loop-ep-init : goal.loop-ep-init
loop-ep-init c = notes_none c.args.self.now c.args.others.now

pub loop-ep-preserved : goal.loop-ep-preserved
loop-ep-preserved c = notes_more c.args.self.now c.loop-ep.self c.put_other.new.self c.args.others.now c.loop-ep.ep c.loop-ep.invariant c.in_ok-put_other.ensures
