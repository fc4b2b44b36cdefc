-- One call behind the other.
use Rattle.std.proofs.Common.{rules}
use Rattle.tirnouch_c.specs.Turn.{Works}
use Rattle.tirnouch_c.proofs.turn.work.Goals as goal

pub returns : goal.returns
returns c =
    let made : Works c.args.dev c.args.ep c.args.packets c.args.steps c.take.result c.take.new.out c.args.back.now c.take.new.back c.args.session.now c.take.new.session = record {
      behind_packets = c.serve.new.session;
      behind_steps = c.settle.new.session;
      served = c.serve.new.reply;
      settled = c.settle.new.progress;
      serves = c.serve.ensures;
      settles = c.settle.ensures;
      takes = c.take.ensures;
    } in
    search rules
