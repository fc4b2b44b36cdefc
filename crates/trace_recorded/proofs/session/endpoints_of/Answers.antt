-- An endpoint more, and the end.
use Rattle.std.proofs.Common.{arith}
use Rattle.trace_recorded.specs.Sessions.{with_endpoint}
use Rattle.trace_recorded.proofs.Folded.{fold_next, fold_end}
use Rattle.trace_recorded.proofs.session.endpoints_of.Goals as goal

pub loop-info-preserved : goal.loop-info-preserved
loop-info-preserved c = fold_next with_endpoint c.loop-info.endpoints _ _ c.args.infos.now c.loop-info.info-index c.info-item.result c.loop-info-test.true c.info-item.is c.in_ok-push_endpoint.ensures c.loop-info.invariant

pub returns : goal.returns
returns c = fold_end with_endpoint _ _ c.args.infos.now c.loop-info.info-index (omega arith) c.loop-info.invariant
