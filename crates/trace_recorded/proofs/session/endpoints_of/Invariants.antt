-- What is left leads to the whole.
use Rattle.std.proofs.Common.{◌≡◌, [], drop}
use Rattle.trace_recorded.specs.Folds.{after}
use Rattle.trace_recorded.specs.Sessions.{with_endpoint}
use Rattle.trace_recorded.proofs.session.endpoints_of.Given as goal

abbrev pub invariant-loop-info : goal.invariant-loop-info
invariant-loop-info l = after with_endpoint l.endpoints (drop l.info-index l.infos) ≡ after with_endpoint [] l.infos
