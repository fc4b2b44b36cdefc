-- The endpoints so far are listed.
use Rattle.std.proofs.Common.{◌≡◌, take}
use Rattle.trace_explain.specs.Endpoints.{listed}
use Rattle.trace_explain.proofs.endpoints.EndpointList.of.Given as goal

abbrev pub invariant-loop-info : goal.invariant-loop-info
invariant-loop-info l = l.list ≡ listed (take l.info-index l.infos)
