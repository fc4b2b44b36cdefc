-- The first ones saw it, the others not yet.
use Rattle.std.proofs.Common.{◌≡◌, ◌++◌, take, drop, map}
use Rattle.trace_recorded.specs.Endpoints.{with_event}
use Rattle.trace_recorded.proofs.session.read_all.Given as goal

abbrev pub invariant-loop-endpoint : goal.invariant-loop-endpoint
invariant-loop-endpoint l = l.endpoints ≡ map (with_event l.taken l.event) (take l.endpoint-index l.fn.endpoints) ++ drop l.endpoint-index l.fn.endpoints
