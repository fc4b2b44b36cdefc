-- With what the endpoints took that are left it is all.
use Rattle.std.proofs.Common.{◌≡◌, ◌++◌, drop}
use Rattle.std.specs.List.{flat_map}
use Rattle.trace_recorded.specs.Sessions.{takes}
use Rattle.trace_recorded.proofs.session.taken_by.Given as goal

abbrev pub invariant-loop-endpoint : goal.invariant-loop-endpoint
invariant-loop-endpoint l = l.taken ++ flat_map takes (drop l.endpoint-index l.endpoints) ≡ flat_map takes l.endpoints
