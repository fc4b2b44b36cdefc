-- With the comments on the endpoints that are left they are all.
use Rattle.std.proofs.Common.{◌≡◌, ◌++◌, drop}
use Rattle.std.specs.List.{flat_map}
use Rattle.trace_descriptor.specs.Lines.{endpoint_comments}
use Rattle.trace_descriptor.proofs.text.DescriptorText.put_endpoints.Given as goal

abbrev pub invariant-loop-info : goal.invariant-loop-info
invariant-loop-info l = l.self ++ flat_map (endpoint_comments l.number) (drop l.info-index l.endpoints) ≡ l.fn.self ++ flat_map (endpoint_comments l.number) l.endpoints
