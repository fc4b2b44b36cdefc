-- Their addresses.
use Rattle.std.proofs.Common.{ap, ◌∙◌, arith}
use Rattle.std.proofs.lemmas.List.{take_all}
use Rattle.trace_explain.specs.Endpoints.{addresses_in, listed}
use Rattle.trace_explain.proofs.Listed.{addresses_listed}
use Rattle.trace_explain.proofs.endpoints.EndpointList.of.Goals as goal

pub returns-clause-addresses : goal.returns-clause-addresses
returns-clause-addresses c =
    ap addresses_in (c.loop-info.invariant ∙ ap listed (take_all c.loop-info.info-index c.args.infos.now (omega arith)))
    ∙ addresses_listed c.args.infos.now
