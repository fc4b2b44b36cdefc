-- One more saw it.
use Rattle.std.proofs.Common.{ap, sym, ◌∙◌}
use Rattle.std.specs.Prelude.{slice_set}
use Rattle.std.proofs.lemmas.List.Edits.{map_over_more}
use Rattle.trace_recorded.specs.declared.endpoint.RecordedEndpoint.{RecordedEndpoint}
use Rattle.trace_recorded.specs.Endpoints.{with_event}
use Rattle.trace_recorded.proofs.session.read_all.Goals as goal

pub loop-endpoint-preserved : goal.loop-endpoint-preserved
loop-endpoint-preserved c =
    ap (slice_set c.loop-endpoint.endpoints c.loop-endpoint.endpoint-index) c.in_ok-read.ensures
    ∙ ap (λ (x : RecordedEndpoint). slice_set c.loop-endpoint.endpoints c.loop-endpoint.endpoint-index (with_event c.args.taken.now c.args.event.now x)) (sym c.endpoint-item.is)
    ∙ map_over_more (with_event c.args.taken.now c.args.event.now) c.args.endpoints.now c.loop-endpoint.endpoints c.loop-endpoint.endpoint-index c.endpoint-item.result c.loop-endpoint-test.true c.loop-endpoint.invariant c.endpoint-item.is
