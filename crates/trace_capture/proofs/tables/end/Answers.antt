-- One more is changed.
use Rattle.std.proofs.Common.{ap, sym, ◌∙◌}
use Rattle.std.specs.Prelude.{slice_set}
use Rattle.std.proofs.lemmas.List.Edits.{map_over_more}
use Rattle.trace_capture.specs.declared.transfer.Tracked.{Tracked}
use Rattle.trace_capture.specs.Events.{with_code}
use Rattle.trace_capture.proofs.tables.end.Goals as goal

pub loop-x-preserved : goal.loop-x-preserved
loop-x-preserved c =
    ap (slice_set c.loop-x.tracked c.loop-x.x-index) c.end.ensures
    ∙ ap (λ (x : Tracked). slice_set c.loop-x.tracked c.loop-x.x-index (with_code c.args.h c.args.n c.args.code x)) (sym c.x-item.is)
    ∙ map_over_more (with_code c.args.h c.args.n c.args.code) c.args.tracked.now c.loop-x.tracked c.loop-x.x-index c.x-item.result c.loop-x-test.true c.loop-x.invariant c.x-item.is
