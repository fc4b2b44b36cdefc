-- A record more; and at the end the rest begins none.
use Rattle.std.proofs.Common.{◌≡◌, ◌==◌, length, sym, ap, ◌∙◌}
use Rattle.std.specs.Prelude.{not}
use Rattle.trace_recorded.specs.declared.recording.Recording.{Recording}
use Rattle.trace_recorded.proofs.FilesRead.{record_next, records_end}
use Rattle.trace_recorded.proofs.pcap.records.Goals as goal

pub records-preserved : goal.records-preserved
records-preserved c =
    record_next _ _ _ c.records.frame _ c.records.events _ c.records.rest.now _ c.record_size-size.result (sym c.begins_with_record.ensures ∙ c.records-test.true) c.record_size-size.ensures
    c.in_ok-push_event.ensures c.next_frame-frame.ensures c.past-rest.ensures c.records.invariant

pub returns : goal.returns
returns c =
    let cut : not c.is_empty-is_cut.result ≡ not (length c.records.rest.now == 0) = ap not c.is_empty-is_cut.ensures in
    ap (λ b. record { events = c.records.events; is_cut = b }) cut
    ∙ records_end c.args.order c.args.header _ c.records.frame c.records.events c.records.rest.now (sym c.begins_with_record.ensures ∙ c.records-test.false) c.records.invariant
