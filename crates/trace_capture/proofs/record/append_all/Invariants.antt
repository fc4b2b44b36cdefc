-- The records of the events so far.
use Rattle.std.proofs.Common.{◌≡◌, take}
use Rattle.std.specs.List.{flat_map}
use Rattle.trace_capture.specs.Event.{event_bytes}
use Rattle.trace_capture.proofs.record.append_all.Given as goal

abbrev pub invariant-loop-event : goal.invariant-loop-event
invariant-loop-event l = l.records.items ≡ flat_map event_bytes (take l.event-index l.events)
