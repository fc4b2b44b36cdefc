-- An event more, and the end.
use Rattle.std.proofs.Common.{◌≡◌, [], arith}
use Rattle.std.specs.Vec.Iter.{into_iter_items}
use Rattle.std.proofs.lemmas.List.{nil_from_length}
use Rattle.trace_recorded.specs.Devices.{with_device_event}
use Rattle.trace_recorded.proofs.Folded.{taken_next, taken_end}
use Rattle.trace_recorded.proofs.device.by_device.Goals as goal

pub loop-event-preserved : goal.loop-event-preserved
loop-event-preserved c = taken_next with_device_event c.loop-event.devices _ _ c.in-Some.event _ _ c.in-Some.ensures.steps.0 c.in_ok-put_event.ensures c.loop-event.invariant

pub returns : goal.returns
returns c =
    let none : into_iter_items c.loop-event.event-iterator ≡ [] = nil_from_length (into_iter_items c.loop-event.event-iterator) (omega (arith, c.loop-event.event-iterator.rest.ok.0, c.in-None.ensures.steps.0)) in
    taken_end with_device_event _ _ _ none c.loop-event.invariant
