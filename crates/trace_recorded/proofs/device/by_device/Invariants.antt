-- The events that are left lead to the whole.
use Rattle.std.proofs.Common.{◌≡◌}
use Rattle.std.specs.Vec.Iter.{into_iter_items}
use Rattle.trace_recorded.specs.Devices.{by_device, with_device_event}
use Rattle.trace_recorded.specs.Folds.{after}
use Rattle.trace_recorded.proofs.device.by_device.Given as goal

abbrev pub invariant-loop-event : goal.invariant-loop-event
invariant-loop-event l = after with_device_event l.devices (into_iter_items l.event-iterator) ≡ by_device l.fn.events
