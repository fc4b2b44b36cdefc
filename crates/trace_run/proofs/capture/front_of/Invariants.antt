-- The devices' lines so far.
use Rattle.std.proofs.Common.{◌≡◌, map, take}
use Rattle.trace_capture.specs.Event.{file_bytes}
use Rattle.trace_capture.specs.Events.{devices_after}
use Rattle.trace_run.specs.Capture.{device_line, devices_events}
use Rattle.trace_run.proofs.capture.front_of.Given as goal

abbrev pub invariant-loop-described : goal.invariant-loop-described
invariant-loop-described l = record {
  written : l.bytes.items ≡ file_bytes (devices_events (map device_line (take l.described-index l.devices)));
  kept : l.recorder ≡ devices_after l.initial.recorder (map device_line (take l.described-index l.devices));
}
