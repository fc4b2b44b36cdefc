-- One line more each turn.
use Rattle.std.proofs.Common.{refl, ◌∙◌}
use Rattle.trace_capture.specs.Events.{devices_after}
use Rattle.trace_run.proofs.Captured.{front_more, kept_more}
use Rattle.trace_run.proofs.capture.front_of.Goals as goal

pub loop-described-init : goal.loop-described-init
unfolding devices_after
loop-described-init c = record { written = c.in_ok-bytes.ensures.items ∙ c.file_header.ensures; kept = refl }

pub loop-described-preserved : goal.loop-described-preserved
loop-described-preserved c = record {
  written =
      front_more c.args.devices.now c.loop-described.described-index c.described-item.result c.loop-described.bytes.items c.add_device.new.bytes.items
      c.loop-described-test.true c.described-item.is c.loop-described.invariant.written c.in_ok-add_device.ensures.records;
  kept =
      kept_more c.args.devices.now c.loop-described.described-index c.described-item.result c.args.recorder.now c.loop-described.recorder c.add_device.new.recorder
      c.loop-described-test.true c.described-item.is c.loop-described.invariant.kept c.in_ok-add_device.ensures.after;
}
