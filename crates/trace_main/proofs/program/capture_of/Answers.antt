-- The run's capture is that of the text.
use Rattle.std.proofs.Common.{◌≡◌, map, refl}
use Rattle.trace_scenario.specs.DeviceLines.{device_lines}
use Rattle.trace_scenario.specs.StepLines.{numbered, step_lines}
use Rattle.trace_main.specs.Source.{text_in}
use Rattle.trace_main.proofs.Reports.{captured}
use Rattle.trace_main.proofs.program.capture_of.Goals as goal

pub returns-clause-ends : goal.returns-clause-ends
returns-clause-ends g c =
    let src = c.args.source.now in
    let devices : c.as_slice.result.now ≡ device_lines (text_in src) = cc (c.as_slice.ensures.value, c.in_ok-scenario.ensures.devices) in
    let lines : map numbered c.as_slice-2.result.now ≡ step_lines (text_in src) = cc (c.as_slice-2.ensures.value, c.in_ok-scenario.ensures.lines) in
    captured src.given src c.in_ok-scenario.field-0.scenario (g.W.Write.contents c.args.out.now) (g.W.Write.contents c.capture_run.new.out) c.capture_run.result
    refl c.requires.stands c.in_ok-scenario.ensures.scenario c.requires.short (rw (devices, lines) at c.capture_run.ensures.file) c.capture_run.ensures.good c.capture_run.ensures.fault
