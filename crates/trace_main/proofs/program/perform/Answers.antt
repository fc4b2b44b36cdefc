-- A task over all that the input has.
use Rattle.trace_io.specs.declared.words.Task.TheVariants.{Alone, Capture, Check, Describe, Device, Devices, Explain, Left, Live, Packets, Run, Steps, Test}
use Rattle.trace_main.proofs.Begun.{bytes_begun}
use Rattle.trace_main.proofs.program.perform.Goals as goal

pub returns-in-Check-clause-begun : goal.returns-in-Check-clause-begun
returns-in-Check-clause-begun g c =
    bytes_begun (g.R.Read.remaining c.args.input.now) c.args.task Check c.as_slice-in-Check.result.now (g.W.Write.contents c.args.out.now) (g.W.Write.contents c.report.new.out)
    c.in-Check.is (rw c.as_slice-in-Check.ensures.value c.in_ok-text.ensures.whole) c.report.ensures.begun

pub returns-in-Test-clause-begun : goal.returns-in-Test-clause-begun
returns-in-Test-clause-begun g c =
    bytes_begun (g.R.Read.remaining c.args.input.now) c.args.task Test c.as_slice-in-Test.result.now (g.W.Write.contents c.args.out.now) (g.W.Write.contents c.run_test.new.out)
    c.in-Test.is (rw c.as_slice-in-Test.ensures.value c.in_ok-text.ensures.whole) c.run_test.ensures.begun

pub returns-in-Run-clause-begun : goal.returns-in-Run-clause-begun
returns-in-Run-clause-begun g c =
    bytes_begun (g.R.Read.remaining c.args.input.now) c.args.task Run c.as_slice.result.now (g.W.Write.contents c.args.out.now) (g.W.Write.contents c.entries.new.out)
    c.in-Run.is (rw c.as_slice.ensures.value c.in_ok-text.ensures.whole) c.entries.ensures.begun

pub returns-in-Left-clause-begun : goal.returns-in-Left-clause-begun
returns-in-Left-clause-begun g c =
    bytes_begun (g.R.Read.remaining c.args.input.now) c.args.task Left c.as_slice-in-Left.result.now (g.W.Write.contents c.args.out.now) (g.W.Write.contents c.left.new.out)
    c.in-Left.is (rw c.as_slice-in-Left.ensures.value c.in_ok-text.ensures.whole) c.left.ensures.begun

pub returns-in-Steps-clause-begun : goal.returns-in-Steps-clause-begun
returns-in-Steps-clause-begun g c =
    bytes_begun (g.R.Read.remaining c.args.input.now) c.args.task Steps c.as_slice-in-Steps.result.now (g.W.Write.contents c.args.out.now) (g.W.Write.contents c.steps.new.out)
    c.in-Steps.is (rw c.as_slice-in-Steps.ensures.value c.in_ok-text.ensures.whole) c.steps.ensures.begun

pub returns-in-Live-clause-begun : goal.returns-in-Live-clause-begun
returns-in-Live-clause-begun g c =
    bytes_begun (g.R.Read.remaining c.args.input.now) c.args.task (Live c.in-Live.rounds) c.as_slice-in-Live.result.now (g.W.Write.contents c.args.out.now) (g.W.Write.contents c.live.new.out)
    c.in-Live.is (rw c.as_slice-in-Live.ensures.value c.in_ok-text.ensures.whole) c.live.ensures.begun

pub returns-in-Capture-clause-begun : goal.returns-in-Capture-clause-begun
returns-in-Capture-clause-begun g c =
    bytes_begun (g.R.Read.remaining c.args.input.now) c.args.task Capture c.as_slice-in-Capture.result.now (g.W.Write.contents c.args.out.now) (g.W.Write.contents c.capture.new.out)
    c.in-Capture.is (rw c.as_slice-in-Capture.ensures.value c.in_ok-text.ensures.whole) c.capture.ensures.begun

pub returns-in-Devices-clause-begun : goal.returns-in-Devices-clause-begun
returns-in-Devices-clause-begun g c =
    bytes_begun (g.R.Read.remaining c.args.input.now) c.args.task (Devices c.in-Devices.reader) c.as_slice-in-Devices.result.now (g.W.Write.contents c.args.out.now) (g.W.Write.contents c.devices.new.out)
    c.in-Devices.is (rw c.as_slice-in-Devices.ensures.value c.in_ok-text.ensures.whole) c.devices.ensures.begun

pub returns-in-Device-clause-begun : goal.returns-in-Device-clause-begun
returns-in-Device-clause-begun g c =
    bytes_begun (g.R.Read.remaining c.args.input.now) c.args.task Device c.as_slice-in-Device.result.now (g.W.Write.contents c.args.out.now) (g.W.Write.contents c.device.new.out)
    c.in-Device.is (rw c.as_slice-in-Device.ensures.value c.in_ok-text.ensures.whole) c.device.ensures.begun

pub returns-clause-begun : goal.returns-clause-begun
returns-clause-begun g c =
    bytes_begun (g.R.Read.remaining c.args.input.now) c.args.task Describe c.as_slice-in-Describe.result.now (g.W.Write.contents c.args.out.now) (g.W.Write.contents c.describe.new.out)
    c.in-Describe.is (rw c.as_slice-in-Describe.ensures.value c.in_ok-text.ensures.whole) c.describe.ensures.begun

pub returns-in-Packets-clause-begun : goal.returns-in-Packets-clause-begun
returns-in-Packets-clause-begun g c =
    bytes_begun (g.R.Read.remaining c.args.input.now) c.args.task (Packets c.in-Packets.steps) c.as_slice-in-Packets.result.now (g.W.Write.contents c.args.out.now) (g.W.Write.contents c.packets.new.out)
    c.in-Packets.is (rw c.as_slice-in-Packets.ensures.value c.in_ok-text.ensures.whole) c.packets.ensures.begun

pub returns-in-Alone-clause-begun : goal.returns-in-Alone-clause-begun
returns-in-Alone-clause-begun g c =
    bytes_begun (g.R.Read.remaining c.args.input.now) c.args.task (Alone c.in-Alone.h) c.as_slice-in-Alone.result.now (g.W.Write.contents c.args.out.now) (g.W.Write.contents c.alone.new.out)
    c.in-Alone.is (rw c.as_slice-in-Alone.ensures.value c.in_ok-text.ensures.whole) c.alone.ensures.begun

pub returns-in-Explain-clause-begun : goal.returns-in-Explain-clause-begun
returns-in-Explain-clause-begun g c =
    bytes_begun (g.R.Read.remaining c.args.input.now) c.args.task Explain c.as_slice-in-Explain.result.now (g.W.Write.contents c.args.out.now) (g.W.Write.contents c.explain.new.out)
    c.in-Explain.is (rw c.as_slice-in-Explain.ensures.value c.in_ok-text.ensures.whole) c.explain.ensures.begun
