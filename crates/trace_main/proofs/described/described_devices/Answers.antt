-- What stands behind status 1, by how the run ends.
use Rattle.trace_main.proofs.OneDevice.{described_told}
use Rattle.trace_main.proofs.described.described_devices.Goals as goal

pub returns-clause-told : goal.returns-clause-told
returns-clause-told g c =
    described_told c.args.reader c.args.choice.now (g.R.Read.remaining c.args.input.now) (g.W.Write.contents c.args.out.now) (g.W.Write.contents c.perform-ended.new.out)
    (g.E.Write.contents c.args.err.now) (g.E.Write.contents c.status_of.new.err) c.perform-ended.result c.status_of.result
    c.perform-ended.ensures.ending c.perform-ended.ensures.ends c.status_of.ensures.quiet c.status_of.ensures.told c.status_of.ensures.status
