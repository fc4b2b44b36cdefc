-- Each endpoint is rewound once.
use Rattle.std.proofs.Common.{refl, arith}
use Rattle.usb_xhc.proofs.Renewed.{rewinds_all, rewinds_next}
use Rattle.usb_xhc.proofs.renewal.rewind.Goals as goal

pub loop-id-init : goal.loop-id-init
loop-id-init g c = (refl, λ some. absurd (omega (arith, some)))

pub loop-id-preserved : goal.loop-id-preserved
loop-id-preserved g c = (
  rewinds_next (g.D.Device.pipes c.args.device.now) (g.D.Device.pipes c.loop-id.device) (g.D.Device.pipes c.rewind.new.self) c.loop-id.id c.new.result c.loop-id-test.true c.new.ensures c.loop-id.invariant.0 c.rewind.ensures.lawful c.rewind.ensures.pipes,
  λ some. c.rewind.ensures.lawful,
)

pub returns-clause-pipes : goal.returns-clause-pipes
returns-clause-pipes g c = rewinds_all (g.D.Device.pipes c.args.device.now) (g.D.Device.pipes c.loop-id.device) c.loop-id.id c.loop-id-test.false c.loop-id.auto.id-end c.loop-id.invariant.0 (c.loop-id.invariant.1 (omega (arith, c.loop-id-test.false)))

pub returns-clause-lawful : goal.returns-clause-lawful
returns-clause-lawful g c = c.loop-id.invariant.1 (omega (arith, c.loop-id-test.false))
