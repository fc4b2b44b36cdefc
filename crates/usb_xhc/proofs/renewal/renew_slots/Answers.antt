-- One device more.
use Rattle.std.proofs.Common.{arith}
use Rattle.std.proofs.lemmas.Option.{slice_get_within}
use Rattle.usb_xhc.specs.Slots.{slot_renewed}
use Rattle.usb_xhc.proofs.Renewed.{change_at, laws_next}
use Rattle.usb_xhc.proofs.renewal.renew_slots.Goals as goal

pub loop-slot-preserved : goal.loop-slot-preserved
loop-slot-preserved g c = (
  change_at slot_renewed c.args.slots.now c.loop-slot.slots c.loop-slot.slot-index c.slot-item.result c.renew_all.new.self c.loop-slot-test.true c.loop-slot.invariant.0 c.renew_all.ensures.slot,
  laws_next c.loop-slot.slots c.loop-slot.slot-index c.renew_all.new.self c.renew_all.ensures.lawful c.loop-slot.invariant.1,
)

pub returns-clause-lawful : goal.returns-clause-lawful
returns-clause-lawful g c = λ d s there.
    let within = slice_get_within c.loop-slot.slots d s there in
    c.loop-slot.invariant.1 d s (omega (arith, within, c.loop-slot-test.false, c.loop-slot.auto.slots)) there
