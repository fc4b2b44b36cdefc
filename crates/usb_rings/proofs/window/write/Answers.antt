use Rattle.std.proofs.Common.{sym, ◌∙◌, arith, ap, drop, ◌+◌}
use Rattle.usb_rings.specs.Memory.{Memory, puts}
use Rattle.usb_rings.specs.Line.{places, normals}
use Rattle.usb_rings.proofs.Writes.{puts-next, puts-end, ranges-more}
use Rattle.usb_rings.proofs.window.write.Goals as goal

pub loop-trb-preserved : goal.loop-trb-preserved
loop-trb-preserved c =
    let h = c.loop-trb.invariant in
    record {
      place = omega (arith, h.place, c.place_after-at.ensures.value);
      at = omega (arith, h.at, c.place_after-at.ensures.value);
      rest =
          ap (λ (m : Memory). puts places m c.place_after-at.result (normals (drop (c.loop-trb.trb-index + 1) c.args.trbs.now))) c.put.ensures.put
          ∙ puts-next c.loop-trb.segment c.loop-trb.at c.place_after-at.result c.loop-trb.trb-index c.args.trbs.now c.trb-item.result c.loop-trb-test.true c.trb-item.is
          c.place_after-at.ensures.value
          ∙ h.rest;
      ranges = ranges-more c.args.trbs.now c.loop-trb.trb-index c.trb-item.result c.loop-trb-test.true c.trb-item.is c.put.ensures.ranges h.ranges;
    }

pub returns-clause-memory : goal.returns-clause-memory
returns-clause-memory c =
    sym (puts-end c.loop-trb.segment c.loop-trb.at c.loop-trb.trb-index c.args.trbs.now c.loop-trb-test.false) ∙ c.loop-trb.invariant.rest
