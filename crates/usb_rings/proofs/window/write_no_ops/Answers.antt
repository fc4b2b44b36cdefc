use Rattle.std.proofs.Common.{sym, ◌∙◌, arith, ap, replicate, ◌-◌}
use Rattle.usb_trb.specs.declared.kind.TrbKind.TheVariants.{NoOp}
use Rattle.usb_rings.specs.Line.{places}
use Rattle.usb_rings.specs.Memory.{Memory, puts}
use Rattle.usb_rings.proofs.Puts.{puts-one, puts-none}
use Rattle.usb_rings.proofs.ItemsTrbs.{some-places}
use Rattle.usb_rings.proofs.Writes.{next-place, replicate-one, replicate-none}
use Rattle.usb_rings.proofs.window.write_no_ops.Goals as goal

pub loop-rest-preserved : goal.loop-rest-preserved
loop-rest-preserved c =
    let h = c.loop-rest.invariant in
    record {
      place = omega (arith, h.place, c.place_after-at.ensures.value);
      written =
          ap (λ (m : Memory). puts places m c.place_after-at.result (replicate (c.loop-rest.rest - 1) NoOp)) c.put.ensures.put
          ∙ puts-one places c.loop-rest.segment c.loop-rest.at c.place_after-at.result NoOp (replicate (c.loop-rest.rest - 1) NoOp) some-places
          (next-place c.loop-rest.at c.place_after-at.result c.place_after-at.ensures.value)
          ∙ ap (puts places c.loop-rest.segment c.loop-rest.at) (sym (replicate-one c.loop-rest.rest c.loop-rest-test.true))
          ∙ h.written;
    }

pub returns : goal.returns
returns c =
    sym (ap (puts places c.loop-rest.segment c.loop-rest.at) (replicate-none c.loop-rest.rest c.loop-rest-test.false) ∙ puts-none places c.loop-rest.segment c.loop-rest.at)
    ∙ c.loop-rest.invariant.written
