use Rattle.std.proofs.Common.{◌≡◌, ◌<◌, ◌+◌, ◌%◌, arith, ap, sym, ◌∙◌, length, take, get_or, replicate, [], ℕ}
use Rattle.usb_trb.specs.declared.kind.TrbKind.TheVariants.{NoOp}
use Rattle.usb_rings.specs.Memory.{puts}
use Rattle.usb_rings.proofs.Cells.{puts-same}
use Rattle.usb_rings.proofs.Lists.{length-kinds}
use Rattle.usb_rings.specs.Line.{places, place_of, blanked}
use Rattle.usb_rings.specs.View.{Ring, line_in, split, total, back}
use Rattle.usb_rings.proofs.ItemsTrbs.{some-places, length-split, item-split}
use Rattle.usb_rings.proofs.Changes.{place-is, blanked-is, blanked-sound}
use Rattle.usb_rings.proofs.Totals.{total-part, item-part}
use Rattle.usb_rings.proofs.transfer_ring.TransferRing.blank.Goals as goal

pub before-requires-clause-item : goal.before-requires-clause-item
before-requires-clause-item c =
    let n = length-split c.self.inside.segment (back c.self.inside.enqueue c.self.inside.held) c.self.inside.counts in
    let v = ap (λ (r : Ring). length r.line.items) c.self.view_is in
    omega (arith, c.requires)

pub place_after-place-requires-clause-count : goal.place_after-place-requires-clause-count
place_after-place-requires-clause-count c =
    let part = total-part c.self.inside.counts c.args.item in
    omega (arith, c.self.invariant.counted, c.self.invariant.held_fits, c.before-2.ensures)

pub get-requires : goal.get-requires
get-requires c =
    let n = length-split c.self.inside.segment (back c.self.inside.enqueue c.self.inside.held) c.self.inside.counts in
    let v = ap (λ (r : Ring). length r.line.items) c.self.view_is in
    omega (arith, c.requires)

pub write_no_ops-requires-clause-few : goal.write_no_ops-requires-clause-few
write_no_ops-requires-clause-few c =
    let part = item-part c.self.inside.counts c.args.item in
    omega (arith, c.self.invariant.counted, c.self.invariant.held_fits, c.get.ensures, c.from-count.ensures)

pub invariant_of-self : goal.invariant_of-self
invariant_of-self c =
    let s = c.self.invariant in
    let n = length-split c.self.inside.segment (back c.self.inside.enqueue c.self.inside.held) c.self.inside.counts in
    let v = ap (λ (r : Ring). length r.line.items) c.self.view_is in
    let lt : c.args.item < length c.self.inside.counts = omega (arith, c.requires) in
    let at : c.place_after-place.result % 254 ≡ (back c.self.inside.enqueue c.self.inside.held + total (take c.args.item c.self.inside.counts)) % 254 =
    omega (arith, c.place_after-place.ensures.value, c.place_before-first.ensures.value, c.before-2.ensures, s.held_fits) in
    let new : c.write_no_ops.new.segment ≡ puts places c.self.inside.segment c.place_after-place.result (replicate (get_or c.self.inside.counts c.args.item 0) NoOp) =
    c.write_no_ops.ensures ∙ ap (λ (k : ℕ). puts places c.self.inside.segment c.place_after-place.result (replicate k NoOp)) (c.from-count.ensures ∙ c.get.ensures) in
    rw new (blanked-sound c.self.inside.segment c.self.inside.enqueue c.self.inside.left c.self.inside.held c.args.item c.place_after-place.result c.self.inside.counts s lt at)

pub returns-clause-line : goal.returns-clause-line
returns-clause-line c =
    let s = c.self.invariant in
    let n = length-split c.self.inside.segment (back c.self.inside.enqueue c.self.inside.held) c.self.inside.counts in
    let v = ap (λ (r : Ring). length r.line.items) c.self.view_is in
    let lt : c.args.item < length c.self.inside.counts = omega (arith, c.requires) in
    let at : c.place_after-place.result % 254 ≡ (back c.self.inside.enqueue c.self.inside.held + total (take c.args.item c.self.inside.counts)) % 254 =
    omega (arith, c.place_after-place.ensures.value, c.place_before-first.ensures.value, c.before-2.ensures, s.held_fits) in
    let new : c.write_no_ops.new.segment ≡ puts places c.self.inside.segment c.place_after-place.result (replicate (get_or c.self.inside.counts c.args.item 0) NoOp) =
    c.write_no_ops.ensures ∙ ap (λ (k : ℕ). puts places c.self.inside.segment c.place_after-place.result (replicate k NoOp)) (c.from-count.ensures ∙ c.get.ensures) in
    rw new
    (blanked-is c.self.inside.segment c.self.inside.enqueue c.self.inside.left c.self.inside.held c.args.item c.place_after-place.result c.self.inside.counts s lt at ∙ ap (λ (r : Ring). blanked r.line c.args.item) c.self.view_is)

pub returns-clause-memory : goal.returns-clause-memory
returns-clause-memory c =
    let s = c.self.invariant in
    let n = length-split c.self.inside.segment (back c.self.inside.enqueue c.self.inside.held) c.self.inside.counts in
    let v = ap (λ (r : Ring). length r.line.items) c.self.view_is in
    let lt : c.args.item < length c.self.inside.counts = omega (arith, c.requires) in
    let at : c.place_after-place.result % 254 ≡ (back c.self.inside.enqueue c.self.inside.held + total (take c.args.item c.self.inside.counts)) % 254 =
    omega (arith, c.place_after-place.ensures.value, c.place_before-first.ensures.value, c.before-2.ensures, s.held_fits) in
    let new : c.write_no_ops.new.segment ≡ puts places c.self.inside.segment c.place_after-place.result (replicate (get_or c.self.inside.counts c.args.item 0) NoOp) =
    c.write_no_ops.ensures ∙ ap (λ (k : ℕ). puts places c.self.inside.segment c.place_after-place.result (replicate k NoOp)) (c.from-count.ensures ∙ c.get.ensures) in
    let place : place_of (line_in c.self.inside.segment c.self.inside.enqueue c.self.inside.left c.self.inside.held c.self.inside.counts) c.args.item ≡ (back c.self.inside.enqueue c.self.inside.held + total (take c.args.item c.self.inside.counts)) % 254 =
    place-is c.self.inside.segment c.self.inside.enqueue c.self.inside.left c.self.inside.held c.self.inside.counts c.args.item s.place s.left_fits s.held_fits s.counted in
    let long : length (get_or (split c.self.inside.segment (back c.self.inside.enqueue c.self.inside.held) c.self.inside.counts) c.args.item []) ≡ get_or c.self.inside.counts c.args.item 0 =
    ap length (item-split c.self.inside.segment (back c.self.inside.enqueue c.self.inside.held) c.self.inside.counts c.args.item)
    ∙ length-kinds places c.self.inside.segment (back c.self.inside.enqueue c.self.inside.held + total (take c.args.item c.self.inside.counts)) (get_or c.self.inside.counts c.args.item 0) in
    new
    ∙ puts-same places c.self.inside.segment c.place_after-place.result (place_of (line_in c.self.inside.segment c.self.inside.enqueue c.self.inside.left c.self.inside.held c.self.inside.counts) c.args.item) (replicate (get_or c.self.inside.counts c.args.item 0) NoOp) some-places (omega arith)
    ∙ ap (λ (k : ℕ). puts places c.self.inside.segment (place_of (line_in c.self.inside.segment c.self.inside.enqueue c.self.inside.left c.self.inside.held c.self.inside.counts) c.args.item) (replicate k NoOp)) (sym long)
    ∙ ap (λ (r : Ring). puts places r.memory (place_of r.line c.args.item) (replicate (length (get_or r.line.items c.args.item [])) NoOp)) c.self.view_is
