use Rattle.std.proofs.Common.{arith, ap, sym, ◌∙◌, length, ℕ}
use Rattle.std.proofs.lemmas.List.{length-map}
use Rattle.usb_trb.specs.declared.kind.TrbKind.TheVariants.{Normal}
use Rattle.usb_rings.specs.Memory.{puts}
use Rattle.usb_rings.specs.Line.{places, used, enqueue_of, pushed, normals}
use Rattle.usb_rings.specs.View.{Ring}
use Rattle.usb_rings.proofs.Views.{used-is, enqueue-is, pushed-is, pushed-sound}
use Rattle.usb_rings.proofs.Totals.{some-few}
use Rattle.usb_rings.proofs.transfer_ring.TransferRing.push.Goals as goal

pub push-requires : goal.push-requires
push-requires c =
    let few = some-few c.self.inside.counts c.self.invariant.some in
    let n = length c.args.trbs.now in
    let u = used-is c.self.inside.segment c.self.inside.enqueue c.self.inside.left c.self.inside.held c.self.inside.counts c.self.invariant.counted in
    let v = ap (λ (r : Ring). used r.line) c.self.view_is in
    omega (arith, c.requires.room, c.requires.some, c.self.invariant.counted)

pub invariant_of-self : goal.invariant_of-self
invariant_of-self c =
    let s = c.self.invariant in
    let u = used-is c.self.inside.segment c.self.inside.enqueue c.self.inside.left c.self.inside.held c.self.inside.counts s.counted in
    let v = ap (λ (r : Ring). used r.line) c.self.view_is in
    rw (c.write-self-inside.ensures.memory, c.write-self-inside.ensures.place, c.push.ensures)
    (pushed-sound c.self.inside.segment c.self.inside.enqueue c.self.inside.left c.self.inside.held (length c.args.trbs.now) c.self.inside.counts (normals c.args.trbs.now)
    s (length-map c.args.trbs.now Normal) c.write-self-inside.ensures.ranges c.requires.some
    (omega (arith, c.requires.room)) (omega (arith, c.requires.room)))

pub returns-clause-line : goal.returns-clause-line
returns-clause-line c =
    let s = c.self.invariant in
    let u = used-is c.self.inside.segment c.self.inside.enqueue c.self.inside.left c.self.inside.held c.self.inside.counts s.counted in
    let v = ap (λ (r : Ring). used r.line) c.self.view_is in
    rw (c.write-self-inside.ensures.memory, c.write-self-inside.ensures.place, c.push.ensures)
    (pushed-is c.self.inside.segment c.self.inside.enqueue c.self.inside.left c.self.inside.held (length c.args.trbs.now) c.self.inside.counts (normals c.args.trbs.now)
    s (length-map c.args.trbs.now Normal) c.write-self-inside.ensures.ranges
    (omega (arith, c.requires.room)) (omega (arith, c.requires.room))
    ∙ ap (λ (r : Ring). pushed r.line (normals c.args.trbs.now)) c.self.view_is)

pub returns-clause-memory : goal.returns-clause-memory
returns-clause-memory c =
    let s = c.self.invariant in
    let e = enqueue-is c.self.inside.segment c.self.inside.enqueue c.self.inside.left c.self.inside.held c.self.inside.counts s.place s.left_fits s.held_fits s.counted in
    c.write-self-inside.ensures.memory
    ∙ ap (λ (q : ℕ). puts places c.self.inside.segment q (normals c.args.trbs.now)) (sym e)
    ∙ ap (λ (r : Ring). puts places r.memory (enqueue_of r.line) (normals c.args.trbs.now)) c.self.view_is
