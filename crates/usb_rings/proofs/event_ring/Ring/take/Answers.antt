use Rattle.std.proofs.Common.{◌≡◌, ◌<◌, ◌∷◌, ℕ, ap, sym, ◌∙◌, refl, arith, length}
use Rattle.std.proofs.lemmas.Bool.{true≢false}
use Rattle.usb_trb.specs.declared.kind.TrbKind.{TrbKind}
use Rattle.usb_trb.specs.declared.trb.Trb.{Trb}
use Rattle.usb_rings.specs.Places.{after, index_of}
use Rattle.usb_rings.specs.Memory.{kind_at, trb_at}
use Rattle.usb_rings.specs.Written.{kinds}
use Rattle.usb_rings.specs.Ring.{Ring, between, dequeue_of}
use Rattle.usb_rings.proofs.Rings.{bits-differ, bits-same, stale-none, new-some, first-cell, taken-waits, taken-sound, dequeue-is, length-waits}
use Rattle.usb_rings.proofs.event_ring.Ring.take.Goals as goal

pub returns-then-cycle_at-cycle-clause-empty : goal.returns-then-cycle_at-cycle-clause-empty
returns-then-cycle_at-cycle-clause-empty g c =
    let r = c.self.inside in
    let none : between g.row.N r.dequeue r.enqueue ≡ 0 =
    stale-none g.row.N r.segment r.enqueue r.dequeue c.self.invariant
    (λ e. bits-differ c.cycle_at.result c.cycle.result c.if-cycle_at-cycle.true (c.cycle_at.ensures ∙ e ∙ sym c.cycle.ensures)) in
    (λ _. sym (ap (λ (x : Ring). x.waits) c.self.view_is) ∙ ap (kinds g.row.N r.segment r.dequeue) none, λ _. refl)

pub invariant_of-self : goal.invariant_of-self
invariant_of-self g c =
    let r = c.self.inside in
    let some : 0 < between g.row.N r.dequeue r.enqueue =
    new-some g.row.N r.segment r.enqueue r.dequeue c.self.invariant
    (sym c.cycle_at.ensures ∙ bits-same c.cycle_at.result c.cycle.result c.if-cycle_at-cycle.false ∙ c.cycle.ensures) in
    rw c.place_after-next.ensures.value (taken-sound g.row.N r.segment r.enqueue r.dequeue c.self.invariant some)

pub returns-in-Ok-clause-empty : goal.returns-in-Ok-clause-empty
returns-in-Ok-clause-empty g c =
    let r = c.self.inside in
    let some : 0 < between g.row.N r.dequeue r.enqueue =
    new-some g.row.N r.segment r.enqueue r.dequeue c.self.invariant
    (sym c.cycle_at.ensures ∙ bits-same c.cycle_at.result c.cycle.result c.if-cycle_at-cycle.false ∙ c.cycle.ensures) in
    let long : length c.args.self.now.waits ≡ between g.row.N r.dequeue r.enqueue =
    sym (ap (λ (x : Ring). length x.waits) c.self.view_is) ∙ length-waits g.row.N r.segment r.enqueue r.dequeue in
    (λ h. absurd (true≢false h), λ h. let none : length c.args.self.now.waits ≡ 0 = ap length h in absurd (omega (arith, long, some, none)))

pub returns-in-Ok-clause-first : goal.returns-in-Ok-clause-first
returns-in-Ok-clause-first g c =
    let r = c.self.inside in
    let some : 0 < between g.row.N r.dequeue r.enqueue =
    new-some g.row.N r.segment r.enqueue r.dequeue c.self.invariant
    (sym c.cycle_at.ensures ∙ bits-same c.cycle_at.result c.cycle.result c.if-cycle_at-cycle.false ∙ c.cycle.ensures) in
    let at = first-cell g.row.N r.segment r.enqueue r.dequeue c.self.invariant some in
    let told = c.in-Ok.ensures.found (trb_at g.row.N (kind_at g.row.N r.segment r.dequeue) r.dequeue) at.0 at.1 in
    let trb : c.in-Ok.trb ≡ trb_at g.row.N (kind_at g.row.N r.segment r.dequeue) r.dequeue = cc in
    let kind : kind_at g.row.N r.segment r.dequeue ≡ c.in-Ok.trb.kind = sym (ap (λ (t : Trb). t.kind) trb) in (
      sym (ap (λ (x : Ring). x.waits) c.self.view_is) ∙ taken-waits g.row.N r.segment r.enqueue r.dequeue c.self.invariant some
          ∙ ap (λ (k : TrbKind). k ∷ kinds g.row.N r.segment (after g.row.N r.dequeue 1) (between g.row.N (after g.row.N r.dequeue 1) r.enqueue)) kind
          ∙ ap (λ (p : ℕ). c.in-Ok.trb.kind ∷ kinds g.row.N r.segment p (between g.row.N p r.enqueue)) (sym c.place_after-next.ensures.value),
      c.index.ensures.value ∙ ap (index_of g.row.N) (sym (dequeue-is g.row.N r.segment r.enqueue r.dequeue c.self.invariant) ∙ ap (dequeue_of g.row.N) c.self.view_is),
    )
