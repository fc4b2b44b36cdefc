use Rattle.std.proofs.Common.{◌≡◌, ◌+◌, ◌-◌, ◌<◌, ◌≤◌, arith, ap, sym, ◌∙◌, suc, ℕ, List, Some, None, drop}
use Rattle.std.proofs.Common.{inl, inr, ◌⊎◌}
use Rattle.std.specs.Prelude.{slice_get}
use Rattle.usb_trb.specs.declared.kind.Normal.{Normal as NormalTrb}
use Rattle.usb_model.specs.Stands.{stand, total}
use Rattle.usb_xhc.specs.Ahead.{lengths}
use Rattle.usb_xhc.specs.Context.{trbs}
use Rattle.usb_xhc.specs.Transaction.{trb_at}
use Rattle.usb_xhc.proofs.Scans.{stand-stops, stand-goes, drop-at, drop-last, on_by}
use Rattle.usb_xhc.proofs.Nexts.{there, not-there}
use Rattle.usb_xhc.proofs.context.EndpointContext.standing.Goals as goal
use Rattle.usb_xhc.proofs.context.EndpointContext.standing.Goals.{else-loop-within-test, then-loop-within-test+in_default}

pub loop-within-preserved : goal.loop-within-preserved
loop-within-preserved c =
    let ts : List NormalTrb = trbs c.args.self.now in
    let i = c.loop-within.index in
    let at : trb_at c.args.self.now (suc i) ≡ Some c.in-Some.next = sym c.next.ensures.value ∙ c.in-Some.is in
    let here : slice_get ts i ≡ Some c.loop-within.at.trb = (there c.args.self.now.ring.line i c.loop-within.at c.loop-within.invariant.here).0 in
    let behind : slice_get ts (suc i) ≡ Some c.in-Some.next.trb = (there c.args.self.now.ring.line (suc i) c.in-Some.next at).0 in
    let count : suc i ≡ i + 1 = omega arith in
    let length_is : c.loop-within.within - c.loop-within.at.trb.length ≡ c.loop-within.within - c.bytes-within.result = ap (λ (n : ℕ). c.loop-within.within - n) (sym c.bytes-within.ensures.value) in
    let far : c.loop-within.at.trb.length ≤ c.loop-within.within = omega (arith, c.loop-within-test.true, c.bytes.ensures.value) in
    record {
      here = ap (trb_at c.args.self.now) (sym count) ∙ at;
      few = omega (arith, c.in-Some.ensures.below);
      stands = ap (λ (n : ℕ). on_by n (stand (lengths (drop n ts)) (c.loop-within.within - c.bytes-within.result))) (sym count)
          ∙ ap (λ (n : ℕ). on_by (suc i) (stand (lengths (drop (suc i) ts)) n)) (sym length_is)
          ∙ sym (stand-goes ts i c.loop-within.within c.loop-within.at.trb c.in-Some.next.trb here behind far) ∙ c.loop-within.invariant.stands;
      fits = by_fit c.loop-within.invariant.fits (ap (λ (xs : List NormalTrb). total (lengths xs)) (drop-at ts i c.loop-within.at.trb here)) (ap (λ (n : ℕ). total (lengths (drop n ts))) count);
    }
  where
    by_fit : (c.loop-within.within ≤ total (lengths (drop c.loop-within.index (trbs c.args.self.now)))) ⊎ (c.loop-within.within ≤ 65536)
        → total (lengths (drop c.loop-within.index (trbs c.args.self.now))) ≡ c.loop-within.at.trb.length + total (lengths (drop (suc c.loop-within.index) (trbs c.args.self.now)))
        → total (lengths (drop (suc c.loop-within.index) (trbs c.args.self.now))) ≡ total (lengths (drop (c.loop-within.index + 1) (trbs c.args.self.now)))
        → (c.loop-within.within - c.bytes-within.result ≤ total (lengths (drop (c.loop-within.index + 1) (trbs c.args.self.now)))) ⊎ (c.loop-within.within - c.bytes-within.result ≤ 65536)
    by_fit (inl h) all same = inl (omega (arith, c.bytes-within.ensures.value))
    by_fit (inr h) all same = inr (omega arith)

pub returns-clause-stands : goal.returns-clause-stands
returns-clause-stands c =
    let here : slice_get (trbs c.args.self.now) c.loop-within.index ≡ Some c.loop-within.at.trb = (there c.args.self.now.ring.line c.loop-within.index c.loop-within.at c.loop-within.invariant.here).0 in
    sym (stand-stops (trbs c.args.self.now) c.loop-within.index c.loop-within.within c.loop-within.at.trb here why) ∙ c.loop-within.invariant.stands
  where
    why : (c.loop-within.within < c.loop-within.at.trb.length) ⊎ (slice_get (trbs c.args.self.now) (suc c.loop-within.index) ≡ None)
    why = elim c.loop-within-test.branch [
      | else-loop-within-test w ↦ inl (omega (arith, w.loop-within-test.false, c.bytes.ensures.value))
      | then-loop-within-test+in_default w ↦ inr (not-there c.args.self.now.ring.line (suc c.loop-within.index) (sym w.next.ensures.value ∙ w.in_default.is))
    ]

pub returns-clause-within : goal.returns-clause-within
returns-clause-within c =
    let here : slice_get (trbs c.args.self.now) c.loop-within.index ≡ Some c.loop-within.at.trb = (there c.args.self.now.ring.line c.loop-within.index c.loop-within.at c.loop-within.invariant.here).0 in
    elim c.loop-within-test.branch [
      | else-loop-within-test w ↦ omega (arith, w.loop-within-test.false, c.bytes.ensures.below)
      | then-loop-within-test+in_default w ↦ by_fit c.loop-within.invariant.fits
          (ap (λ (xs : List NormalTrb). total (lengths xs)) (drop-last (trbs c.args.self.now) c.loop-within.index c.loop-within.at.trb here (not-there c.args.self.now.ring.line (suc c.loop-within.index) (sym w.next.ensures.value ∙ w.in_default.is))))
    ]
  where
    by_fit : (c.loop-within.within ≤ total (lengths (drop c.loop-within.index (trbs c.args.self.now)))) ⊎ (c.loop-within.within ≤ 65536)
        → total (lengths (drop c.loop-within.index (trbs c.args.self.now))) ≡ c.loop-within.at.trb.length + 0 → c.loop-within.within ≤ 65536
    by_fit (inl h) all = omega (arith, c.bytes.ensures.value, c.bytes.ensures.below)
    by_fit (inr h) all = h
