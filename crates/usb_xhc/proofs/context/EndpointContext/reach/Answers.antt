use Rattle.std.proofs.Common.{◌≡◌, ◌+◌, ◌-◌, arith, refl, ap, sym, ◌∙◌, subst, suc, ℕ, List, Some, None, true, false, drop, Bool, ◌||◌, not}
use Rattle.std.specs.Prelude.{slice_get}
use Rattle.usb_trb.specs.declared.kind.Normal.{Normal as NormalTrb}
use Rattle.usb_model.specs.Stands.{total}
use Rattle.usb_xhc.specs.Ahead.{lengths, goes_on, Reaches}
use Rattle.usb_xhc.specs.Context.{Context, trbs}
use Rattle.usb_xhc.specs.Transaction.{trb_at}
use Rattle.usb_xhc.proofs.Scans.{drop-at, drop-last, goes_on-goes}
use Rattle.usb_xhc.proofs.Extents.{reaches-far, reaches-all}
use Rattle.usb_xhc.proofs.Nexts.{there, not-there}
use Rattle.usb_xhc.proofs.context.EndpointContext.reach.Goals as goal
use Rattle.usb_xhc.proofs.context.EndpointContext.reach.Goals.{then-extra, else-extra, else-loop-sum-test, then-loop-sum-test+in_default}

pub loop-sum-preserved : goal.loop-sum-preserved
loop-sum-preserved c =
    let ts : List NormalTrb = trbs c.args.self.now in
    let i = c.loop-sum.index in
    let at : trb_at c.args.self.now (suc i) ≡ Some c.in-Some.next = sym c.next.ensures.value ∙ c.in-Some.is in
    let here : slice_get ts i ≡ Some c.loop-sum.at.trb = (there c.args.self.now.ring.line i c.loop-sum.at c.loop-sum.invariant.here).0 in
    let behind : slice_get ts (suc i) ≡ Some c.in-Some.next.trb = (there c.args.self.now.ring.line (suc i) c.in-Some.next at).0 in
    let count : suc i ≡ i + 1 = omega arith in
    let more : total (lengths (drop (suc i) ts)) ≡ c.in-Some.next.trb.length + total (lengths (drop (suc (i + 1)) ts)) =
    ap (λ (xs : List NormalTrb). total (lengths xs)) (drop-at ts (suc i) c.in-Some.next.trb behind)
    ∙ ap (λ (n : ℕ). c.in-Some.next.trb.length + total (lengths (drop (suc n) ts))) count in
    record {
      here = ap (trb_at c.args.self.now) (sym count) ∙ at;
      few = omega (arith, c.in-Some.ensures.below);
      bytes = omega (arith, c.loop-sum.invariant.bytes, c.bytes-sum-in-loop-sum.ensures.value);
      empty = ap (λ (b : Bool). b || goes_on (drop (i + 1) ts)) extra
          ∙ ap (λ (n : ℕ). (c.loop-sum.extra || not c.loop-sum.at.trb.chain) || goes_on (drop n ts)) (sym count)
          ∙ sym (goes_on-goes ts i c.loop-sum.at.trb c.in-Some.next.trb c.loop-sum.extra here behind) ∙ c.loop-sum.invariant.empty;
      below = omega (arith, c.loop-sum-test.true, c.bytes-sum-in-loop-sum.ensures.below);
    }
  where
    extra : c.if-extra.extra ≡ (c.loop-sum.extra || not c.loop-sum.at.trb.chain)
    extra = elim c.if-extra.branch [
      | then-extra w ↦ w.extra-is ∙ by_true w.if-extra.true
      | else-extra w ↦ w.extra-is ∙ by_false w.if-extra.false
    ]
      where
        by_true : c.loop-sum.extra ≡ true → c.loop-sum.extra ≡ (c.loop-sum.extra || not c.loop-sum.at.trb.chain)
        by_true e = rw e refl

        by_false : c.loop-sum.extra ≡ false → not c.loop-sum.at.trb.chain ≡ (c.loop-sum.extra || not c.loop-sum.at.trb.chain)
        by_false e = rw e refl

or-false : (b : Bool) → b ≡ (b || false)
or-false true = refl
or-false false = refl

pub returns : goal.returns
returns c =
    let here : slice_get (trbs c.args.self.now) c.loop-sum.index ≡ Some c.loop-sum.at.trb = (there c.args.self.now.ring.line c.loop-sum.index c.loop-sum.at c.loop-sum.invariant.here).0 in
    let size = ap (λ (x : Context). x.size) c.self.view_is in
    let within = ap (λ (x : Context). x.within) c.self.view_is in
    let rest : c.loop-sum.sum - c.args.self.now.within ≡ c.saturating_sub.result = omega (arith, c.saturating_sub.ensures) in
    subst (λ (n : ℕ). Reaches c.args.self.now.size (trbs c.args.self.now) c.args.self.now.within n c.loop-sum.extra) rest
    (elim c.loop-sum-test.branch [
      | else-loop-sum-test w ↦ reaches-far c.args.self.now.size c.args.self.now.within c.loop-sum.sum c.loop-sum.extra (trbs c.args.self.now)
          (omega (arith, w.loop-sum-test.false, c.from.ensures)) (omega (arith, c.loop-sum.invariant.bytes))
      | then-loop-sum-test+in_default w ↦ all here (not-there c.args.self.now.ring.line (suc c.loop-sum.index) (sym w.next.ensures.value ∙ w.in_default.is))
    ])
  where
    all : slice_get (trbs c.args.self.now) c.loop-sum.index ≡ Some c.loop-sum.at.trb → slice_get (trbs c.args.self.now) (suc c.loop-sum.index) ≡ None
        → Reaches c.args.self.now.size (trbs c.args.self.now) c.args.self.now.within (c.loop-sum.sum - c.args.self.now.within) c.loop-sum.extra
    all here none =
        let last = drop-last (trbs c.args.self.now) c.loop-sum.index c.loop-sum.at.trb here none in
        let more = ap (λ (xs : List NormalTrb). total (lengths xs)) (sym (drop-at (trbs c.args.self.now) c.loop-sum.index c.loop-sum.at.trb here) ∙ last) in
        reaches-all c.args.self.now.size c.args.self.now.within c.loop-sum.sum c.loop-sum.extra (trbs c.args.self.now)
        (omega (arith, c.loop-sum.invariant.bytes))
        (or-false c.loop-sum.extra ∙ ap (λ (xs : List NormalTrb). c.loop-sum.extra || goes_on xs) (sym last) ∙ c.loop-sum.invariant.empty)
