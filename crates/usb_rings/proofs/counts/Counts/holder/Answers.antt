use Rattle.std.proofs.Common.{◌≡◌, ℕ, arith, ap, take}
use Rattle.std.proofs.lemmas.List.{take_all}
use Rattle.usb_rings.specs.View.{total}
use Rattle.usb_rings.proofs.Holders.{one-holder}
use Rattle.usb_rings.proofs.Totals.{total-more, item-part}
use Rattle.usb_rings.proofs.counts.Counts.holder.Goals as goal

pub returns-then-rest-count-clause-found : goal.returns-then-rest-count-clause-found
returns-then-rest-count-clause-found c = λ i j a b e.
    let item : c.loop-i.i ≡ i = one-holder c.args.self.now c.args.ahead 0 c.loop-i.i c.loop-i.rest i j (omega (arith, c.len-i-end.ensures)) a
    (omega (arith, c.get.ensures, c.from-count.ensures)) b c.loop-i.invariant e in
    let before : total (take c.loop-i.i c.args.self.now) ≡ total (take i c.args.self.now) = ap (λ (n : ℕ). total (take n c.args.self.now)) item in
    let trb : c.loop-i.rest ≡ j = omega (arith, c.loop-i.invariant) in
    cc

pub loop-i-preserved : goal.loop-i-preserved
loop-i-preserved c =
    let more = total-more c.args.self.now c.loop-i.i (omega (arith, c.len-i-end.ensures)) in
    omega (arith, c.loop-i.invariant, c.get.ensures, c.from-count.ensures)

pub returns-clause-found : goal.returns-clause-found
returns-clause-found c = λ i j a b e.
    let part = item-part c.args.self.now i in
    let all = ap total (take_all c.loop-i.i c.args.self.now (omega (arith, c.len-i-end.ensures))) in
    absurd (omega (arith, c.loop-i.invariant))
