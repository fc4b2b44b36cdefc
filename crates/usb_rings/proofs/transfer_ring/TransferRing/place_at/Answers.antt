use Rattle.std.proofs.Common.{◌≡◌, ◌+◌, ◌<◌, ap, sym, ◌∙◌, subst, Some, None, take, length, ℕ}
use Rattle.std.specs.Prelude.{Option, IfSome}
use Rattle.usb_rings.specs.Places.{address_of}
use Rattle.usb_rings.specs.Line.{places, place_behind, IsAt}
use Rattle.usb_rings.specs.View.{Ring, total, Holds}
use Rattle.usb_rings.proofs.Holders.{item-behind, item-known}
use Rattle.usb_rings.proofs.transfer_ring.TransferRing.place_at.Goals as goal

weaker : (o : Option (ℕ × ℕ)) (P Q : ℕ × ℕ → Type 0) → ((i : ℕ × ℕ) → P i → Q i) → IfSome o P → IfSome o Q
weaker None P Q f h = tt
weaker (Some i) P Q f h = f i h

pub returns-in_err-ahead-clause-found : goal.returns-in_err-ahead-clause-found
returns-in_err-ahead-clause-found c = λ i j h.
    let h' = subst (λ (r : Ring). IsAt r.line c.args.pointer i j) (sym c.self.view_is) h in
    let f = item-behind c.self.inside.segment c.self.inside.enqueue c.self.inside.left c.self.inside.held c.self.inside.counts c.args.pointer i j c.self.invariant h' in
    let told = c.behind_first.ensures.found (total (take i c.self.inside.counts) + j) f.2
    (f.3 ∙ ap (λ (r : Ring). address_of places r.line.base (place_behind r.line (total (take i c.self.inside.counts) + j))) c.self.view_is) in
    let none = c.in_err-ahead.was in
    cc

pub returns-clause-found : goal.returns-clause-found
returns-clause-found c = λ i j h.
    let h' = subst (λ (r : Ring). IsAt r.line c.args.pointer i j) (sym c.self.view_is) h in
    let f = item-behind c.self.inside.segment c.self.inside.enqueue c.self.inside.left c.self.inside.held c.self.inside.counts c.args.pointer i j c.self.invariant h' in
    let told = c.behind_first.ensures.found (total (take i c.self.inside.counts) + j) f.2
    (f.3 ∙ ap (λ (r : Ring). address_of places r.line.base (place_behind r.line (total (take i c.self.inside.counts) + j))) c.self.view_is) in
    let some = c.in_ok-ahead.was in
    let at : total (take i c.self.inside.counts) + j ≡ c.in_ok-ahead.ahead = cc in
    c.holder.ensures.found i j f.0 f.1 at

pub returns-clause-known : goal.returns-clause-known
returns-clause-known c =
    weaker c.holder.result (λ x. Holds c.self.inside.counts c.in_ok-ahead.ahead x.0 x.1) (λ x. IsAt c.args.self.now.line c.args.pointer x.0 x.1)
    (λ x h. subst (λ (r : Ring). IsAt r.line c.args.pointer x.0 x.1) c.self.view_is
    (item-known c.self.inside.segment c.self.inside.enqueue c.self.inside.left c.self.inside.held c.self.inside.counts c.args.pointer x.0 x.1 c.in_ok-ahead.ahead c.self.invariant
    c.in_ok-ahead.ensures.known.0
    (c.in_ok-ahead.ensures.known.1 ∙ sym (ap (λ (r : Ring). address_of places r.line.base (place_behind r.line c.in_ok-ahead.ahead)) c.self.view_is)) h))
    c.holder.ensures.known

pub returns-clause-below : goal.returns-clause-below
returns-clause-below c =
    weaker c.holder.result (λ x. IsAt c.args.self.now.line c.args.pointer x.0 x.1) (λ x. x.0 < length c.args.self.now.line.items)
    (λ x h. h.item) (returns-clause-known c)
