-- The TRBs of the transfer at dequeue, as they are read from the ring.
use Rattle.std.proofs.Common.{◌≡◌, ℕ, suc, ◌+◌, ◌<◌, refl, ap, sym, ◌∙◌, arith, List, [], ◌∷◌, length, drop, Some, None, true, false}
use Rattle.std.specs.Prelude.{Option, slice_get, option_map}
use Rattle.std.proofs.lemmas.Option.{slice_get_within}
use Rattle.usb_trb.specs.declared.kind.Normal.{Normal as NormalTrb}
use Rattle.usb_trb.specs.declared.kind.TrbKind.{TrbKind}
use Rattle.usb_trb.specs.declared.kind.TrbKind.TheVariants.{Normal, Link, NoOp, ResetEndpoint, StopEndpoint, SetDequeue, TransferEvent, CommandCompletion}
use Rattle.usb_rings.specs.Places.{after, address_of}
use Rattle.usb_rings.specs.Line.{Line, places, contents, first_of, ahead_of}
use Rattle.usb_xhc.specs.declared.trb_at.TrbAt.{TrbAt}
use Rattle.usb_xhc.specs.Ahead.{trbs_ahead}
use Rattle.usb_xhc.specs.NormalTrbs.{seen}
use Rattle.usb_xhc.specs.Transaction.{trb_in}
use Rattle.usb_xhc.proofs.Scans.{normal_first, behind, ahead-first, ahead-next, few-ahead}

-- a transfer's TRB is there, and has its address
pub there : (l : Line) (k : ℕ) (x : TrbAt) → trb_in l k ≡ Some x → (slice_get (trbs_ahead l) k ≡ Some x.trb) × (x.pointer ≡ address_of places l.base (l.dequeue + k))
there l k x h = by_trb (slice_get (trbs_ahead l) k) refl h
  where
    by_trb : (o : Option NormalTrb) → slice_get (trbs_ahead l) k ≡ o → option_map (λ t. record { pointer = address_of places l.base (l.dequeue + k); trb = t }) o ≡ Some x
        → (slice_get (trbs_ahead l) k ≡ Some x.trb) × (x.pointer ≡ address_of places l.base (l.dequeue + k))
    by_trb None e g = absurd cc
    by_trb (Some t) e g =
        let same : record { pointer = address_of places l.base (l.dequeue + k); trb = t } ≡ x = cc in
        (e ∙ ap (λ (y : TrbAt). Some y.trb) same, ap (λ (y : TrbAt). y.pointer) (sym same))

-- and what isn't there is none of the transfer's
pub not-there : (l : Line) (k : ℕ) → trb_in l k ≡ None → slice_get (trbs_ahead l) k ≡ None
not-there l k h = by_trb (slice_get (trbs_ahead l) k) refl h
  where
    by_trb : (o : Option NormalTrb) → slice_get (trbs_ahead l) k ≡ o → option_map {U = TrbAt} (λ t. record { pointer = address_of places l.base (l.dequeue + k); trb = t }) o ≡ None
        → slice_get (trbs_ahead l) k ≡ None
    by_trb None e g = e
    by_trb (Some t) e g = absurd cc

-- so it stands before the controller
pub within : (l : Line) (k : ℕ) (x : TrbAt) → trb_in l k ≡ Some x → k < length (contents l)
within l k x h = omega (arith, slice_get_within (trbs_ahead l) k x.trb (there l k x h).0, few-ahead (contents l))

-- what is read so many behind dequeue
pub read : (l : Line) (n : ℕ) → seen (ahead_of l n) ≡ option_map (λ t. record { pointer = address_of places l.base (l.dequeue + n); trb = t }) (normal_first (drop n (contents l)))
read l n = by_trbs (drop n (contents l))
  where
    at : address_of places l.base (after places l.dequeue n) ≡ address_of places l.base (l.dequeue + n)
    at = omega arith

    by_trbs : (ks : List TrbKind) → seen (first_of l.base (after places l.dequeue n) ks)
        ≡ option_map (λ t. record { pointer = address_of places l.base (l.dequeue + n); trb = t }) (normal_first ks)
    by_trbs [] = refl
    by_trbs (Normal t ∷ ks) = ap (λ (p : ℕ). Some (record { pointer = p; trb = t })) at
    by_trbs (Link a b c ∷ ks) = refl
    by_trbs (NoOp ∷ ks) = refl
    by_trbs (ResetEndpoint a b ∷ ks) = refl
    by_trbs (StopEndpoint a b ∷ ks) = refl
    by_trbs (SetDequeue a b c d ∷ ks) = refl
    by_trbs (TransferEvent a b c d e ∷ ks) = refl
    by_trbs (CommandCompletion a b c ∷ ks) = refl

-- the transfer's first TRB is what is read at dequeue
pub first-read : (l : Line) → seen (ahead_of l 0) ≡ trb_in l 0
first-read l = read l 0 ∙ ap (option_map (λ t. record { pointer = address_of places l.base (l.dequeue + 0); trb = t })) (sym (ahead-first (contents l)))

-- behind the end nothing more is the transfer's, and elsewhere what stands there is
ends : (t : NormalTrb) (ks : List TrbKind) → t.done ≡ true → behind t ks ≡ None
ends t ks h = rw h refl

goes : (t : NormalTrb) (ks : List TrbKind) → t.done ≡ false → behind t ks ≡ normal_first ks
goes t ks h = rw h refl

-- the TRB behind one that tells the end isn't the transfer's
pub next-done : (l : Line) (k : ℕ) (x : TrbAt) → trb_in l k ≡ Some x → x.trb.done ≡ true → None ≡ trb_in l (suc k)
next-done l k x h done =
    let next = ahead-next (contents l) k x.trb (there l k x h).0 in
    sym (ap (option_map (λ t. record { pointer = address_of places l.base (l.dequeue + suc k); trb = t })) (next ∙ ends x.trb (drop (suc k) (contents l)) done))

-- else what is read behind it is
pub next-read : (l : Line) (k : ℕ) (x : TrbAt) → trb_in l k ≡ Some x → x.trb.done ≡ false → seen (ahead_of l (suc k)) ≡ trb_in l (suc k)
next-read l k x h more =
    let next = ahead-next (contents l) k x.trb (there l k x h).0 in
    read l (suc k)
    ∙ ap (option_map (λ u. record { pointer = address_of places l.base (l.dequeue + suc k); trb = u })) (sym (next ∙ goes x.trb (drop (suc k) (contents l)) more))
