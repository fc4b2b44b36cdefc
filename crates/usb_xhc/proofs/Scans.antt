-- The TRBs of the transfer at dequeue, one after another.
use Rattle.std.proofs.Common.{◌≡◌, ℕ, zero, suc, ◌+◌, ◌-◌, ◌<◌, ◌≤◌, refl, ap, sym, ◌∙◌, arith, List, [], ◌∷◌, length, drop, Some, None, true, false, Bool, ◌||◌, not, if◌then◌else◌}
use Rattle.std.specs.Prelude.{Option, slice_get}
use Rattle.std.proofs.Common.{inl, inr, ◌⊎◌}
use Rattle.std.proofs.lemmas.List.{length-drop}
use Rattle.std.proofs.lemmas.Bool.{lt-ltb, le-ltb}
use Rattle.std.proofs.lemmas.Option.{slice_get_within}
use Rattle.usb_trb.specs.declared.kind.Normal.{Normal as NormalTrb}
use Rattle.usb_trb.specs.declared.kind.TrbKind.{TrbKind}
use Rattle.usb_trb.specs.declared.kind.TrbKind.TheVariants.{Normal, Link, NoOp, ResetEndpoint, StopEndpoint, SetDequeue, TransferEvent, CommandCompletion}
use Rattle.usb_model.specs.Stands.{Stand, stand, one_on, total}
use Rattle.usb_xhc.specs.Ahead.{ahead, lengths, goes_on}

-- the first TRB, where it is a Normal one
abbrev pub normal_first : List TrbKind → Option NormalTrb
normal_first [] = None
normal_first (Normal t ∷ ks) = Some t
normal_first (_ ∷ ks) = None

-- it is the transfer's first
pub ahead-first : (ks : List TrbKind) → slice_get (ahead ks) 0 ≡ normal_first ks
ahead-first [] = refl
ahead-first (Normal t ∷ ks) = by_test t.done refl
  where
    by_test : (b : Bool) → t.done ≡ b → slice_get (if b then t ∷ [] else t ∷ ahead ks) 0 ≡ Some t
    by_test true e = refl
    by_test false e = refl
ahead-first (Link a b c ∷ ks) = refl
ahead-first (NoOp ∷ ks) = refl
ahead-first (ResetEndpoint a b ∷ ks) = refl
ahead-first (StopEndpoint a b ∷ ks) = refl
ahead-first (SetDequeue a b c d ∷ ks) = refl
ahead-first (TransferEvent a b c d e ∷ ks) = refl
ahead-first (CommandCompletion a b c ∷ ks) = refl

-- what comes behind a TRB of the transfer
abbrev pub behind : NormalTrb → List TrbKind → Option NormalTrb
behind t ks = if t.done then None else normal_first ks

pub ahead-next : (ks : List TrbKind) (k : ℕ) (t : NormalTrb) → slice_get (ahead ks) k ≡ Some t → slice_get (ahead ks) (suc k) ≡ behind t (drop (suc k) ks)
ahead-next [] k t h = absurd (omega (arith, slice_get_within [] k t h))
ahead-next (Normal u ∷ ks) k t h = by_test k u.done refl h (λ i g. ahead-next ks i t g)
  where
    by_test : (k : ℕ) (b : Bool) → u.done ≡ b → slice_get (if b then u ∷ [] else u ∷ ahead ks) k ≡ Some t
        → ((i : ℕ) → slice_get (ahead ks) i ≡ Some t → slice_get (ahead ks) (suc i) ≡ behind t (drop (suc i) ks))
        → slice_get (if b then u ∷ [] else u ∷ ahead ks) (suc k) ≡ behind t (drop k ks)
    by_test zero true e h rest =
        let same : u ≡ t = cc in
        rw (sym same, e) refl
    by_test zero false e h rest =
        let same : u ≡ t = cc in
        ahead-first ks ∙ rw (sym same, e) refl
    by_test (suc k) true e h rest = absurd (omega (arith, slice_get_within (u ∷ []) (suc k) t h))
    by_test (suc k) false e h rest = rest k h
ahead-next (Link a b c ∷ ks) k t h = absurd (omega (arith, slice_get_within [] k t h))
ahead-next (NoOp ∷ ks) k t h = absurd (omega (arith, slice_get_within [] k t h))
ahead-next (ResetEndpoint a b ∷ ks) k t h = absurd (omega (arith, slice_get_within [] k t h))
ahead-next (StopEndpoint a b ∷ ks) k t h = absurd (omega (arith, slice_get_within [] k t h))
ahead-next (SetDequeue a b c d ∷ ks) k t h = absurd (omega (arith, slice_get_within [] k t h))
ahead-next (TransferEvent a b c d e ∷ ks) k t h = absurd (omega (arith, slice_get_within [] k t h))
ahead-next (CommandCompletion a b c ∷ ks) k t h = absurd (omega (arith, slice_get_within [] k t h))

-- a transfer has no more TRBs than stand there
pub few-ahead : (ks : List TrbKind) → length (ahead ks) ≤ length ks
few-ahead [] = omega arith
few-ahead (Normal t ∷ ks) = by_test t.done (few-ahead ks)
  where
    by_test : (b : Bool) → length (ahead ks) ≤ length ks → length (if b then t ∷ [] else t ∷ ahead ks) ≤ suc (length ks)
    by_test true h = omega arith
    by_test false h = omega arith
few-ahead (Link a b c ∷ ks) = omega arith
few-ahead (NoOp ∷ ks) = omega arith
few-ahead (ResetEndpoint a b ∷ ks) = omega arith
few-ahead (StopEndpoint a b ∷ ks) = omega arith
few-ahead (SetDequeue a b c d ∷ ks) = omega arith
few-ahead (TransferEvent a b c d e ∷ ks) = omega arith
few-ahead (CommandCompletion a b c ∷ ks) = omega arith

module _ {A : Type 0} where
  -- what stands from an element on
  pub drop-at : (xs : List A) (k : ℕ) (x : A) → slice_get xs k ≡ Some x → drop k xs ≡ x ∷ drop (suc k) xs
  drop-at [] k x h = absurd (omega (arith, slice_get_within [] k x h))
  drop-at (y ∷ ys) zero x h =
      let same : y ≡ x = cc in
      ap (λ (z : A). z ∷ ys) same
  drop-at (y ∷ ys) (suc k) x h = drop-at ys k x h

  -- behind the last element stands nothing
  pub last-at : (xs : List A) (k : ℕ) (x : A) → slice_get xs k ≡ Some x → slice_get xs (suc k) ≡ None → length xs ≡ suc k
  last-at [] k x h n = absurd (omega (arith, slice_get_within [] k x h))
  last-at (y ∷ []) zero x h n = refl
  last-at (y ∷ z ∷ zs) zero x h n = absurd cc
  last-at (y ∷ ys) (suc k) x h n = ap suc (last-at ys k x h n)

-- so many TRBs on
abbrev pub on_by : ℕ → Stand → Stand
on_by k s = record { index = k + s.index; within = s.within }

-- a transfer stands at a TRB that has more bytes, and at its last
pub stand-stops : (ts : List NormalTrb) (k c : ℕ) (t : NormalTrb) → slice_get ts k ≡ Some t → (c < t.length) ⊎ (slice_get ts (suc k) ≡ None)
    → on_by k (stand (lengths (drop k ts)) c) ≡ record { index = k; within = c }
stand-stops ts k c t h why = ap (λ (xs : List NormalTrb). on_by k (stand (lengths xs) c)) (drop-at ts k t h) ∙ ap (on_by k) (by_rest (drop (suc k) ts) refl why) ∙ zero-on
  where
    zero-on : on_by k (record { index = 0; within = c }) ≡ record { index = k; within = c }
    zero-on = ap (λ (n : ℕ). record { index = n; within = c }) (omega arith)

    by_rest : (rest : List NormalTrb) → drop (suc k) ts ≡ rest → (c < t.length) ⊎ (slice_get ts (suc k) ≡ None) → stand (lengths (t ∷ rest)) c ≡ record { index = 0; within = c }
    by_rest [] e w = refl
    by_rest (u ∷ us) e (inl less) = rw (lt-ltb c t.length less) refl
    by_rest (u ∷ us) e (inr none) =
        absurd (omega (arith, ap length e, length-drop (suc k) ts, last-at ts k t h none))

-- else it stands at a later one
pub stand-goes : (ts : List NormalTrb) (k c : ℕ) (t u : NormalTrb) → slice_get ts k ≡ Some t → slice_get ts (suc k) ≡ Some u → t.length ≤ c
    → on_by k (stand (lengths (drop k ts)) c) ≡ on_by (suc k) (stand (lengths (drop (suc k) ts)) (c - t.length))
stand-goes ts k c t u h g far =
    ap (λ (xs : List NormalTrb). on_by k (stand (lengths xs) c)) (drop-at ts k t h ∙ ap (λ (xs : List NormalTrb). t ∷ xs) (drop-at ts (suc k) u g))
    ∙ rw (le-ltb c t.length far) (one-more (stand (lengths (u ∷ drop (suc (suc k)) ts)) (c - t.length)))
    ∙ ap (λ (xs : List NormalTrb). on_by (suc k) (stand (lengths xs) (c - t.length))) (sym (drop-at ts (suc k) u g))
  where
    one-more : (s : Stand) → on_by k (one_on s) ≡ on_by (suc k) s
    one-more s = ap (λ (n : ℕ). record { index = n; within = s.within }) (omega arith)

-- the bytes of the TRBs up to one, and those behind it
pub total-goes : (ts : List NormalTrb) (k : ℕ) (u : NormalTrb) → slice_get ts k ≡ Some u → total (lengths (drop k ts)) ≡ u.length + total (lengths (drop (suc k) ts))
total-goes ts k u h = ap (λ (xs : List NormalTrb). total (lengths xs)) (drop-at ts k u h)

-- nothing stands behind the last
pub drop-last : (ts : List NormalTrb) (k : ℕ) (t : NormalTrb) → slice_get ts k ≡ Some t → slice_get ts (suc k) ≡ None → drop k ts ≡ t ∷ []
drop-last ts k t h n = drop-at ts k t h ∙ ap (λ (xs : List NormalTrb). t ∷ xs) (by_rest (drop (suc k) ts) refl)
  where
    by_rest : (rest : List NormalTrb) → drop (suc k) ts ≡ rest → rest ≡ []
    by_rest [] e = refl
    by_rest (u ∷ us) e = absurd (omega (arith, ap length e, length-drop (suc k) ts, last-at ts k t h n))

-- whether an empty packet comes is told by the TRBs that were seen and those that weren't
pub goes_on-goes : (ts : List NormalTrb) (k : ℕ) (t u : NormalTrb) (extra : Bool) → slice_get ts k ≡ Some t → slice_get ts (suc k) ≡ Some u
    → (extra || goes_on (drop k ts)) ≡ ((extra || not t.chain) || goes_on (drop (suc k) ts))
goes_on-goes ts k t u extra h g =
    ap (λ (xs : List NormalTrb). extra || goes_on xs) (drop-at ts k t h ∙ ap (λ (xs : List NormalTrb). t ∷ xs) (drop-at ts (suc k) u g))
    ∙ assoc extra (not t.chain) (goes_on (u ∷ drop (suc (suc k)) ts))
    ∙ ap (λ (xs : List NormalTrb). (extra || not t.chain) || goes_on xs) (sym (drop-at ts (suc k) u g))
  where
    assoc : (a b c : Bool) → (a || (b || c)) ≡ ((a || b) || c)
    assoc true b c = refl
    assoc false b c = refl
