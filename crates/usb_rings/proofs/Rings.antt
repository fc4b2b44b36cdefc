-- A ring through posts and takes.
use Rattle.std.proofs.Common.{◌≡◌, ℕ, zero, suc, ◌+◌, ◌-◌, ◌%◌, ◌<◌, ◌≤◌, Bool, true, false, refl, ap, sym, ◌∙◌, subst, arith, List, [], ◌∷◌, ◌++◌, length, inl, inr, ◌⊎◌}
use Rattle.std.specs.Prelude.{not}
use Rattle.std.proofs.Math.Nat.{mod-eq_of_lt, mod-lt}
use Rattle.std.proofs.lemmas.Bool.{cases_lt, true≢false, false≢true}
use Rattle.std.proofs.Math.Bool.{beq}
use Rattle.usb_trb.specs.declared.kind.TrbKind.{TrbKind}
use Rattle.usb_trb.specs.Words.{IsKind}
use Rattle.usb_trb.specs.Read.{cycle_in}
use Rattle.usb_trb.proofs.Numbers.{cycle_in-bytes}
use Rattle.usb_rings.specs.Places.{after, cycle_of, IsWidth}
use Rattle.usb_rings.specs.Memory.{Memory, cell, kind_at, trb_at, put, cleared}
use Rattle.usb_rings.specs.Written.{kinds, IsCell, IsWritten, IsMemory}
use Rattle.usb_rings.proofs.Places.{index-apart, same-after}
use Rattle.usb_rings.proofs.Cells.{put-same, cell-put-other, kind-put, written-same, written-less}
use Rattle.usb_rings.proofs.Puts.{written-put, memory-put, memory-same}
use Rattle.usb_rings.proofs.Fresh.{memory-cleared}
use Rattle.usb_rings.proofs.Lists.{length-kinds, kinds-append, kinds-keep, kinds-same, window-read}
use Rattle.usb_rings.specs.Ring.{between, empty, unused, ring_in, dequeue_of, IsSound, IsRing}
use Rattle.usb_rings.proofs.Between.{between-end, between-start, between-post, between-take, between-is}

-- a ring in which nothing was posted is sound
pub unused-sound : (w : ℕ) (m : Memory) → IsWidth w → IsMemory w m 0 → IsSound w m 0 0
unused-sound w m h s =
    let none : between w 0 0 ≡ 0 = between-is w 0 0 0 (omega (arith, h.0)) (omega (arith, h.0)) (mod-eq_of_lt (two w h.0)) in record {
      width_fits = h;
      enqueue_fits = omega (arith, h.0);
      dequeue_fits = omega (arith, h.0);
      room = omega (arith, h.0, none);
      written = λ q a b. absurd (omega (arith, none));
      memory = s;
    }
  where
    two : (w : ℕ) → 0 < w → 0 < w + w
    two w h = omega arith

-- the bytes of a segment that was just made show that nothing is new
pub made-memory : (w size base : ℕ) (m : Memory) → 0 < w → w ≤ size → m ≡ cleared w size base → IsMemory w m 0
made-memory w size base m z h e = subst (λ (x : Memory). IsMemory w x 0) (sym e) (memory-cleared w size base z h)

-- nothing waits in it
pub unused-waits : (w : ℕ) (m : Memory) → 0 < w → kinds w m 0 (between w 0 0) ≡ []
unused-waits w m h =
    let two : 0 < w + w = omega arith in
    ap (kinds w m 0) (between-is w 0 0 0 two two (mod-eq_of_lt two))

-- so memory that was cleared is that of an empty ring
pub renewed-empty : (w : ℕ) (old now : Memory) → 0 < w → now ≡ cleared w (length old.cells) old.base → ring_in w now 0 0 ≡ empty w (length old.cells) old.base
renewed-empty w old now h is = ap (λ (l : List TrbKind). record { posted = 0; waits = l; memory = now }) (unused-waits w now h) ∙ ap unused is

-- as many wait as places stand between dequeue and enqueue
pub length-waits : (w : ℕ) (m : Memory) (e d : ℕ) → length (ring_in w m e d).waits ≡ between w d e
length-waits w m e d = length-kinds w m d (between w d e)

-- the place that the list tells is where dequeue stands
pub dequeue-is : (w : ℕ) (m : Memory) (e d : ℕ) → IsSound w m e d → dequeue_of w (ring_in w m e d) ≡ d
dequeue-is w m e d s =
    let few : between w d e < w + w = omega (arith, s.room) in
    ap (λ (n : ℕ). (e + (w + w) - n) % (w + w)) (length-waits w m e d)
    ∙ between-start w d e (between w d e) s.dequeue_fits few (between-end w d e s.dequeue_fits s.enqueue_fits)

-- what is read from the bytes
pub ring-is : (w : ℕ) (m : Memory) (e d : ℕ) → IsSound w m e d → IsRing w (ring_in w m e d)
ring-is w m e d s = record {
  room = omega (arith, length-waits w m e d, s.room, s.width_fits.0);
  place = s.enqueue_fits;
  taken = window-read w m d (between w d e) (dequeue_of w (ring_in w m e d)) (kinds w m d (between w d e)) s.width_fits.0 s.written refl
      (ap (λ (x : ℕ). x % (w + w)) (dequeue-is w m e d s));
  next = s.memory.turned e (omega arith) (omega (arith, s.width_fits.0));
  link = s.memory.linked;
}

-- a TRB is put at enqueue
pub posted-sound : (w : ℕ) (m : Memory) (e d : ℕ) (k : TrbKind) → IsSound w m e d → IsKind k → between w d e < w - 1 → IsSound w (put w m e k) (after w e 1) d
posted-sound w m e d k s h few =
    let z = s.width_fits.0 in
    let more : between w d (after w e 1) ≡ suc (between w d e) = between-post w d e s.dequeue_fits s.enqueue_fits (omega arith) in
    let at : (d + between w d e) % (w + w) ≡ e % (w + w) = between-end w d e s.dequeue_fits s.enqueue_fits ∙ sym (mod-eq_of_lt s.enqueue_fits) in
    let one : suc e ≡ e + 1 = omega arith in record {
      width_fits = s.width_fits;
      enqueue_fits = below (e + 1) (omega (arith, z));
      dequeue_fits = s.dequeue_fits;
      room = omega (arith, more);
      written =
          subst (λ (n : ℕ). IsWritten w (put w m e k) d n) (sym more)
          (subst (λ (m' : Memory). IsWritten w m' d (suc (between w d e))) (put-same w m (d + between w d e) e k z at)
          (written-put w m d (between w d e) (d + between w d e) k s.memory.cells h refl s.room s.written));
      memory = memory-same w (put w m e k) (suc e) (after w e 1) z (ap (λ (x : ℕ). x % (w + w)) one ∙ sym (same-after w e 1)) (memory-put w m e k z h s.memory);
    }
  where
    below : (x : ℕ) → 0 < w + w → x % (w + w) < w + w
    below x p = mod-lt x p

-- it waits behind all others
pub posted-waits : (w : ℕ) (m : Memory) (e d : ℕ) (k : TrbKind) → IsSound w m e d → IsKind k → between w d e < w - 1
    → kinds w (put w m e k) d (between w d (after w e 1)) ≡ kinds w m d (between w d e) ++ k ∷ []
posted-waits w m e d k s h few =
    let z = s.width_fits.0 in
    let n = between w d e in
    let more : between w d (after w e 1) ≡ suc (between w d e) = between-post w d e s.dequeue_fits s.enqueue_fits (omega arith) in
    let at : (d + between w d e) % (w + w) ≡ e % (w + w) = between-end w d e s.dequeue_fits s.enqueue_fits ∙ sym (mod-eq_of_lt s.enqueue_fits) in
    let there : put w m e k ≡ put w m (d + between w d e) k = put-same w m e (d + between w d e) k z (sym at) in
    let one : between w d e + 1 ≡ suc (between w d e) = omega arith in
    let old : kinds w (put w m (d + between w d e) k) d (between w d e) ≡ kinds w m d (between w d e) =
    kinds-keep w m (put w m (d + between w d e) k) d (between w d e)
    (λ q a b. cell-put-other w m (d + between w d e) q k z (λ f. index-apart w q (d + between w d e) b (omega (arith, s.room)) (sym f))) in
    let new : kind_at w (put w m (d + between w d e) k) (d + between w d e) ≡ k = kind-put w m (d + between w d e) (d + between w d e) k z s.memory.cells h refl in
    ap (kinds w (put w m e k) d) more ∙ ap (λ (m' : Memory). kinds w m' d (suc (between w d e))) there
    ∙ sym (kinds-append w (put w m (d + between w d e) k) d (between w d e) 1 (suc (between w d e)) one)
    ∙ join old new
  where
    join : {xs ys : List TrbKind} {x y : TrbKind} → xs ≡ ys → x ≡ y → xs ++ x ∷ [] ≡ ys ++ y ∷ []
    join f g = rw (f, g) refl

-- the cycle bit tells whether something waits
not-itself : (b : Bool) → b ≡ not b → ⊥
not-itself true h = true≢false h
not-itself false h = false≢true h

-- what the test of two bits tells
pub bits-differ : (a b : Bool) → not (beq a b) ≡ true → a ≡ b → ⊥
bits-differ true true h e = false≢true h
bits-differ true false h e = true≢false e
bits-differ false true h e = false≢true e
bits-differ false false h e = false≢true h

-- and where they are equal
pub bits-same : (a b : Bool) → not (beq a b) ≡ false → a ≡ b
bits-same true true h = refl
bits-same true false h = absurd (true≢false h)
bits-same false true h = absurd (true≢false h)
bits-same false false h = refl

-- where the cycle bit isn't the cycle state, nothing waits
pub stale-none : (w : ℕ) (m : Memory) (e d : ℕ) → IsSound w m e d → (cycle_in (cell w m d) ≡ cycle_of w d → ⊥) → between w d e ≡ 0
stale-none w m e d s stale = by_count (cases_lt 0 (between w d e))
  where
    by_count : (0 < between w d e) ⊎ (between w d e ≤ 0) → between w d e ≡ 0
    by_count (inl some) =
        absurd (stale (ap cycle_in (sym (s.written d (omega arith) (omega arith)).1) ∙ cycle_in-bytes (trb_at w (kind_at w m d) d)))
    by_count (inr none) = omega arith

-- where it is, something does
pub new-some : (w : ℕ) (m : Memory) (e d : ℕ) → IsSound w m e d → cycle_in (cell w m d) ≡ cycle_of w d → 0 < between w d e
new-some w m e d s new = by_count (cases_lt 0 (between w d e))
  where
    at : between w d e ≡ 0 → d ≡ e
    at none =
        let zero-on : d + 0 ≡ d = omega arith in
        sym (ap (λ (x : ℕ). x % (w + w)) zero-on ∙ mod-eq_of_lt s.dequeue_fits)
        ∙ ap (λ (n : ℕ). (d + n) % (w + w)) (sym none) ∙ between-end w d e s.dequeue_fits s.enqueue_fits

    by_count : (0 < between w d e) ⊎ (between w d e ≤ 0) → 0 < between w d e
    by_count (inl some) = some
    by_count (inr none) =
        let same : d ≡ e = at (omega arith) in
        absurd (not-itself (cycle_of w d) (sym new ∙ s.memory.turned d (omega (arith, same)) (omega (arith, same, s.width_fits.0))))

-- the first of what waits, and the rest
pub taken-waits : (w : ℕ) (m : Memory) (e d : ℕ) → IsSound w m e d → 0 < between w d e
    → kinds w m d (between w d e) ≡ kind_at w m d ∷ kinds w m (after w d 1) (between w (after w d 1) e)
taken-waits w m e d s some = by_count (between w d e) refl
  where
    by_count : (n : ℕ) → between w d e ≡ n → kinds w m d (between w d e) ≡ kind_at w m d ∷ kinds w m (after w d 1) (between w (after w d 1) e)
    by_count zero h = absurd (omega (arith, h))
    by_count (suc n) h =
        let z = s.width_fits.0 in
        let two : 0 < w + w = omega arith in
        let low : after w d 1 < w + w = mod-lt (d + 1) two in
        let rest : between w (after w d 1) e ≡ n = between-take w d e n s.dequeue_fits s.enqueue_fits low h (omega (arith, h, s.room)) in
        let one : suc d ≡ d + 1 = omega arith in
        ap (kinds w m d) h
        ∙ ap (λ (ks : List TrbKind). kind_at w m d ∷ ks)
        (kinds-same w m (suc d) (after w d 1) n z (ap (λ (x : ℕ). x % (w + w)) one ∙ sym (same-after w d 1)) ∙ ap (kinds w m (after w d 1)) (sym rest))

-- dequeue goes on
pub taken-sound : (w : ℕ) (m : Memory) (e d : ℕ) → IsSound w m e d → 0 < between w d e → IsSound w m e (after w d 1)
taken-sound w m e d s some = by_count (between w d e) refl
  where
    by_count : (n : ℕ) → between w d e ≡ n → IsSound w m e (after w d 1)
    by_count zero h = absurd (omega (arith, h))
    by_count (suc n) h =
        let z = s.width_fits.0 in
        let two : 0 < w + w = omega arith in
        let low : after w d 1 < w + w = mod-lt (d + 1) two in
        let rest : between w (after w d 1) e ≡ n = between-take w d e n s.dequeue_fits s.enqueue_fits low h (omega (arith, h, s.room)) in
        record {
          width_fits = s.width_fits;
          enqueue_fits = s.enqueue_fits;
          dequeue_fits = low;
          room = omega (arith, rest, h, s.room);
          written =
              subst (λ (k : ℕ). IsWritten w m (after w d 1) k) (sym rest)
              (written-same w m (d + 1) (after w d 1) n z (sym (same-after w d 1))
              (written-less w m d (d + 1) (between w d e) n (omega arith) (omega (arith, h)) s.written));
          memory = s.memory;
        }

-- the TRB at dequeue
pub first-cell : (w : ℕ) (m : Memory) (e d : ℕ) → IsSound w m e d → 0 < between w d e → IsCell w m d
first-cell w m e d s some = s.written d (omega arith) (omega arith)
