-- Packets that stand one behind another in one buffer.
use Rattle.std.proofs.Common.{◌≡◌, ℕ, zero, ◌+◌, ◌*◌, ◌-◌, ◌<◌, ◌≤◌, suc, List, [], ◌∷◌, ◌++◌, length, take, drop, get_or, slice_get, Some, ap, ◌∙◌, refl, arith, length-drop, length-append}
use Rattle.std.specs.List.{slice_range}
use Rattle.std.proofs.lemmas.List.{take-append-le, drop-append-le}
use Rattle.std.proofs.Math.Seq.{drop-append_seam, take-length}
use Rattle.std.proofs.Math.Nat.{mul-le-mul_right}
use Rattle.usb_device.specs.Taken.{Ascends, IsTaken, cut_at, start_of}

-- the first end stands at or before the last
pub Ascends-le : (start : ℕ) (ends : List ℕ) (last : ℕ) → Ascends start ends last → start ≤ last
Ascends-le start [] last h = omega (arith, h)
Ascends-le start (e ∷ es) last h = omega (arith, h.0, Ascends-le e es last h.1)

-- one more end stands behind the last
pub Ascends-more : (start : ℕ) (ends : List ℕ) (last more : ℕ) → Ascends start ends last → last ≤ more → Ascends start (ends ++ more ∷ []) more
Ascends-more start [] last more h le = (omega (arith, h, le), refl)
Ascends-more start (e ∷ es) last more h le = (h.0, Ascends-more e es last more h.1 le)

-- bytes behind a part leave it
pub slice_range-append : (xs ys : List ℕ) (start end : ℕ) → start ≤ end → end ≤ length xs → slice_range (xs ++ ys) start end ≡ slice_range xs start end
slice_range-append xs ys start end le within =
    ap (λ zs. take (end - start) zs) (drop-append-le start xs ys (omega (arith, le, within)))
    ∙ take-append-le (end - start) (drop start xs) ys (omega (arith, le, within, length-drop start xs))

-- the part behind all of xs
pub slice_range-behind : (xs ys : List ℕ) (start : ℕ) → start ≡ length xs → slice_range (xs ++ ys) start (length xs + length ys) ≡ ys
slice_range-behind xs ys start is =
    let n : ℕ = length xs + length ys - start in
    let all : n ≡ length ys = omega (arith, is) in
    ap (λ k. take n (drop k (xs ++ ys))) is ∙ ap (take n) (drop-append_seam xs ys) ∙ ap (λ k. take k ys) all ∙ take-length ys

-- one more packet, behind all bytes
pub cut_at-more : (start : ℕ) (ends bytes packet : List ℕ) → Ascends start ends (length bytes)
    → cut_at start (ends ++ (length bytes + length packet) ∷ []) (bytes ++ packet) ≡ cut_at start ends bytes ++ packet ∷ []
unfolding cut_at
cut_at-more start [] bytes packet h = ap (λ x. x ∷ []) (slice_range-behind bytes packet start h)
cut_at-more start (e ∷ es) bytes packet h =
    ap (λ x. x ∷ cut_at e (es ++ (length bytes + length packet) ∷ []) (bytes ++ packet)) (slice_range-append bytes packet start e h.0 (Ascends-le e es (length bytes) h.1))
    ∙ ap (λ xs. slice_range bytes start e ∷ xs) (cut_at-more e es bytes packet h.1)

pub length-cut_at : (start : ℕ) (ends bytes : List ℕ) → length (cut_at start ends bytes) ≡ length ends
unfolding cut_at
length-cut_at start [] bytes = refl
length-cut_at start (e ∷ es) bytes = ap suc (length-cut_at e es bytes)

-- each packet stands within the bytes
pub Ascends-at : (start : ℕ) (ends : List ℕ) (last i : ℕ) → Ascends start ends last → i < length ends
    → (start_of start ends i ≤ get_or ends i 0) × (get_or ends i 0 ≤ last)
Ascends-at start (e ∷ es) last zero h lt = (h.0, Ascends-le e es last h.1)
Ascends-at start (e ∷ es) last (suc zero) h lt = Ascends-at e es last zero h.1 (omega (arith, lt))
Ascends-at start (e ∷ es) last (suc (suc i)) h lt = Ascends-at e es last (suc i) h.1 (omega (arith, lt))
Ascends-at start [] last i h lt = absurd (omega (arith, lt))

-- the packet of this index
pub slice_get-cut_at : (start : ℕ) (ends bytes : List ℕ) (i : ℕ) → i < length ends
    → slice_get (cut_at start ends bytes) i ≡ Some (slice_range bytes (start_of start ends i) (get_or ends i 0))
unfolding cut_at
slice_get-cut_at start (e ∷ es) bytes zero lt = refl
slice_get-cut_at start (e ∷ es) bytes (suc zero) lt = slice_get-cut_at e es bytes zero (omega (arith, lt))
slice_get-cut_at start (e ∷ es) bytes (suc (suc i)) lt = slice_get-cut_at e es bytes (suc i) (omega (arith, lt))
slice_get-cut_at start [] bytes i lt = absurd (omega (arith, lt))

-- there is room for one more packet
pub room-more : (bytes ends : List ℕ) (size room places more : ℕ) → IsTaken bytes ends size room places
    → length ends < places → more ≤ size → length bytes + more ≤ room
room-more bytes ends size room places more h few short =
    let most : (length ends + 1) * size ≤ places * size = mul-le-mul_right size (omega (arith, few)) in
    let split : (length ends + 1) * size ≡ length ends * size + size = grind arith in
    omega (arith, most, split, h.used, h.reserved, short)

-- and the buffer is one with it
pub taken-more : (bytes ends packet : List ℕ) (size room places room' : ℕ) → IsTaken bytes ends size room places
    → length packet ≤ size → room ≤ room' → IsTaken (bytes ++ packet) (ends ++ (length bytes + length packet) ∷ []) size room' places
taken-more bytes ends packet size room places room' h short wider = record {
  ascends = rw (length-append bytes packet) (Ascends-more 0 ends (length bytes) (length bytes + length packet) h.ascends (omega arith));
  used =
      let split : (length ends + 1) * size ≡ length ends * size + size = grind arith in
      rw (length-append bytes packet, length-append ends ((length bytes + length packet) ∷ [])) (omega (arith, split, h.used, short));
  reserved = omega (arith, h.reserved, wider);
}

-- within a list it doesn't matter what stands past its end
pub get_or-within : (xs : List ℕ) (i d : ℕ) → i < length xs → get_or xs i d ≡ get_or xs i 0
get_or-within [] i d lt = absurd (omega (arith, lt))
get_or-within (x ∷ xs) zero d lt = refl
get_or-within (x ∷ xs) (suc i) d lt = get_or-within xs i d (omega (arith, lt))
