-- Places over a width: all that is said of places stands on these.
use Rattle.std.proofs.Common.{◌≡◌, ℕ, suc, ◌+◌, ◌*◌, ◌-◌, ◌/◌, ◌%◌, ◌<◌, ◌≤◌, true, false, ap, sym, ◌∙◌, arith, nat_lt, ◌⊎◌, inl, inr}
use Rattle.std.specs.Prelude.{not}
use Rattle.std.proofs.Math.Nat.{mod-add-mod, add-mod_right, mod-lt, mod-eq_of_lt, mod-eq-sub-mod, mod-add-div', add-mul-mod_self_right, add-mul, mul-add, mod-mod}
use Rattle.std.proofs.lemmas.Bool.{cases_lt, lt-ltb, le-ltb}
use Rattle.usb_rings.specs.Places.{index_of, cycle_of, after}

-- a number so many on, at most t: its rest by t goes on, or begins again
abbrev pub Next : ℕ → ℕ → ℕ → Type 0
Next t p k = (((p + k) % t ≡ p % t + k) × (p % t + k < t)) ⊎ (((p + k) % t + t ≡ p % t + k) × (t ≤ p % t + k))

-- it does one of the two
pub mod-next : (t p k : ℕ) → 0 < t → k ≤ t → Next t p k
mod-next t p k h few = by_size (cases_lt (p % t + k) t)
  where
    by_size : (p % t + k < t) ⊎ (t ≤ p % t + k) → Next t p k
    by_size (inl near) = inl (sym (mod-add-mod p t k) ∙ mod-eq_of_lt near, near)
    by_size (inr far) =
        let low : p % t < t = mod-lt p h in
        let small : p % t + k - t < t = omega arith in
        let e : (p + k) % t ≡ p % t + k - t = sym (mod-add-mod p t k) ∙ mod-eq-sub-mod far ∙ mod-eq_of_lt small in
        inr (omega (arith, e), far)

-- a place is in the first turn or in the second
abbrev pub Half : ℕ → ℕ → Type 0
Half w p = ((p % (w + w) < w) × (p % w ≡ p % (w + w)) × (cycle_of w p ≡ true)) ⊎ ((w ≤ p % (w + w)) × (p % w + w ≡ p % (w + w)) × (cycle_of w p ≡ false))

-- it is in one of the two
pub halves : (w p : ℕ) → 0 < w → Half w p
halves w p h = by_half (cases_lt (p % (w + w)) w)
  where
    index-two : p % w ≡ p % (w + w) % w
    index-two =
        let twice : p / (w + w) * (w + w) ≡ (p / (w + w) + p / (w + w)) * w = mul-add (p / (w + w)) w w ∙ sym (add-mul (p / (w + w)) (p / (w + w)) w) in
        ap (λ (x : ℕ). x % w) (sym (mod-add-div' p (w + w)) ∙ ap (λ (x : ℕ). p % (w + w) + x) twice)
        ∙ add-mul-mod_self_right (p % (w + w)) (p / (w + w) + p / (w + w)) w

    by_half : (p % (w + w) < w) ⊎ (w ≤ p % (w + w)) → Half w p
    by_half (inl near) = inl (near, index-two ∙ mod-eq_of_lt near, lt-ltb (p % (w + w)) w near)
    by_half (inr far) =
        let two : 0 < w + w = omega arith in
        let low : p % (w + w) < w + w = mod-lt p two in
        let small : p % (w + w) - w < w = omega arith in
        let e : p % w ≡ p % (w + w) - w = index-two ∙ mod-eq-sub-mod far ∙ mod-eq_of_lt small in
        inr (far, omega (arith, e), le-ltb (p % (w + w)) w far)

-- places that are equal over two turns have the same index ..
pub index-same : (w p q : ℕ) → 0 < w → p % (w + w) ≡ q % (w + w) → p % w ≡ q % w
index-same w p q h e = by_halves (halves w p h) (halves w q h)
  where
    by_halves : Half w p → Half w q → p % w ≡ q % w
    by_halves (inl a) (inl b) = a.1 ∙ e ∙ sym b.1
    by_halves (inl a) (inr b) = absurd (omega (arith, a.0, b.0))
    by_halves (inr a) (inl b) = absurd (omega (arith, a.0, b.0))
    by_halves (inr a) (inr b) = omega (arith, a.1, b.1)

-- .. and the same cycle
pub cycle-same : (w p q : ℕ) → p % (w + w) ≡ q % (w + w) → cycle_of w p ≡ cycle_of w q
cycle-same w p q h = ap (λ (r : ℕ). nat_lt r w) h

-- places so many behind places that are equal over two turns are equal over two turns
pub same-add : (t p q k : ℕ) → p % t ≡ q % t → (p + k) % t ≡ (q + k) % t
same-add t p q k h = sym (mod-add-mod p t k) ∙ ap (λ (r : ℕ). (r + k) % t) h ∙ mod-add-mod q t k

-- so one behind them
pub same-suc : (t p q : ℕ) → p % t ≡ q % t → suc p % t ≡ suc q % t
same-suc t p q h =
    let a : p + 1 ≡ suc p = omega arith in
    let b : q + 1 ≡ suc q = omega arith in
    ap (λ (x : ℕ). x % t) (sym a) ∙ same-add t p q 1 h ∙ ap (λ (x : ℕ). x % t) b

-- a turn on there is the same index ..
pub index-turn : (w p : ℕ) → (p + w) % w ≡ p % w
index-turn w p = add-mod_right p w

-- .. and the other cycle
pub cycle-turn : (w p : ℕ) → 0 < w → cycle_of w (p + w) ≡ not (cycle_of w p)
cycle-turn w p h = by_halves (halves w p h) (mod-next (w + w) p w (omega arith) (omega arith))
  where
    by_halves : Half w p → Next (w + w) p w → cycle_of w (p + w) ≡ not (cycle_of w p)
    by_halves (inl a) (inl b) = le-ltb ((p + w) % (w + w)) w (omega (arith, a.0, b.0)) ∙ ap not (sym a.2)
    by_halves (inl a) (inr b) = absurd (omega (arith, a.0, b.1))
    by_halves (inr a) (inl b) = absurd (omega (arith, a.0, b.1))
    by_halves (inr a) (inr b) =
        let two : 0 < w + w = omega arith in
        let low = mod-lt p two in
        lt-ltb ((p + w) % (w + w)) w (omega (arith, b.0, low)) ∙ ap not (sym a.2)

-- two places less than a turn apart have two indices
pub index-apart : (w p q : ℕ) → p < q → q < p + w → q % w ≡ p % w → ⊥
index-apart w p q h k e = by_next (mod-next w p (q - p) (omega arith) (omega arith))
  where
    by_next : Next w p (q - p) → ⊥
    by_next (inl a) =
        let at : (p + (q - p)) % w ≡ q % w = ap (λ (x : ℕ). x % w) (omega arith) in
        omega (arith, a.0, at, e)
    by_next (inr a) =
        let at : (p + (q - p)) % w ≡ q % w = ap (λ (x : ℕ). x % w) (omega arith) in
        omega (arith, a.0, at, e)

-- two places less than two turns apart have two indices, but for those a turn apart
pub index-apart2 : (w p q : ℕ) → p < q → q < p + (w + w) → (q ≡ p + w → ⊥) → q % w ≡ p % w → ⊥
index-apart2 w p q a b n e = by_turn (cases_lt q (p + w))
  where
    by_turn : (q < p + w) ⊎ (p + w ≤ q) → ⊥
    by_turn (inl near) = index-apart w p q a near e
    by_turn (inr far) = by_two (cases_lt (p + w) q)
      where
        by_two : (p + w < q) ⊎ (q ≤ p + w) → ⊥
        by_two (inl more) = index-apart w (p + w) q more (omega arith) (e ∙ sym (index-turn w p))
        by_two (inr less) = n (omega arith)

-- behind the last index the cycle turns, and stays so for a turn ..
pub cycle-within : (w p e : ℕ) → suc (index_of w p) ≡ w → p < e → e ≤ p + w → cycle_of w p ≡ not (cycle_of w e)
cycle-within w p e at a b = by_halves (halves w p (omega arith)) (mod-next (w + w) p (e - p) (omega arith) (omega arith))
  where
    there : (p + (e - p)) % (w + w) ≡ e % (w + w)
    there = ap (λ (x : ℕ). x % (w + w)) (omega arith)

    by_halves : Half w p → Next (w + w) p (e - p) → cycle_of w p ≡ not (cycle_of w e)
    by_halves (inl x) (inl y) = x.2 ∙ ap not (sym (le-ltb (e % (w + w)) w (omega (arith, there, x.1, y.0))))
    by_halves (inl x) (inr y) = absurd (omega (arith, x.1, y.1))
    by_halves (inr x) (inl y) = absurd (omega (arith, x.1, y.1))
    by_halves (inr x) (inr y) = x.2 ∙ ap not (sym (lt-ltb (e % (w + w)) w (omega (arith, there, x.1, y.0))))

-- so it does one place on
pub cycle-link : (w e : ℕ) → suc (index_of w e) ≡ w → cycle_of w e ≡ not (cycle_of w (suc e))
cycle-link w e at = cycle-within w e (suc e) at (omega arith) (omega arith)

-- .. and nowhere else
pub cycle-next : (w e : ℕ) → 0 < w → (suc (index_of w e) ≡ w → ⊥) → cycle_of w e ≡ cycle_of w (suc e)
cycle-next w e h at = by_halves (halves w e h) (mod-next (w + w) e 1 (omega arith) (omega arith))
  where
    there : (e + 1) % (w + w) ≡ suc e % (w + w)
    there = ap (λ (x : ℕ). x % (w + w)) (omega arith)

    by_halves : Half w e → Next (w + w) e 1 → cycle_of w e ≡ cycle_of w (suc e)
    by_halves (inl x) (inl y) = x.2 ∙ sym (lt-ltb (suc e % (w + w)) w (below (cases_lt (suc e % (w + w)) w)))
      where
        below : (suc e % (w + w) < w) ⊎ (w ≤ suc e % (w + w)) → suc e % (w + w) < w
        below (inl l) = l
        below (inr m) = absurd (at (omega (arith, there, x.0, x.1, y.0)))
    by_halves (inl x) (inr y) = absurd (omega (arith, x.0, y.1))
    by_halves (inr x) (inl y) = x.2 ∙ sym (le-ltb (suc e % (w + w)) w (omega (arith, there, x.0, y.0)))
    by_halves (inr x) (inr y) =
        let low : e % w < w = mod-lt e h in
        absurd (at (omega (arith, x.1, y.1)))

-- a place so many on, over two turns, is that place so many on
pub same-after : (w p n : ℕ) → after w p n % (w + w) ≡ (p + n) % (w + w)
same-after w p n = mod-mod (p + n) (w + w)

-- a place of the two turns
pub cycle-is : (w p : ℕ) → p < w + w → nat_lt p w ≡ cycle_of w p
cycle-is w p h = ap (λ (r : ℕ). nat_lt r w) (sym (mod-eq_of_lt h))

-- a place is its rest over two turns
pub same-mod : (t p : ℕ) → p % t % t ≡ p % t
same-mod t p = mod-mod p t
