-- How many places stand between two.
use Rattle.std.proofs.Common.{◌≡◌, ℕ, suc, ◌+◌, ◌-◌, ◌%◌, ◌<◌, ap, sym, ◌∙◌, arith}
use Rattle.std.proofs.Math.Nat.{mod-add-mod, add-mod-mod, add-mod_right, mod-eq_of_lt}
use Rattle.usb_rings.specs.Places.{after}
use Rattle.usb_rings.specs.Ring.{between}

-- so many places behind dequeue is enqueue
pub between-end : (w d e : ℕ) → d < w + w → e < w + w → (d + between w d e) % (w + w) ≡ e
between-end w d e p q =
    let all : d + (e + (w + w) - d) ≡ e + (w + w) = omega arith in
    add-mod-mod d (e + (w + w) - d) (w + w) ∙ ap (λ (x : ℕ). x % (w + w)) all ∙ add-mod_right e (w + w) ∙ mod-eq_of_lt q

-- a number that leads there is it
pub between-is : (w d e n : ℕ) → d < w + w → n < w + w → (d + n) % (w + w) ≡ e → between w d e ≡ n
between-is w d e n p q h =
    let parts : e + (w + w) - d ≡ e + (w + w - d) = omega arith in
    let all : d + n + (w + w - d) ≡ n + (w + w) = omega arith in
    ap (λ (x : ℕ). x % (w + w)) parts ∙ ap (λ (x : ℕ). (x + (w + w - d)) % (w + w)) (sym h)
    ∙ mod-add-mod (d + n) (w + w) (w + w - d) ∙ ap (λ (x : ℕ). x % (w + w)) all ∙ add-mod_right n (w + w) ∙ mod-eq_of_lt q

-- so many places before enqueue is dequeue
pub between-start : (w d e n : ℕ) → d < w + w → n < w + w → (d + n) % (w + w) ≡ e → (e + (w + w) - n) % (w + w) ≡ d
between-start w d e n p q h =
    let parts : e + (w + w) - n ≡ e + (w + w - n) = omega arith in
    let all : d + n + (w + w - n) ≡ d + (w + w) = omega arith in
    ap (λ (x : ℕ). x % (w + w)) parts ∙ ap (λ (x : ℕ). (x + (w + w - n)) % (w + w)) (sym h)
    ∙ mod-add-mod (d + n) (w + w) (w + w - n) ∙ ap (λ (x : ℕ). x % (w + w)) all ∙ add-mod_right d (w + w) ∙ mod-eq_of_lt p

-- enqueue goes on
pub between-post : (w d e : ℕ) → d < w + w → e < w + w → suc (between w d e) < w + w → between w d (after w e 1) ≡ suc (between w d e)
between-post w d e p q few =
    let next : d + suc (between w d e) ≡ d + between w d e + 1 = omega arith in
    between-is w d (after w e 1) (suc (between w d e)) p few
    (ap (λ (x : ℕ). x % (w + w)) next ∙ sym (mod-add-mod (d + between w d e) (w + w) 1) ∙ ap (λ (x : ℕ). (x + 1) % (w + w)) (between-end w d e p q))

-- dequeue goes on
pub between-take : (w d e n : ℕ) → d < w + w → e < w + w → after w d 1 < w + w → between w d e ≡ suc n → n < w + w → between w (after w d 1) e ≡ n
between-take w d e n p q low h few =
    let next : d + 1 + n ≡ d + suc n = omega arith in
    between-is w (after w d 1) e n low few
    (mod-add-mod (d + 1) (w + w) n ∙ ap (λ (x : ℕ). x % (w + w)) next ∙ ap (λ (x : ℕ). (d + x) % (w + w)) (sym h) ∙ between-end w d e p q)
