-- The endpoints from a place on, one by one.
use Rattle.std.proofs.Common.{◌≡◌, ℕ, suc, ◌+◌, ◌-◌, ◌%◌, ◌<◌, ◌≤◌, Bool, true, false, ap, ◌∙◌, arith, ◌∷◌, Option, Some, None}
use Rattle.std.specs.Prelude.{find, if◌then◌else◌}
use Rattle.usb_core.specs.Pending.{end_of, ends_from}

module _ (test : ℕ × ℕ → Bool) (start i : ℕ) where
  -- what is found from here on
  abbrev pub from_here : Option (ℕ × ℕ)
  from_here = find test (ends_from (120 - i) (start + i))

  -- the next one is the first
  next_is : i < 120 → ends_from (120 - i) (start + i) ≡ end_of ((start + i) % 120) ∷ ends_from (120 - (i + 1)) (start + (i + 1))
  unfolding ends_from
  next_is below =
      let more : 120 - i ≡ suc (120 - (i + 1)) = omega (arith, below) in
      let on : start + i + 1 ≡ start + (i + 1) = omega arith in
      ap (λ (n : ℕ). ends_from n (start + i)) more ∙ ap (λ (k : ℕ). end_of ((start + i) % 120) ∷ ends_from (120 - (i + 1)) k) on

  -- it is passed
  pub passes : i < 120 → test (end_of ((start + i) % 120)) ≡ false → from_here ≡ find test (ends_from (120 - (i + 1)) (start + (i + 1)))
  passes below nothing = ap (find test) (next_is below) ∙ ap (λ (b : Bool). if b then Some (end_of ((start + i) % 120)) else find test (ends_from (120 - (i + 1)) (start + (i + 1)))) nothing

  -- or it is found
  pub finds : i < 120 → test (end_of ((start + i) % 120)) ≡ true → from_here ≡ Some (end_of ((start + i) % 120))
  finds below there = ap (find test) (next_is below) ∙ ap (λ (b : Bool). if b then Some (end_of ((start + i) % 120)) else find test (ends_from (120 - (i + 1)) (start + (i + 1)))) there

  -- behind the last there is none
  pub ends : 120 ≤ i → from_here ≡ None
  unfolding ends_from
  ends all =
      let none : 120 - i ≡ 0 = omega (arith, all) in
      ap (λ (n : ℕ). find test (ends_from n (start + i))) none

-- from the beginning
pub begins : (test : ℕ × ℕ → Bool) (start : ℕ) → find test (ends_from 120 start) ≡ from_here test start 0
begins test start =
    let same : start ≡ start + 0 = omega arith in
    ap (λ (k : ℕ). find test (ends_from 120 k)) same
