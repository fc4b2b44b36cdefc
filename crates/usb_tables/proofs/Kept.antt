-- What a caller sees stays, where the store changes at a key that counts nothing.
use Rattle.std.proofs.Common.{◌≡◌, ◌≢◌, ℕ, ◌==◌, Bool, true, false, List, [], ◌∷◌, Option, Some, None, refl, arith}
use Rattle.std.proofs.lemmas.Bool.{eqb-true, eq-eqb}
use Rattle.usb_tables.specs.Store.{Slots, transfer_at}
use Rattle.usb_tables.specs.declared.ending.Waiting.{Waiting}
use Rattle.usb_tables.specs.Places.{seen, seen_line, seen_lines, seen_ended, weight, line_weight, lines_weight, ended_weight, one_at}

-- each other key has what it had
abbrev pub KeptBut : {T : Type 0} → Slots T → Slots T → ℕ → Type 0
KeptBut s r key = (other : ℕ) → other ≢ key → transfer_at r other ≡ transfer_at s other

-- a key counts itself
pub one-same : (key : ℕ) → one_at key key ≡ 1
one-same key = rw (eq-eqb key key refl)

-- and no other
pub one-none : (key other : ℕ) → one_at key other ≡ 0 → other ≢ key
one-none key other e = λ same. absurd (by_test (eq-eqb other key same))
  where
    by_test : (other == key) ≡ true → ⊥
    by_test t = let x : one_at key other ≡ 1 = rw t refl in omega arith

pub one-other : (key other : ℕ) → other ≢ key → one_at key other ≡ 0
one-other key other differs = by_test (other == key) refl
  where
    by_test : (b : Bool) → (other == key) ≡ b → one_at key other ≡ 0
    by_test true t = absurd (differs (eqb-true other key t))
    by_test false t = rw t refl

module _ {T : Type 0} (s r : Slots T) (key : ℕ) (kept : KeptBut s r key) where
  -- an item with another key
  pub item-kept : (x : Option ℕ) → weight (one_at key) x ≡ 0 → seen r x ≡ seen s x
  item-kept None none = refl
  item-kept (Some other) none = kept other (one-none key other none)

  -- a line without the key
  pub line-kept : (xs : List (Option ℕ)) → line_weight (one_at key) xs ≡ 0 → seen_line r xs ≡ seen_line s xs
  unfolding line_weight seen_line
  line-kept [] none = refl
  line-kept (x ∷ xs) none =
      let a = item-kept x (omega arith) in
      let b = line-kept xs (omega arith) in
      cc

  -- lines without the key
  pub lines-kept : (ls : List (List (Option ℕ))) → lines_weight (one_at key) ls ≡ 0 → seen_lines r ls ≡ seen_lines s ls
  unfolding lines_weight seen_lines
  lines-kept [] none = refl
  lines-kept (l ∷ ls) none =
      let a = line-kept l (omega arith) in
      let b = lines-kept ls (omega arith) in
      cc

  -- those that ended, without the key
  pub ended-kept : (ws : List Waiting) → ended_weight (one_at key) ws ≡ 0 → seen_ended r ws ≡ seen_ended s ws
  unfolding ended_weight seen_ended
  ended-kept [] none = refl
  ended-kept (w ∷ ws) none =
      let a : transfer_at r w.key ≡ transfer_at s w.key = kept w.key (one-none key w.key (omega arith)) in
      let b = ended-kept ws (omega arith) in
      rw (a, b) refl
