-- A line, item by item.
use Rattle.std.proofs.Common.{◌≡◌, ℕ, zero, suc, ◌+◌, ◌<◌, refl, ap, subst, ◌∙◌, arith, List, [], ◌∷◌, ◌++◌, length, drop, Option, Some, None, Bool}
use Rattle.std.specs.Prelude.{slice_get, slice_set, slice_index_or, is_none, if◌then◌else◌}
use Rattle.std.specs.List.{prefix_len}
use Rattle.std.proofs.lemmas.Option.{same_Some}
use Rattle.usb_model.specs.Kept.{KeptTransfer}
use Rattle.usb_model.specs.Events.{past_kept_blanks}
use Rattle.usb_tables.specs.declared.transfer.Transfer.{Transfer as InFlight}
use Rattle.refine_core.specs.State.{AllItems, IsItem}

module _ {P : Type 0} (name : Option ℕ) (e : ℕ) where
  -- as many items as transfers
  pub as_many : (xs : List (Option (InFlight P))) (ys : List KeptTransfer) → AllItems name e xs ys → length xs ≡ length ys
  as_many [] [] all = refl
  as_many (x ∷ xs) (y ∷ ys) all = ap suc (as_many xs ys all.1)
  as_many [] (y ∷ ys) all = absurd all
  as_many (x ∷ xs) [] all = absurd all

  -- the item of a kept transfer
  pub item_of : (xs : List (Option (InFlight P))) (ys : List KeptTransfer) (i : ℕ) (y : KeptTransfer) → AllItems name e xs ys → slice_get ys i ≡ Some y → (x : Option (InFlight P)) × (slice_get xs i ≡ Some x) × IsItem name e x y
  item_of [] [] i y all there = absurd cc
  item_of (x ∷ xs) (z ∷ ys) zero y all there = (x, refl, subst (λ (v : KeptTransfer). IsItem name e x v) (same_Some z y there) all.0)
  item_of (x ∷ xs) (z ∷ ys) (suc i) y all there = item_of xs ys i y all.1 there
  item_of [] (y ∷ ys) i z all there = absurd all
  item_of (x ∷ xs) [] i z all there = absurd all

  -- the kept transfer of an item
  pub kept_of : (xs : List (Option (InFlight P))) (ys : List KeptTransfer) (i : ℕ) (x : Option (InFlight P)) → AllItems name e xs ys → slice_get xs i ≡ Some x → (y : KeptTransfer) × (slice_get ys i ≡ Some y) × IsItem name e x y
  kept_of [] [] i x all there = absurd cc
  kept_of (z ∷ xs) (y ∷ ys) zero x all there = (y, refl, subst (λ (v : Option (InFlight P)). IsItem name e v y) (same_Some z x there) all.0)
  kept_of (z ∷ xs) (y ∷ ys) (suc i) x all there = kept_of xs ys i x all.1 there
  kept_of [] (y ∷ ys) i x all there = absurd all
  kept_of (z ∷ xs) [] i x all there = absurd all

  -- another item in the place of one
  pub set_item : (xs : List (Option (InFlight P))) (ys : List KeptTransfer) (i : ℕ) (x : Option (InFlight P)) (y : KeptTransfer) → AllItems name e xs ys → IsItem name e x y → AllItems name e (slice_set xs i x) (slice_set ys i y)
  set_item [] [] i x y all is = tt
  set_item (z ∷ xs) (w ∷ ys) zero x y all is = (is, all.1)
  set_item (z ∷ xs) (w ∷ ys) (suc i) x y all is = (all.0, set_item xs ys i x y all.1 is)
  set_item [] (w ∷ ys) i x y all is = absurd all
  set_item (z ∷ xs) [] i x y all is = absurd all

  -- the first items leave
  pub drop_items : (n : ℕ) (xs : List (Option (InFlight P))) (ys : List KeptTransfer) → AllItems name e xs ys → AllItems name e (drop n xs) (drop n ys)
  drop_items zero xs ys all = all
  drop_items (suc n) [] [] all = tt
  drop_items (suc n) (x ∷ xs) (y ∷ ys) all = drop_items n xs ys all.1
  drop_items (suc n) [] (y ∷ ys) all = absurd all
  drop_items (suc n) (x ∷ xs) [] all = absurd all

  -- one more joins
  pub join_item : (xs : List (Option (InFlight P))) (ys : List KeptTransfer) (x : Option (InFlight P)) (y : KeptTransfer) → AllItems name e xs ys → IsItem name e x y → AllItems name e (xs ++ x ∷ []) (ys ++ y ∷ [])
  join_item [] [] x y all is = (is, tt)
  join_item (z ∷ xs) (w ∷ ys) x y all is = (all.0, join_item xs ys x y all.1 is)
  join_item [] (w ∷ ys) x y all is = absurd all
  join_item (z ∷ xs) [] x y all is = absurd all

-- what a look-up with a default finds, where there is something
pub index_get : {A : Type 0} (xs : List A) (i : ℕ) (z x : A) → slice_get xs i ≡ Some x → slice_index_or xs i z ≡ x
index_get [] i z x there = absurd cc
index_get (y ∷ ys) zero z x there = same_Some y x there
index_get (y ∷ ys) (suc i) z x there = index_get ys i z x there

-- what was set is found
pub index_set : {A : Type 0} (xs : List A) (i : ℕ) (z x : A) → i < length xs → slice_index_or (slice_set xs i x) i z ≡ x
index_set [] i z x l = absurd (omega (arith, l))
index_set (y ∷ ys) zero z x l = refl
index_set (y ∷ ys) (suc i) z x l = index_set ys i z x (omega (arith, l))

-- the others stay
pub index_set_other : {A : Type 0} (xs : List A) (i j : ℕ) (z x : A) → (j ≡ i → ⊥) → slice_index_or (slice_set xs i x) j z ≡ slice_index_or xs j z
index_set_other [] i j z x other = refl
index_set_other (y ∷ ys) zero zero z x other = absurd (other refl)
index_set_other (y ∷ ys) zero (suc j) z x other = refl
index_set_other (y ∷ ys) (suc i) zero z x other = refl
index_set_other (y ∷ ys) (suc i) (suc j) z x other = index_set_other ys i j z x (λ h. other (ap suc h))

-- a list is as long as before
pub set_length : {A : Type 0} (xs : List A) (i : ℕ) (x : A) → length (slice_set xs i x) ≡ length xs
set_length [] i x = refl
set_length (y ∷ ys) zero x = refl
set_length (y ∷ ys) (suc i) x = ap suc (set_length ys i x)

-- one more
one_more : (n : ℕ) → suc n ≡ 1 + n
one_more n = omega arith

module _ {P : Type 0} (name : Option ℕ) (e : ℕ) where
  -- the blanks that lead a line are those that lead its items
  pub past_blanks : (xs : List (Option (InFlight P))) (ys : List KeptTransfer) → AllItems name e xs ys → past_kept_blanks ys ≡ drop (prefix_len is_none xs) ys
  unfolding past_kept_blanks
  past_blanks [] [] all = refl
  past_blanks (None ∷ xs) (y ∷ ys) all = ap (λ (b : Bool). if b then past_kept_blanks ys else y ∷ ys) all.0 ∙ past_blanks xs ys all.1 ∙ ap (λ (n : ℕ). drop n (y ∷ ys)) (one_more (prefix_len is_none xs))
  past_blanks (Some t ∷ xs) (y ∷ ys) all = ap (λ (b : Bool). if b then past_kept_blanks ys else y ∷ ys) all.0.live
  past_blanks [] (y ∷ ys) all = absurd all
  past_blanks (x ∷ xs) [] all = absurd all
