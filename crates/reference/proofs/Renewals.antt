-- Endpoints that are made new one after another.
use Rattle.std.proofs.Common.{◌≡◌, ℕ, ◌+◌, ◌==◌, nat_lt, Bool, true, false, ◌&&◌, List, slice_index_or, ◌*◌, refl, sym, ap, ◌∙◌, arith}
use Rattle.std.specs.Prelude.{if◌then◌else◌}
use Rattle.std.proofs.lemmas.Bool.{ltb-true, lt-ltb, eqb-true, eqb-false, ltb-false, le-ltb}
use Rattle.reference.specs.Tables.{cell_at}

-- below a number, or it: below the next
below_or_it : (k e : ℕ) (b : Bool) → (k == e) ≡ b → (if b then true else nat_lt e k) ≡ nat_lt e (k + 1)
below_or_it k e true same = sym (lt-ltb e (k + 1) (let same' = eqb-true k e same in omega arith))
below_or_it k e false other = by_test (nat_lt e k) refl
  where
    by_test : (c : Bool) → nat_lt e k ≡ c → c ≡ nat_lt e (k + 1)
    by_test true q = sym (lt-ltb e (k + 1) (let q' = ltb-true e k q in omega arith))
    by_test false q = sym (le-ltb e (k + 1) (let q' = ltb-false e k q in let o' = eqb-false k e other in omega arith))

-- a choice of two
either_choice : {T : Type 0} (f x : T) (r b c : Bool) → (if b && r then f else (if c && r then f else x)) ≡ (if (if b then true else c) && r then f else x)
either_choice f x r true c = by_test r
  where
    by_test : (s : Bool) → (if s then f else (if c && s then f else x)) ≡ (if s then f else x)
    by_test true = refl
    by_test false = no_more c
      where
        no_more : (d : Bool) → (if d && false then f else x) ≡ x
        no_more true = refl
        no_more false = refl
either_choice f x r false c = refl

-- one more place is made new
pub one_more : {T : Type 0} (f x : T) (r : Bool) (k e : ℕ) → (if (k == e) && r then f else (if nat_lt e k && r then f else x)) ≡ (if nat_lt e (k + 1) && r then f else x)
one_more f x r k e = either_choice f x r (k == e) (nat_lt e k) ∙ ap (λ b. if b && r then f else x) (below_or_it k e (k == e) refl)

-- one more place of those that pass a test
pub one_more_of : {T : Type 0} (f x : T) (a r : Bool) (k e : ℕ) → (if (a && (k == e)) && r then f else (if (a && nat_lt e k) && r then f else x)) ≡ (if (a && nat_lt e (k + 1)) && r then f else x)
one_more_of f x false r k e = refl
one_more_of f x true r k e = one_more f x r k e

-- none is made new yet
pub none_yet : {T : Type 0} (f x : T) (a r : Bool) (e : ℕ) → x ≡ (if (a && nat_lt e 0) && r then f else x)
none_yet f x a r e = rw (le-ltb e 0 (omega arith)) (by_test a)
  where
    by_test : (b : Bool) → x ≡ (if (b && false) && r then f else x)
    by_test true = refl
    by_test false = refl

-- what lies outside the table stands for itself
pub outside_byte : {T : Type 0} (other : T) (cells : List T) (d k : ℕ) → nat_lt k 256 ≡ false → cell_at other cells d k ≡ other
unfolding cell_at
outside_byte other cells d k e = rw e (by_test (nat_lt d 4))
  where
    by_test : (b : Bool) → (if b && false then slice_index_or cells (256 * d + k) other else other) ≡ other
    by_test true = refl
    by_test false = refl

-- nor does what lies outside the devices
pub outside_device : {T : Type 0} (other : T) (cells : List T) (d k : ℕ) → nat_lt d 4 ≡ false → cell_at other cells d k ≡ other
unfolding cell_at
outside_device other cells d k e = rw e

-- once all places within are made new, all are: outside they were so from the beginning
pub all_made : {T : Type 0} (f x : T) (a w r : Bool) → (w ≡ false → x ≡ f) → (if (a && w) && r then f else x) ≡ (if a && r then f else x)
all_made f x false w r outside = refl
all_made f x true true r outside = refl
all_made f x true false true outside = outside refl
all_made f x true false false outside = refl

-- one more place is changed
pub one_more_changed : {T : Type 0} (f : T → T) (x : T) (i k : ℕ) → (if i == k then f (if nat_lt k i then f x else x) else (if nat_lt k i then f x else x)) ≡ (if nat_lt k (i + 1) then f x else x)
one_more_changed {T = T} f x i k = by_test (i == k) refl ∙ ap (λ b. if b then f x else x) (below_or_it i k (i == k) refl)
  where
    by_test : (b : Bool) → (i == k) ≡ b → (if b then f (if nat_lt k i then f x else x) else (if nat_lt k i then f x else x)) ≡ (if (if b then true else nat_lt k i) then f x else x)
    by_test true e = rw (le-ltb k i (let e' = eqb-true i k e in omega arith))
    by_test false e = refl
