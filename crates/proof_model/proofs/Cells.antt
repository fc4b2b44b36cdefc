-- A table of 4 devices times 256 cells, read and written; outside of it, what stands for all others.
use Rattle.std.proofs.Common.{◌≡◌, ℕ, ◌+◌, ◌*◌, ◌<◌, ◌==◌, nat_lt, Bool, true, false, ◌&&◌, List, length, slice_index_or, slice_set, refl, sym, ◌∙◌, arith}
use Rattle.std.specs.Prelude.{if◌then◌else◌}
use Rattle.std.proofs.lemmas.Bool.{ltb-true, lt-ltb, eqb-true, eqb-false}
use Rattle.std.proofs.lemmas.List.{get_or-set_same, get_or-set_other, get_or_read}

-- the cell of a device and a byte
abbrev pub cell : {T : Type 0} → T → List T → ℕ → ℕ → T
cell other cells d k = if nat_lt d 4 && nat_lt k 256 then slice_index_or cells (256 * d + k) other else other

-- a cell within is read where it stands
pub cell_read : {T : Type 0} (other : T) (cells : List T) (d k : ℕ) → d < 4 → k < 256 → cell other cells d k ≡ slice_index_or cells (256 * d + k) other
cell_read other cells d k p q = rw (lt-ltb d 4 p, lt-ltb k 256 q)

-- and what is read there is the cell, whatever stands for the others
pub cell_is : {T : Type 0} (other : T) (cells : List T) (d k : ℕ) (x : T) → d < 4 → k < 256 → length cells ≡ 1024 → x ≡ slice_index_or cells (256 * d + k) x → cell other cells d k ≡ x
cell_is other cells d k x p q len e = cell_read other cells d k p q ∙ sym (get_or_read cells (256 * d + k) x (omega arith) e other)

-- a cell that is written changes, and no other
pub cell_put : {T : Type 0} (other : T) (cells : List T) (v : T) (dev byte d k : ℕ) → dev < 4 → byte < 256 → length cells ≡ 1024
    → cell other (slice_set cells (256 * dev + byte) v) d k ≡ (if (dev == d) && (byte == k) then v else cell other cells d k)
cell_put other cells v dev byte d k p q len = by_device (nat_lt d 4) refl
  where
    outside : (a b : Bool) → (a ≡ true → b ≡ true → ⊥) → other ≡ (if a && b then v else other)
    outside true true no_one = absurd (no_one refl refl)
    outside true false no_one = refl
    outside false b no_one = refl

    same : (a b : Bool) → (dev == d) ≡ a → (byte == k) ≡ b → k < 256 → slice_index_or (slice_set cells (256 * dev + byte) v) (256 * d + k) other ≡ (if a && b then v else slice_index_or cells (256 * d + k) other)
    same true true e f r = rw (← eqb-true dev d e, ← eqb-true byte k f) (get_or-set_same cells (256 * dev + byte) v other (omega arith))
    same true false e f r = let e' = eqb-true dev d e in get_or-set_other cells (256 * dev + byte) (256 * d + k) v other (λ x. eqb-false byte k f (omega arith))
    same false b e f r = get_or-set_other cells (256 * dev + byte) (256 * d + k) v other (λ x. eqb-false dev d e (omega arith))

    past_byte : byte ≡ k → nat_lt k 256 ≡ false → ⊥
    past_byte same_byte e = cc (lt-ltb k 256 (omega arith))

    past_device : dev ≡ d → nat_lt d 4 ≡ false → ⊥
    past_device same_device e = cc (lt-ltb d 4 (omega arith))

    by_byte : (b : Bool) → nat_lt k 256 ≡ b → (if b then slice_index_or (slice_set cells (256 * dev + byte) v) (256 * d + k) other else other) ≡ (if (dev == d) && (byte == k) then v else (if b then slice_index_or cells (256 * d + k) other else other))
    by_byte true e = same (dev == d) (byte == k) refl refl (ltb-true k 256 e)
    by_byte false e = outside (dev == d) (byte == k) (λ x y. past_byte (eqb-true byte k y) e)

    by_device : (a : Bool) → nat_lt d 4 ≡ a → (if a && nat_lt k 256 then slice_index_or (slice_set cells (256 * dev + byte) v) (256 * d + k) other else other) ≡ (if (dev == d) && (byte == k) then v else (if a && nat_lt k 256 then slice_index_or cells (256 * d + k) other else other))
    by_device true e = by_byte (nat_lt k 256) refl
    by_device false e = outside (dev == d) (byte == k) (λ x y. past_device (eqb-true dev d x) e)

-- cells that are changed alike read changed, where what stands for the others is kept
pub cells_changed : {T : Type 0} (f : T → T) (other : T) (cells after : List T) → f other ≡ other → ((k : ℕ) → k < 1024 → slice_index_or after k other ≡ f (slice_index_or cells k other))
    → (d k : ℕ) → cell other after d k ≡ f (cell other cells d k)
cells_changed f other cells after kept same d k = by_device (nat_lt d 4) (nat_lt k 256) refl refl
  where
    by_device : (a b : Bool) → nat_lt d 4 ≡ a → nat_lt k 256 ≡ b → (if a && b then slice_index_or after (256 * d + k) other else other) ≡ f (if a && b then slice_index_or cells (256 * d + k) other else other)
    by_device true true p q = same (256 * d + k) (let p' = ltb-true d 4 p in let q' = ltb-true k 256 q in omega arith)
    by_device true false p q = sym kept
    by_device false b p q = sym kept

-- a table whose cells all read the same
pub cells_same : {T : Type 0} (other : T) (cells : List T) → ((k : ℕ) → slice_index_or cells k other ≡ other) → (d k : ℕ) → cell other cells d k ≡ other
cells_same other cells same d k = by_test (nat_lt d 4 && nat_lt k 256)
  where
    by_test : (b : Bool) → (if b then slice_index_or cells (256 * d + k) other else other) ≡ other
    by_test true = same (256 * d + k)
    by_test false = refl
