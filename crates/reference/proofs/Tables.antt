-- The plain program's tables of cells, read and written.
use Rattle.std.proofs.Common.{◌≡◌, ℕ, zero, suc, ◌+◌, ◌*◌, ◌<◌, ◌==◌, ◌&&◌, List, [], ◌∷◌, ◌++◌, length, slice_index_or, slice_set, refl}
use Rattle.std.specs.Prelude.{if◌then◌else◌}
use Rattle.proof_model.proofs.Cells as cells
use Rattle.reference.specs.Tables.{cell_at}

-- what is read at a cell's place is the cell, whatever stands for the others
pub cell_is : {T : Type 0} (other : T) (table : List T) (d k : ℕ) (x : T) → d < 4 → k < 256 → length table ≡ 1024 → x ≡ slice_index_or table (256 * d + k) x → cell_at other table d k ≡ x
unfolding cell_at
cell_is other table d k x p q len e = cells.cell_is other table d k x p q len e

-- a cell that is written changes, and no other
pub cell_put : {T : Type 0} (other : T) (table : List T) (v : T) (dev byte d k : ℕ) → dev < 4 → byte < 256 → length table ≡ 1024
    → cell_at other (slice_set table (256 * dev + byte) v) d k ≡ (if (dev == d) && (byte == k) then v else cell_at other table d k)
unfolding cell_at
cell_put other table v dev byte d k p q len = cells.cell_put other table v dev byte d k p q len

-- a list in which each place reads the same has it with one more of these
pub one_more_same : {T : Type 0} (x : T) (table : List T) → ((k : ℕ) → slice_index_or table k x ≡ x) → (k : ℕ) → slice_index_or (table ++ x ∷ []) k x ≡ x
one_more_same x [] same zero = refl
one_more_same x [] same (suc k) = refl
one_more_same x (y ∷ table) same zero = same zero
one_more_same x (y ∷ table) same (suc k) = one_more_same x table (λ j. same (suc j)) k

-- cells that are changed alike read changed, where what stands for the others is kept
pub cells_changed : {T : Type 0} (f : T → T) (other : T) (table after : List T) → f other ≡ other → ((k : ℕ) → k < 1024 → slice_index_or after k other ≡ f (slice_index_or table k other))
    → (d k : ℕ) → cell_at other after d k ≡ f (cell_at other table d k)
unfolding cell_at
cells_changed f other table after kept same d k = cells.cells_changed f other table after kept same d k

-- a table whose cells all read the same
pub cells_same : {T : Type 0} (other : T) (table : List T) → ((k : ℕ) → slice_index_or table k other ≡ other) → (d k : ℕ) → cell_at other table d k ≡ other
unfolding cell_at
cells_same other table same d k = cells.cells_same other table same d k
