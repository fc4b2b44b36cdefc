-- The table of owners, read and written.
use Rattle.std.proofs.Common.{◌≡◌, ℕ, ◌+◌, ◌*◌, ◌<◌, ◌==◌, nat_lt, Bool, true, false, ◌&&◌, List, length, Option, Some, None, slice_index_or, slice_set, refl, sym}
use Rattle.std.specs.Prelude.{if◌then◌else◌}
use Rattle.std.proofs.lemmas.Bool.{ltb-true}
use Rattle.usb_model.specs.World.{is_its}
use Rattle.proof_model.proofs.Cells.{cell_is, cell_put, cells_changed, cells_same}
use Rattle.usb_tables.specs.Tables.{owner_at, freed}

-- what is read at an interface's place is its owner
pub owner_is : (owners : List (Option ℕ)) (d i : ℕ) (x : Option ℕ) → d < 4 → i < 256 → length owners ≡ 1024 → x ≡ slice_index_or owners (256 * d + i) x → x ≡ owner_at owners d i
unfolding owner_at
owner_is owners d i x p q len e = sym (cell_is None owners d i x p q len e)

-- an owner that is written changes, and no other
pub owner_put : (owners : List (Option ℕ)) (v : Option ℕ) (dev i d k : ℕ) → dev < 4 → i < 256 → length owners ≡ 1024
    → owner_at (slice_set owners (256 * dev + i) v) d k ≡ (if (dev == d) && (i == k) then v else owner_at owners d k)
unfolding owner_at
owner_put owners v dev i d k p q len = cell_put None owners v dev i d k p q len

-- where the name is taken from each place, it is from each interface
pub all_freed : (h : ℕ) (owners after : List (Option ℕ)) → ((k : ℕ) → k < 1024 → slice_index_or after k None ≡ freed h (slice_index_or owners k None))
    → (d i : ℕ) → owner_at after d i ≡ freed h (owner_at owners d i)
unfolding owner_at
all_freed h owners after same d i = cells_changed (freed h) None owners after refl same d i

-- a table in which each place reads as nobody
pub all_none : (owners : List (Option ℕ)) → ((k : ℕ) → slice_index_or owners k None ≡ None) → (d i : ℕ) → owner_at owners d i ≡ None
unfolding owner_at
all_none owners same d i = cells_same None owners same d i

-- nobody holds an interface of a device that can't be
pub nobody_past : (owners : List (Option ℕ)) (d i h : ℕ) → owner_at owners d i ≡ Some h → d < 4
unfolding owner_at
nobody_past owners d i h e = by_test (nat_lt d 4) refl e
  where
    by_test : (a : Bool) → nat_lt d 4 ≡ a → (if a && nat_lt i 256 then slice_index_or owners (256 * d + i) None else None) ≡ Some h → d < 4
    by_test true p q = ltb-true d 4 p
    by_test false p q = absurd cc

-- where the name is the owner, it is dropped as if nobody had asked who it is
pub dropped : (h : ℕ) (here : Bool) (o : Option ℕ) → (here ≡ true → is_its h o ≡ true) → (if here then None else o) ≡ (if here && is_its h o then None else o)
dropped h true o its = rw (its refl)
dropped h false o its = refl
