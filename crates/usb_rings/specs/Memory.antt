-- The bytes of a ring's segment (xHCI 1.2, 4.9.2 to 4.9.4).
use Rattle.std.specs.Prelude.{ℕ, suc, ◌+◌, ◌*◌, ◌^◌, ◌≤◌, ◌==◌, Bool, true, false, List, [], ◌∷◌, replicate, slice_set, get_or, if◌then◌else◌}
use Rattle.usb_trb.specs.declared.kind.TrbKind.{TrbKind}
use Rattle.usb_trb.specs.declared.kind.TrbKind.TheVariants.{Normal, Link}
use Rattle.usb_trb.specs.declared.trb.Trb.{Trb}
use Rattle.usb_trb.specs.Words.{trb_bytes}
use Rattle.usb_trb.specs.Read.{kind_of}
use Rattle.usb_rings.specs.Places.{index_of, cycle_of, IsWidth}

-- cells of 16 bytes, the first at the address base: one for each index, and one more for the Link where there is one
pub record Memory : Type 0 where
  pub base : ℕ
  pub cells : List (List ℕ)

-- the cell of a place
abbrev pub cell : ℕ → Memory → ℕ → List ℕ
cell width m p = get_or m.cells (index_of width p) []

-- what the TRB at a place says
abbrev pub kind_at : ℕ → Memory → ℕ → TrbKind
kind_at width m p = kind_of (cell width m p)

-- whether the next TRB belongs to the same transfer
abbrev pub chain_of : TrbKind → Bool
chain_of (Normal n) = n.chain
chain_of _ = false

-- a TRB as it is written at a place: with the cycle of the place
abbrev pub trb_at : ℕ → TrbKind → ℕ → Trb
trb_at width k p = record { kind = k; cycle = cycle_of width p }

-- the Link to the first cell: it toggles the cycle, and has CH where the transfer goes on behind it (xHCI 1.2, 6.4.4.1)
abbrev pub link_at : ℕ → Bool → Bool → Trb
link_at base chain cycle = record { kind = Link base true chain; cycle = cycle }

-- a cell as it is made
abbrev pub zeros : List ℕ
zeros = replicate 16 0

-- so many cells as they are made: zeros, and behind the last place the Link of a turn before the first. Where no cell is there, there is no Link
unfoldable pub cleared_cells : ℕ → ℕ → ℕ → List (List ℕ)
cleared_cells width size base = slice_set (replicate size zeros) width (trb_bytes (link_at base false false))

-- the memory of these cells
abbrev pub cleared : ℕ → ℕ → ℕ → Memory
cleared width size base = record { base = base; cells = cleared_cells width size base }

-- a TRB is written at a place. Behind the last place the Link gets its cycle and its CH; where no cell is there, there is no Link
abbrev pub put_cells : ℕ → ℕ → List (List ℕ) → ℕ → TrbKind → List (List ℕ)
put_cells width base cells p k =
    if suc (index_of width p) == width
    then slice_set (slice_set cells (index_of width p) (trb_bytes (trb_at width k p))) width (trb_bytes (link_at base (chain_of k) (cycle_of width p)))
    else slice_set cells (index_of width p) (trb_bytes (trb_at width k p))

-- the memory behind such a write
abbrev pub put : ℕ → Memory → ℕ → TrbKind → Memory
put width m p k = record { base = m.base; cells = put_cells width m.base m.cells p k }

-- TRBs are written at a place and those behind it
unfoldable pub puts : ℕ → Memory → ℕ → List TrbKind → Memory
puts width m p [] = m
puts width m p (k ∷ ks) = puts width (put width m p k) (suc p) ks

-- the cells fit below the end of addresses; the last of them may be a Link
pub record IsSegment (width base size : ℕ) : Type 0 where
  pub width_fits : IsWidth width
  pub cells : width ≤ size
  pub link : size ≤ suc width
  pub base_fits : base + 16 * size ≤ 2 ^ 64
