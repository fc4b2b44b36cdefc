-- A ring that one side posts to and the other takes from (xHCI 1.2, 4.9): the list of what waits, and the bytes that it stands in.
use Rattle.std.specs.Prelude.{ℕ, suc, ◌+◌, ◌-◌, ◌%◌, ◌<◌, ◌≤◌, ◌≡◌, not, List, [], length, get_or}
use Rattle.usb_trb.specs.declared.kind.TrbKind.{TrbKind}
use Rattle.usb_trb.specs.declared.kind.TrbKind.TheVariants.{NoOp}
use Rattle.usb_trb.specs.Words.{trb_bytes}
use Rattle.usb_trb.specs.Read.{cycle_in}
use Rattle.usb_rings.specs.Places.{cycle_of, IsWidth}
use Rattle.usb_rings.specs.Memory.{Memory, cell, kind_at, trb_at, chain_of, link_at, cleared}
use Rattle.usb_rings.specs.Written.{kinds, IsWritten, IsMemory}

-- posted: the place where the next TRB is put, which is how many were posted, over two turns. waits: the TRBs that were posted and not yet
-- taken, the oldest first; they stand before that place. memory: the bytes.
pub record Ring : Type 0 where
  pub posted : ℕ
  pub waits : List TrbKind
  pub memory : Memory

-- a ring in which nothing was posted
abbrev pub unused : Memory → Ring
unused m = record { posted = 0; waits = []; memory = m }

-- a ring of so many cells as it is made
abbrev pub empty : ℕ → ℕ → ℕ → Ring
empty width size base = unused (cleared width size base)

-- how many TRBs may wait: one place stays free, so that a full ring isn't taken for an empty one
abbrev pub capacity : ℕ → ℕ
capacity width = width - 1

-- the place of the oldest TRB that waits, or of the next one that is posted
abbrev pub dequeue_of : ℕ → Ring → ℕ
dequeue_of width r = (r.posted + (width + width) - length r.waits) % (width + width)

-- how many places from dequeue to enqueue
abbrev pub between : ℕ → ℕ → ℕ → ℕ
between width dequeue enqueue = (enqueue + (width + width) - dequeue) % (width + width)

-- the ring that stands in memory, by its two places
abbrev pub ring_in : ℕ → Memory → ℕ → ℕ → Ring
ring_in width m enqueue dequeue = record { posted = enqueue; waits = kinds width m dequeue (between width dequeue enqueue); memory = m }

-- what is kept of the bytes and the two places: less than a turn waits
pub record IsSound (width : ℕ) (m : Memory) (enqueue dequeue : ℕ) : Type 0 where
  pub width_fits : IsWidth width
  pub enqueue_fits : enqueue < width + width
  pub dequeue_fits : dequeue < width + width
  pub room : between width dequeue enqueue < width
  pub written : IsWritten width m dequeue (between width dequeue enqueue)
  pub memory : IsMemory width m enqueue

-- what a consumer reads from memory, and what it doesn't take for new
pub record IsRing (width : ℕ) (r : Ring) : Type 0 where
  pub room : length r.waits ≤ capacity width
  pub place : r.posted < width + width
  -- from dequeue on, the TRBs that wait, each with the cycle of its place
  pub taken : (j : ℕ) → j < length r.waits
      → cell width r.memory (dequeue_of width r + j) ≡ trb_bytes (trb_at width (get_or r.waits j NoOp) (dequeue_of width r + j))
  -- the place where the next TRB is put has the other cycle
  pub next : cycle_in (cell width r.memory r.posted) ≡ not (cycle_of width r.posted)
  -- the Link, where there is one, has it too, and CH where the TRB before it has
  pub link : length r.memory.cells ≡ suc width
      → get_or r.memory.cells width [] ≡ trb_bytes (link_at r.memory.base (chain_of (kind_at width r.memory (width - 1))) (not (cycle_of width r.posted)))
