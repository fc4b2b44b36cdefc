-- The line that stands in memory.
use Rattle.std.specs.Prelude.{ℕ, suc, ◌+◌, ◌-◌, ◌%◌, ◌^◌, ◌≤◌, ◌<◌, ◌≡◌, not, List, [], ◌∷◌, length, take, get_or}
use Rattle.usb_trb.specs.declared.kind.TrbKind.{TrbKind}
use Rattle.usb_trb.specs.declared.kind.TrbKind.TheVariants.{NoOp}
use Rattle.usb_trb.specs.Words.{trb_bytes}
use Rattle.usb_trb.specs.Read.{cycle_in}
use Rattle.usb_rings.specs.Places.{cycle_of}
use Rattle.usb_rings.specs.Memory.{Memory, cell, kind_at, trb_at, chain_of, link_at, cleared}
use Rattle.usb_rings.specs.Written.{kinds, IsWritten, IsMemory}
use Rattle.usb_rings.specs.Line.{places, capacity, Line, all_of, contents, enqueue_of, place_of}

-- a transfer ring: the line of its items, and the bytes of its memory
pub record Ring : Type 0 where
  pub line : Line
  pub memory : Memory

-- the memory of a ring as it is made
abbrev pub made : ℕ → Memory
made base = cleared places (suc places) base

-- what the TRBs of items say that stand behind one another, by their numbers of TRBs
abbrev pub split : Memory → ℕ → List ℕ → List (List TrbKind)
split m p [] = []
split m p (n ∷ ns) = kinds places m p n ∷ split m (p + n) ns

-- the sum of numbers
abbrev pub total : List ℕ → ℕ
total [] = 0
total (n ∷ ns) = n + total ns

-- the TRB behind so many others of items is that of number j of the item of number i
abbrev pub Holds : List ℕ → ℕ → ℕ → ℕ → Type 0
Holds ns ahead i j = (i < length ns) × (j < get_or ns i 0) × (total (take i ns) + j ≡ ahead)

-- the place so many before enqueue
abbrev pub back : ℕ → ℕ → ℕ
back enqueue n = enqueue + 254 - n

-- the line, by enqueue, the places from dequeue to there, the places from the first item to there, and the items' numbers of TRBs
abbrev pub line_in : Memory → ℕ → ℕ → ℕ → List ℕ → Line
line_in m enqueue left held counts = record {
  base = m.base;
  dequeue = back enqueue left % 254;
  gone = kinds places m (back enqueue left) (left - held);
  items = split m (back enqueue held) counts;
  passed = held - left;
}

-- each item has a TRB
abbrev pub AllSome : List ℕ → Type 0
AllSome [] = Unit {0}
AllSome (n ∷ ns) = (0 < n) × AllSome ns

-- what the fields of a ring fulfil: ranges; the counts sum to the places from the first item on; what stands in the windows from dequeue
-- and from the first item on was written there; and the bytes fit where enqueue is
pub record IsSound (m : Memory) (enqueue left held : ℕ) (counts : List ℕ) : Type 0 where
  pub base_fits : m.base + 2048 ≤ 2 ^ 64
  pub place : enqueue < 254
  pub left_fits : left ≤ capacity
  pub held_fits : held ≤ capacity
  pub counted : total counts ≡ held
  pub some : AllSome counts
  pub left_written : IsWritten places m (back enqueue left) left
  pub held_written : IsWritten places m (back enqueue held) held
  pub size : length m.cells ≡ 128
  pub memory : IsMemory places m enqueue

-- what the controller reads from memory, and what it doesn't take for new
pub record IsRing (r : Ring) : Type 0 where
  pub base : r.memory.base ≡ r.line.base
  pub size : length r.memory.cells ≡ 128
  -- from dequeue on, the TRBs of the line, each with the cycle of its place
  pub taken : (j : ℕ) → j < length (contents r.line)
      → cell places r.memory (r.line.dequeue + j) ≡ trb_bytes (trb_at places (get_or (contents r.line) j NoOp) (r.line.dequeue + j))
  -- so those of each item, whether dequeue has passed them or not
  pub items : (j : ℕ) → j < length (all_of r.line.items)
      → cell places r.memory (place_of r.line 0 + j) ≡ trb_bytes (trb_at places (get_or (all_of r.line.items) j NoOp) (place_of r.line 0 + j))
  -- the place where the next TRB is put has the other cycle
  pub next : cycle_in (cell places r.memory (enqueue_of r.line)) ≡ not (cycle_of places (enqueue_of r.line))
  -- the Link has it too, and CH where the TRB at the index before it has
  pub link : get_or r.memory.cells 127 [] ≡ trb_bytes (link_at r.line.base (chain_of (kind_at places r.memory 126)) (not (cycle_of places (enqueue_of r.line))))
