-- What every ring shows of its bytes.
use Rattle.std.specs.Prelude.{ℕ, zero, suc, ◌+◌, ◌-◌, ◌≤◌, ◌<◌, ◌≡◌, not, List, [], ◌∷◌, length, get_or}
use Rattle.usb_trb.specs.declared.kind.TrbKind.{TrbKind}
use Rattle.usb_trb.specs.Words.{trb_bytes, IsKind}
use Rattle.usb_trb.specs.Read.{cycle_in}
use Rattle.usb_rings.specs.Places.{cycle_of}
use Rattle.usb_rings.specs.Memory.{Memory, cell, kind_at, trb_at, chain_of, link_at}

-- what the TRBs at a place and those behind it say
abbrev pub kinds : ℕ → Memory → ℕ → ℕ → List TrbKind
kinds width m p zero = []
kinds width m p (suc n) = kind_at width m p ∷ kinds width m (suc p) n

-- each of them has its fields in range
abbrev pub AllKinds : List TrbKind → Type 0
AllKinds [] = Unit {0}
AllKinds (k ∷ ks) = IsKind k × AllKinds ks

-- the TRB that was written at a place still stands there
abbrev pub IsCell : ℕ → Memory → ℕ → Type 0
IsCell width m p = IsKind (kind_at width m p) × (trb_bytes (trb_at width (kind_at width m p) p) ≡ cell width m p)

-- so for a place and those behind it
abbrev pub IsWritten : ℕ → Memory → ℕ → ℕ → Type 0
IsWritten width m p n = (q : ℕ) → p ≤ q → q < p + n → IsCell width m q

-- each cell has the cycle of the turn before the one in which it is written next, so that a consumer doesn't take it for new (xHCI 1.2, 4.9.2)
abbrev pub IsTurned : ℕ → Memory → ℕ → Type 0
IsTurned width m enqueue = (q : ℕ) → enqueue ≤ q → q < enqueue + width → cycle_in (cell width m q) ≡ not (cycle_of width q)

-- the Link, where there is one, has the cycle of the last turn whose place before it was written, and CH where the TRB before it has
abbrev pub IsLinked : ℕ → Memory → ℕ → Type 0
IsLinked width m enqueue = length m.cells ≡ suc width
    → get_or m.cells width [] ≡ trb_bytes (link_at m.base (chain_of (kind_at width m (width - 1))) (not (cycle_of width enqueue)))

-- the bytes, against where enqueue is
pub record IsMemory (width : ℕ) (m : Memory) (enqueue : ℕ) : Type 0 where
  pub cells : width ≤ length m.cells
  pub turned : IsTurned width m enqueue
  pub linked : IsLinked width m enqueue
