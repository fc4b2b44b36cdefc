-- The chain bit of a ring's Link.
use Rattle.std.specs.Prelude.{ℕ, suc, ◌-◌, ◌≤◌, ◌<◌, ◌≡◌, false, not, [], length, get_or}
use Rattle.usb_trb.specs.declared.kind.TrbKind.{TrbKind}
use Rattle.usb_trb.specs.Words.{trb_bytes, IsKind}
use Rattle.usb_rings.specs.Places.{cycle_of}
use Rattle.usb_rings.specs.Memory.{Memory, kind_at, chain_of, link_at, cleared, put}
use Rattle.usb_rings.specs.Ring.{Ring, IsRing}

-- the TRB before the Link has no CH
abbrev pub IsUnchained : ℕ → Memory → Type 0
IsUnchained width m = chain_of (kind_at width m (width - 1)) ≡ false

-- the Link of a ring to which nothing with CH was posted has none
pub record LinkStaysUnchained : Type 0 where
  -- so it is in a ring as it is made,
  pub made : (width size base : ℕ) → 0 < width → width ≤ size → IsUnchained width (cleared width size base)
  -- so it stays when a TRB without CH is put at any place,
  pub kept : (width : ℕ) (m : Memory) (p : ℕ) (k : TrbKind) → 0 < width → width ≤ length m.cells → IsKind k → chain_of k ≡ false
      → IsUnchained width m → IsUnchained width (put width m p k)
  -- and then the Link is one to the first TRB with Toggle Cycle, no CH, and the cycle of the last turn in which the index before it was written
  pub link : (width : ℕ) (r : Ring) → IsRing width r → IsUnchained width r.memory → length r.memory.cells ≡ suc width
      → get_or r.memory.cells width [] ≡ trb_bytes (link_at r.memory.base false (not (cycle_of width r.posted)))
