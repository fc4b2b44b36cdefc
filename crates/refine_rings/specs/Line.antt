-- When a transfer ring holds the line of a kept endpoint (xHCI 1.2, 4.9.2, 4.9.1).
use Rattle.std.specs.Prelude.{◌≡◌, ℕ, ◌+◌, ◌%◌, ◌<◌, ◌≤◌, true, false, List, [], ◌∷◌, length, replicate}
use Rattle.usb_model.specs.Limits.{most_bytes}
use Rattle.usb_model.specs.Requests.{length_of}
use Rattle.usb_trb.specs.declared.kind.TrbKind.{TrbKind}
use Rattle.usb_trb.specs.declared.kind.TrbKind.TheVariants.{NoOp}
use Rattle.usb_model.specs.Kept.{InRow, KeptTransfer, first_place, trbs_of}
use Rattle.usb_tables.specs.Tds.{tds_of}
use Rattle.usb_tables.specs.Trbs.{normals_of}
use Rattle.usb_rings.specs.Line.{Line, capacity, normals, places}

-- the TRBs of a transfer in progress, under some key, at an endpoint of this packet size
pub record IsSent (size : ℕ) (y : KeptTransfer) (ks : List TrbKind) : Type 0 where
  pub key : ℕ
  pub trbs : ks ≡ normals (normals_of key (tds_of size y.request))
  pub lengths : y.lengths ≡ trbs_of size y.request
  pub few : length_of y.request.body ≤ most_bytes

-- an item: the TRBs of its transfer, or as many No Ops where this was withdrawn
pub record IsItem (size : ℕ) (y : KeptTransfer) (ks : List TrbKind) : Type 0 where
  pub some : 0 < length y.lengths
  pub count : length ks ≡ length y.lengths
  pub sent : y.blank ≡ false → IsSent size y ks
  pub blank : y.blank ≡ true → ks ≡ replicate (length y.lengths) NoOp

-- so each
abbrev pub AllItems : ℕ → List KeptTransfer → List (List TrbKind) → Type 0
AllItems size [] [] = Unit {0}
AllItems size (y ∷ ys) (ks ∷ kss) = IsItem size y ks × AllItems size ys kss
AllItems size _ _ = ⊥

-- a place without end is that of the ring: it counts places over two turns (xHCI 1.2, 4.9.2)
abbrev pub in_ring : ℕ → ℕ
in_ring p = p % (places + places)

-- the ring has the line as its items, up to the enqueue place, and the controller stands where the dequeue place says
pub record IsLine (size : ℕ) (l : Line) (line : List KeptTransfer) (end dequeue : ℕ) : Type 0 where
  pub items : AllItems size line l.items
  pub row : InRow line end
  pub below : dequeue ≤ end
  pub few : end ≤ first_place line end + capacity
  pub stands : l.dequeue ≡ in_ring dequeue
  -- what stands between the dequeue place and the first item belongs to none, or so many TRBs of items are passed
  pub between : dequeue + length l.gone ≡ first_place line end + l.passed
  pub whole : 0 < l.passed → l.gone ≡ []
