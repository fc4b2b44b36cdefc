-- The transfer where the controller stands, as the TRBs from dequeue on say (xHCI 1.2, 4.9.1, 4.10.1, 4.11.3).
use Rattle.std.specs.Prelude.{◌≡◌, ℕ, ◌+◌, ◌-◌, min, Bool, false, not, ◌||◌, List, [], ◌∷◌, length, map, drop, if◌then◌else◌}
use Rattle.usb_trb.specs.declared.kind.Normal.{Normal as NormalTrb}
use Rattle.usb_trb.specs.declared.kind.TrbKind.{TrbKind}
use Rattle.usb_trb.specs.declared.kind.TrbKind.TheVariants.{Normal}
use Rattle.usb_model.specs.declared.response.Response.{Response}
use Rattle.usb_model.specs.Stands.{total}
use Rattle.usb_model.specs.Packets.{packet_by}
use Rattle.usb_rings.specs.Line.{Line, contents, moved, no_ops}

-- its Normal TRBs, up to the one that tells its end (IOC)
abbrev pub ahead : List TrbKind → List NormalTrb
ahead [] = []
ahead (Normal t ∷ ks) = if t.done then t ∷ [] else t ∷ ahead ks
ahead (k ∷ ks) = []

-- those of a ring
abbrev pub trbs_ahead : Line → List NormalTrb
trbs_ahead l = ahead (contents l)

abbrev pub lengths : List NormalTrb → List ℕ
lengths ts = map (λ t. t.length) ts

-- whether the TD of the bytes ends before the transfer does: an empty packet comes behind it, as a TD of its own
abbrev pub goes_on : List NormalTrb → Bool
goes_on [] = false
goes_on (t ∷ []) = false
goes_on (t ∷ u ∷ ts) = not t.chain || goes_on (u ∷ ts)

-- the bytes that are left, where so many of the first TRB moved
abbrev pub room : List NormalTrb → ℕ → ℕ
room ts within = total (lengths ts) - within

-- a room and whether an empty packet comes, known as far as a packet of this size needs
pub record Reaches (size : ℕ) (ts : List NormalTrb) (within r : ℕ) (extra : Bool) : Type 0 where
  pub most : min size r ≡ min size (room ts within)
  pub packet : (a : Response) → packet_by size r extra a ≡ packet_by size (room ts within) (goes_on ts) a

-- past all TRBs of the transfer, and the No Ops behind them
abbrev pub past : Line → Line
past l = moved l (length (trbs_ahead l) + no_ops (drop (length (trbs_ahead l)) (contents l)))
