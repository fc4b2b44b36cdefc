-- Normal TRBs as they are read from a ring.
use Rattle.std.specs.Prelude.{ℕ, Option, option_map}
use Rattle.usb_trb.specs.declared.kind.Normal.{Normal as NormalTrb}
use Rattle.usb_trb.specs.declared.trb.Trb.{Trb}
use Rattle.usb_rings.specs.Line.{normal_at}
use Rattle.usb_xhc.specs.declared.trb_at.TrbAt.{TrbAt}

-- what a Normal TRB says, with its address
abbrev pub placed : Option (ℕ × NormalTrb) → Option TrbAt
placed = option_map (λ x. record { pointer = x.0; trb = x.1 })

-- what was read, where it is a Normal TRB
abbrev pub seen : Option (ℕ × Trb) → Option TrbAt
seen r = placed (normal_at r)
