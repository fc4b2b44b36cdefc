-- TRBs are posted to a ring, one behind another.
use Rattle.std.specs.Prelude.{ℕ, List, [], ◌∷◌, ◌++◌}
use Rattle.usb_trb.specs.declared.kind.TrbKind.{TrbKind}
use Rattle.usb_rings.specs.Places.{after}
use Rattle.usb_rings.specs.Memory.{put}
use Rattle.usb_rings.specs.Ring.{Ring}

-- one more waits
abbrev pub posted_one : ℕ → Ring → TrbKind → Ring
posted_one width r k = record { posted = after width r.posted 1; waits = r.waits ++ k ∷ []; memory = put width r.memory r.posted k }

abbrev pub posted_all : ℕ → Ring → List TrbKind → Ring
posted_all width r [] = r
posted_all width r (k ∷ ks) = posted_all width (posted_one width r k) ks
