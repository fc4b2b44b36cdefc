-- The errands that are outstanding.
use Rattle.std.specs.Prelude.{ℕ, List, Option, None, slice_index_or}
use Rattle.usb_tables.specs.ByEndpoint.{lane_at}
use Rattle.usb_tables.specs.declared.outstanding.Sent.{Sent}

-- the errand that is outstanding at a device's endpoint
abbrev pub sent_at : List (Option Sent) → ℕ → ℕ → Option Sent
sent_at v d e = slice_index_or v (lane_at d e) None
