-- Each item from the first on is a blank, so far.
use Rattle.std.proofs.Common.{◌≡◌, ℕ, ◌≤◌, ◌<◌, None}
use Rattle.usb_tables.specs.TransfersInFlight.{item_at}
use Rattle.usb_tables.proofs.flights.TransfersInFlight.blanks_from.Given as goal

abbrev pub invariant-loop-at : goal.invariant-loop-at
invariant-loop-at g l = (k : ℕ) → l.item ≤ k → k < l.at → item_at l.self l.dev l.ep k ≡ None
