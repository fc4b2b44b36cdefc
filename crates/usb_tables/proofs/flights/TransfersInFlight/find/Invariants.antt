-- No item below has the number.
use Rattle.std.proofs.Common.{◌≡◌, ℕ, ◌<◌, false}
use Rattle.usb_tables.specs.TransfersInFlight.{is_number, item_at}
use Rattle.usb_tables.proofs.flights.TransfersInFlight.find.Given as goal

abbrev pub invariant-loop-item : goal.invariant-loop-item
invariant-loop-item g l = (k : ℕ) → k < l.item → is_number l.n (item_at l.self l.dev l.ep k) ≡ false
