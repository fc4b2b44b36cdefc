-- The marks of the items below.
use Rattle.std.proofs.Common.{◌≡◌, length, map, take}
use Rattle.usb_tables.specs.TransfersInFlight.{line_at, mark_in}
use Rattle.usb_tables.proofs.flights.TransfersInFlight.marks.Given as goal

abbrev pub invariant-loop-item : goal.invariant-loop-item
invariant-loop-item g l = record {
  marks : l.marks.items ≡ map mark_in (take l.item (line_at l.self l.dev l.ep));
  count : length l.marks.items ≡ l.item;
}
