-- As many left as turns; the room stays.
use Rattle.std.proofs.Common.{◌≡◌, ◌≤◌, drop}
use Rattle.std.specs.VecDeque.{deque_capacity}
use Rattle.usb_tables.proofs.line.Line.leave.Given as goal

abbrev pub invariant-loop : goal.invariant-loop
invariant-loop l = record {
  left : l.self-inside.keys.items ≡ drop l.counter l.initial.self-inside.keys.items;
  room : 16 ≤ deque_capacity l.self-inside.keys;
}
