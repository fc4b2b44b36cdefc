-- As many empty lines as turns.
use Rattle.std.proofs.Common.{◌≡◌, ◌≤◌, length, replicate, [], vec_capacity}
use Rattle.usb_tables.proofs.lanes.EndpointQueues.new.Given as goal

abbrev pub invariant-loop : goal.invariant-loop
invariant-loop l = record {
  count : length l.lines.items ≡ l.counter;
  empty : l.lines.items ≡ replicate l.counter [];
  room : 128 ≤ vec_capacity l.lines;
}
