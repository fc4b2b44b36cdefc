-- The places below have the interfaces of their endpoints, and no device below has an endpoint whose address isn't plain.
use Rattle.std.proofs.Common.{◌≡◌, ℕ, ◌/◌, ◌%◌, ◌<◌, false, length, slice_index_or, None}
use Rattle.usb_tables.specs.Tables.{interface_at, is_plain, address_of_id}
use Rattle.usb_tables.proofs.endpoint_table.EndpointTable.new.Given as goal

abbrev pub invariant-loop-at : goal.invariant-loop-at
invariant-loop-at l = record {
  count : length l.interfaces.items ≡ l.at;
  each : (k : ℕ) → k < l.at → slice_index_or l.interfaces.items k None ≡ interface_at l.configs (k / 32) (address_of_id (k % 32));
  plain : (k e : ℕ) → k < l.at → is_plain e ≡ false → interface_at l.configs (k / 32) e ≡ None;
}
