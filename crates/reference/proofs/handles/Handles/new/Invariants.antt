-- As many handles as turns, and none was used.
use Rattle.std.proofs.Common.{◌≡◌, ℕ, length}
use Rattle.usb_model.specs.Machine.{unused}
use Rattle.reference.specs.Tables.{handle_at}
use Rattle.reference.proofs.handles.Handles.new.Given as goal

abbrev pub invariant-loop : goal.invariant-loop
invariant-loop l = record { count : length l.handles.items ≡ l.counter; unused : (h : ℕ) → handle_at l.handles.items h ≡ unused }
