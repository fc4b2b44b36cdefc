-- As many names as turns, and nothing is kept of any.
use Rattle.std.proofs.Common.{◌≡◌, ℕ, length}
use Rattle.usb_tables.specs.HandleStates.{kept_of}
use Rattle.usb_tables.proofs.Names.{IsBlank}
use Rattle.usb_tables.proofs.callers.HandleStates.new.Given as goal

abbrev pub invariant-loop : goal.invariant-loop
invariant-loop l = record { count : length l.callers.items ≡ l.counter; blank : (h : ℕ) → IsBlank (kept_of l.callers.items h) }
