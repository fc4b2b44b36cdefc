-- The names before have none.
use Rattle.std.specs.Prelude.{◌≡◌, ℕ, ◌<◌, []}
use Rattle.usb_tables.specs.HandleStates.{kept_of}
use Rattle.usb_tables.proofs.callers.HandleStates.is_any_out.Given as goal

abbrev pub invariant-loop-caller : goal.invariant-loop-caller
invariant-loop-caller l = (h : ℕ) → h < l.caller-index → (kept_of l.caller-items h).running ≡ []
