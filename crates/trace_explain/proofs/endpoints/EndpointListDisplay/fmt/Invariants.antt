-- The addresses so far are written, and those behind them make up the row.
use Rattle.std.proofs.Common.{◌≡◌, ◌-◌, ℕ, List, ◌++◌, length, drop}
use Rattle.std.specs.Fmt.{HasWritten, IsPlainFormatter}
use Rattle.trace_explain.specs.Text.{row_text}
use Rattle.trace_explain.proofs.endpoints.EndpointListDisplay.fmt.Given as goal

abbrev pub invariant-loop-ep : goal.invariant-loop-ep
invariant-loop-ep g l = record {
  left : l.more ≡ length l.addresses - l.ep-index;
  row : IsPlainFormatter l.initial.f → (written : List ℕ) × HasWritten g.W.Write.write_str_gives l.initial.f written l.f × (written ++ row_text (drop l.ep-index l.addresses) ≡ row_text l.addresses);
}
