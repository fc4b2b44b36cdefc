use Rattle.std.proofs.Common.{◌≡◌, ◌≤◌, length, vec_len}
use Rattle.std.specs.Io.KnownBytes.{Consumes}
use Rattle.trace_io.specs.Input.{longest_input}
use Rattle.trace_io.proofs.read.read_whole.Given as goal

abbrev pub invariant-loop : goal.invariant-loop
invariant-loop g l = record {
  small : vec_len l.bytes ≤ longest_input;
  room : length l.chunk ≡ 16384;
  known : Consumes (g.R.Read.remaining l.initial.input) (g.R.Read.remaining l.input) l.bytes.items;
}
