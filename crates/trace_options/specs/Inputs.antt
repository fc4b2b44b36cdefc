-- Inputs that more is done with than their task says: more is told of it, or they may name files.
use Rattle.std.specs.Prelude.{◌||◌, ◌==◌, ℕ, nat_lt, Bool, true, false, List}
use Rattle.std.specs.List.{list_any}
use Rattle.trace_io.specs.declared.words.Task.{Task}
use Rattle.trace_io.specs.declared.words.Task.TheVariants as task

-- whether more is told of a task than `trace` tells: what is missing of an input, or of a test why a line is bad and that it expects nothing; so of a picture of some lines
abbrev pub is_half : Task → Bool
is_half (task.Draw from to) = nat_lt 1 from || nat_lt to 18446744073709551615
is_half (task.Page from to) = nat_lt 1 from || nat_lt to 18446744073709551615
is_half task.Describe = true
is_half (task.Devices reader) = true
is_half task.Test = true
is_half t = false

-- whether a text may name a file whose bytes it has
abbrev pub may_name_files : List ℕ → Bool
may_name_files text = list_any (λ b. b == 64) text
