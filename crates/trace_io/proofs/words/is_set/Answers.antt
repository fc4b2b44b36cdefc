-- The flag that was read is that of the rows.
use Rattle.std.proofs.Common.{◌∙◌}
use Rattle.std.specs.Prelude.{option_map}
use Rattle.clap.specs.Matches.{found_of}
use Rattle.trace_io.proofs.CommandLines.{flag_read}
use Rattle.trace_io.proofs.words.is_set.Goals as goal

pub returns : goal.returns
returns c = c.is_true.ensures ∙ flag_read (found_of c.args.found.now) c.args.id.now (option_map (λ s. s.now) c.get_str.result) c.get_str.ensures
