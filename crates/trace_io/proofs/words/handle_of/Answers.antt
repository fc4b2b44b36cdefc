use Rattle.std.proofs.Common.{codes, rules}
use Rattle.clap.specs.Matches.{found_of}
use Rattle.trace_io.proofs.CommandLines.{word_read}
use Rattle.trace_io.proofs.words.handle_of.Goals as goal

-- src/words.rt:82:1
pub returns : goal.returns
returns c = word_read (codes "H") 8 (found_of c.args.found.now) c.in_ok-ok_or.field-0 c.get_one.result c.get_one.ensures.none c.get_one.ensures.value (grind rules)
