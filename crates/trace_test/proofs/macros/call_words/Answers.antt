use Rattle.trace_test.proofs.Calls.{words-called}
use Rattle.trace_test.proofs.macros.call_words.Goals as goal

pub returns-in-len1-up : goal.returns-in-len1-up
returns-in-len1-up c = words-called c.args.words.now c.star_of.result c.star_of.ensures (cc)
