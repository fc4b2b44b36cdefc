-- The name's pieces are counted where they stand.
use Rattle.std.proofs.Common.{rules}
use Rattle.usb_model.specs.Machine.{is_result_at}
use Rattle.trace_explain.proofs.Named.{count_of_name}
use Rattle.trace_explain.proofs.quiet.results_at.Goals as goal

pub returns : goal.returns
returns c = rw (count_of_name (is_result_at c.args.ep) c.args.h c.args.results.now) (search rules)
