-- The number that was read is that of the rows.
use Rattle.std.proofs.Common.{◌≡◌, ℕ, Result, Ok, Err, Some}
use Rattle.std.specs.Prelude.{IfOk}
use Rattle.std.specs.Result.{result_ok}
use Rattle.std.specs.declared.alloc.AllocError.{AllocError}
use Rattle.clap.specs.Matches.{found_of}
use Rattle.clap.specs.Walk.{rows_of}
use Rattle.trace_io.specs.CommandLine.{number_in}
use Rattle.trace_io.proofs.CommandLines.{word_read}
use Rattle.trace_io.proofs.words.number_of.Goals as goal

pub returns : goal.returns
returns c = by_result c.ok_or.result c.ok_or.ensures.ok_part
  where
    by_result : (r : Result ℕ AllocError) → c.get_one.result ≡ result_ok r → IfOk r (λ number. number_in c.args.id.now (rows_of (found_of c.args.found.now)) ≡ Some number)
    by_result (Ok number) read = word_read c.args.id.now 64 (found_of c.args.found.now) number c.get_one.result c.get_one.ensures.none c.get_one.ensures.value read
    by_result (Err e) read = tt
