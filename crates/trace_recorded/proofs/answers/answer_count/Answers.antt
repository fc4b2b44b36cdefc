-- As many as the definition has, of a read and of a write.
use Rattle.std.proofs.Common.{◌≡◌, ◌+◌, sym, ◌∙◌}
use Rattle.trace_recorded.proofs.Counted.{count_read, count_written}
use Rattle.trace_recorded.proofs.answers.answer_count.Goals as goal

pub returns-then-is_in : goal.returns-then-is_in
returns-then-is_in c =
    let all = count_read c.args.size c.args.transfer.now (sym c.is_in.ensures ∙ c.if-is_in.true) in
    cc

pub returns-else-is_in : goal.returns-else-is_in
returns-else-is_in c =
    let all = count_written c.args.size c.args.transfer.now (sym c.is_in.ensures ∙ c.if-is_in.false) in
    cc
