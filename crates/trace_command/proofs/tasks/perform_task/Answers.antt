-- What is promised of `trace`, clause by clause.
use Rattle.usb_scripttext.specs.Words.{words_of}
use Rattle.trace_command.proofs.Traced.{of_trace}
use Rattle.trace_command.proofs.tasks.perform_task.Goals as goal

pub returns-else-may_lack : goal.returns-else-may_lack
returns-else-may_lack g c = λ none.
    of_trace (words_of c.args.words.now) (g.R.Read.remaining c.args.input.now) (g.W.Write.contents c.args.out.now) (g.W.Write.contents c.trace.new.out) (g.E.Write.contents c.args.err.now) (g.E.Write.contents c.trace.new.err) c.trace.result
    c.trace.ensures.status c.trace.ensures.unexpected c.trace.ensures.done c.trace.ensures.quiet c.trace.ensures.refused c.trace.ensures.silent c.trace.ensures.bad c.trace.ensures.unfinished c.trace.ensures.told
