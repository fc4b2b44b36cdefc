-- What is promised of these words.
use Rattle.usb_scripttext.specs.Words.{words_of}
use Rattle.trace_command.proofs.Traced.{lacked, of_trace}
use Rattle.trace_command.proofs.program.run_words.Goals as goal

pub returns-in-Ok-None-clause-traced : goal.returns-in-Ok-None-clause-traced
returns-in-Ok-None-clause-traced g c =
    of_trace (words_of c.args.words.now) (g.R.Read.remaining c.args.input.now) (g.W.Write.contents c.args.out.now) (g.W.Write.contents c.trace.new.out) (g.E.Write.contents c.args.err.now) (g.E.Write.contents c.trace.new.err) c.trace.result
    c.trace.ensures.status c.trace.ensures.unexpected c.trace.ensures.done c.trace.ensures.quiet c.trace.ensures.refused c.trace.ensures.silent c.trace.ensures.bad c.trace.ensures.unfinished c.trace.ensures.told

pub returns-in-Err-clause-traced : goal.returns-in-Err-clause-traced
returns-in-Err-clause-traced g c =
    lacked (words_of c.args.words.now) (g.R.Read.remaining c.args.input.now) (g.W.Write.contents c.args.out.now) (g.E.Write.contents c.args.err.now) (g.E.Write.contents c.tell_fault.new.err) c.in-Err.fault c.tell_fault.result
    c.tell_fault.ensures.status c.in-Err.ensures.fault c.tell_fault.ensures.told
