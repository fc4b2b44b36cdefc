-- What words and input come to.
use Rattle.std.proofs.Common.{inl, refl}
use Rattle.usb_scripttext.specs.Words.{words_of}
use Rattle.trace_main.proofs.Reports.{good_input, never_begun, quiet_unless_threads, rest_of, silent_unless, told_of, told_words, unexpected_found, unwritten, words_are_bad}
use Rattle.trace_main.proofs.program.trace.Goals as goal

pub returns-in-Ok-clause-bad : goal.returns-in-Ok-clause-bad
returns-in-Ok-clause-bad g c asks =
    good_input (words_of c.args.words.now) (g.R.Read.remaining c.args.input.now) c.in-Ok.task c.perform-ended.new.notes.items c.perform-ended.result c.status_of.result
    (g.W.Write.contents c.args.out.now) (g.W.Write.contents c.perform-ended.new.out) c.in-Ok.ensures.task asks c.perform-ended.ensures.ends c.status_of.ensures.status

pub returns-in-Ok-clause-unexpected : goal.returns-in-Ok-clause-unexpected
returns-in-Ok-clause-unexpected g c three =
    unexpected_found (words_of c.args.words.now) (g.R.Read.remaining c.args.input.now) c.in-Ok.task c.perform-ended.new.notes.items c.perform-ended.result c.status_of.result
    (g.W.Write.contents c.args.out.now) (g.W.Write.contents c.perform-ended.new.out) c.in-Ok.ensures.task c.perform-ended.ensures.ends c.status_of.ensures.status three

pub returns-in-Ok-clause-silent : goal.returns-in-Ok-clause-silent
returns-in-Ok-clause-silent g c =
    silent_unless (words_of c.args.words.now) (g.R.Read.remaining c.args.input.now) c.in-Ok.task (g.W.Write.contents c.args.out.now) (g.W.Write.contents c.perform-ended.new.out)
    c.in-Ok.ensures.task c.perform-ended.ensures.silent

pub returns-in-Ok-clause-told : goal.returns-in-Ok-clause-told
returns-in-Ok-clause-told g c =
    told_of (words_of c.args.words.now) (g.R.Read.remaining c.args.input.now) c.in-Ok.task c.perform-ended.new.notes.items c.perform-ended.result c.status_of.result
    (g.W.Write.contents c.args.out.now) (g.W.Write.contents c.perform-ended.new.out) (g.E.Write.contents c.args.err.now) (g.E.Write.contents c.status_of.new.err)
    c.in-Ok.ensures.task c.perform-ended.ensures.ends c.perform-ended.ensures.alone c.status_of.ensures.status (rw c.as_slice.ensures.value at c.status_of.ensures.quiet) c.perform-ended.ensures.bad_lines c.perform-ended.ensures.no_devices c.perform-ended.ensures.differs (rw c.as_slice.ensures.value at c.status_of.ensures.told)

pub returns-in-Ok-clause-done : goal.returns-in-Ok-clause-done
returns-in-Ok-clause-done g c zero =
    inl (
      c.in-Ok.task,
      c.in-Ok.ensures.task,
      rest_of (g.R.Read.remaining c.args.input.now) c.in-Ok.task c.perform-ended.new.notes.items c.perform-ended.result c.status_of.result
          (g.W.Write.contents c.args.out.now) (g.W.Write.contents c.perform-ended.new.out) (g.E.Write.contents c.args.err.now) (g.E.Write.contents c.status_of.new.err)
          c.perform-ended.ensures.ends c.status_of.ensures.status (rw c.as_slice.ensures.value at c.status_of.ensures.noted) zero,
    )

pub returns-in-Ok-clause-quiet : goal.returns-in-Ok-clause-quiet
returns-in-Ok-clause-quiet g c zero =
    quiet_unless_threads (words_of c.args.words.now) c.in-Ok.task c.perform-ended.new.notes.items c.perform-ended.result c.status_of.result (g.E.Write.contents c.args.err.now) (g.E.Write.contents c.status_of.new.err)
    c.in-Ok.ensures.task c.perform-ended.ensures.quiet (rw c.as_slice.ensures.value at c.status_of.ensures.quiet) c.status_of.ensures.status zero

pub returns-in-Err-clause-refused : goal.returns-in-Err-clause-refused
returns-in-Err-clause-refused g c two =
    let other = c.answer.ensures.refused two in (
      words_are_bad (words_of c.args.words.now) c.in-Err.error c.in-Err.ensures.fault other,
      unwritten g.W.Write.contents c.args.out.now c.answer.new.out c.in-Err.error c.answer.ensures.silent other.0,
      refl,
    )

pub returns-in-Err-clause-unfinished : goal.returns-in-Err-clause-unfinished
returns-in-Err-clause-unfinished g c =
    never_begun g.W.Write.contents c.args.out.now c.answer.new.out (words_of c.args.words.now) c.in-Err.error (g.R.Read.remaining c.args.input.now)
    c.in-Err.ensures.fault c.answer.ensures.silent

pub returns-in-Err-clause-told : goal.returns-in-Err-clause-told
returns-in-Err-clause-told g c one =
    let why = c.answer.ensures.told one in
    told_words (words_of c.args.words.now) (g.R.Read.remaining c.args.input.now) why.0 (g.W.Write.contents c.args.out.now) (g.W.Write.contents c.answer.new.out)
    (g.E.Write.contents c.args.err.now) (g.E.Write.contents c.answer.new.err) why.1 why.2
