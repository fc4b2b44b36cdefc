-- So many of the word are put behind the others.
use Rattle.std.proofs.Common.{◌++◌, arith, sym, ap, ◌∙◌}
use Rattle.usb_scripttext.specs.Words.{words_of}
use Rattle.usb_scripttext.proofs.WrittenOut.{put_more}
use Rattle.usb_scripttext.proofs.repeats.push_copies.Goals as goal

pub returns-clause-put : goal.returns-clause-put
returns-clause-put c = λ same.
    let words = c.args.words.now in
    put_more words.items c.resize.new.self.items c.saturating_add-count.result c.with_times-times.result.1 words.len c.with_times-times.result.0 c.in_ok-resize.ensures.items words.ok.0
    (omega (arith, words.ok.0, c.len.ensures, c.saturating_add-count.ensures, c.if-count-gt-LONGEST_SCRIPT.false))
    ∙ ap (λ l. words_of words.items ++ l) (sym c.with_times-times.ensures.copies)
