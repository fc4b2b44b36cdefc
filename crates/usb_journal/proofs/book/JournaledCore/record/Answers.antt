use Rattle.usb_journal.proofs.Replies.{submit_keeps}
use Rattle.usb_journal.proofs.book.JournaledCore.record.Goals as goal

pub returns-in-Ok-clause-carries : goal.returns-in-Ok-clause-carries
returns-in-Ok-clause-carries g c = λ kept has.
    rw (c.in-Submit.is, c.in-Some.is, c.answered.ensures.entry)
    (submit_keeps c.args.self.now.core c.submit.new.self.core kept c.in-Submit.h c.in-Submit.request c.in-Some.payload c.in-Ok.answer c.in-Ok.ensures.carries c.in-Ok.ensures.still has)
