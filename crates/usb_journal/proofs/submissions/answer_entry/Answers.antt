-- Accepted or refused, the entry says so.
use Rattle.std.proofs.Common.{◌∙◌, Some, ap, sym}
use Rattle.usb_model.specs.declared.entry.Entry.{Entry}
use Rattle.usb_model.specs.declared.reply.Reply.{Reply}
use Rattle.usb_journal.specs.Booked.{answer_entry}
use Rattle.usb_journal.proofs.submissions.answer_entry.Goals as goal
use Rattle.usb_journal.proofs.submissions.answer_entry.Goals.{in-Ok, in-Err}

pub returns-clause-entry : goal.returns-clause-entry
returns-clause-entry g c =
    let told : Reply → Entry = λ r. record { owner = Some c.args.h; reply = r } in
    elim c.match-answer.branch [
      | in-Ok w ↦ ap told w.reply-is ∙ ap (answer_entry c.args.h) (sym w.in-Ok.is)
      | in-Err w ↦ ap told w.reply-is ∙ ap (answer_entry c.args.h) (sym w.in-Err.is)
    ]
