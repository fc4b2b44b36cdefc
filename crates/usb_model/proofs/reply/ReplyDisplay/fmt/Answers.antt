use Rattle.std.proofs.Common.{ap, sym}
use Rattle.std.proofs.Output.{has_written_of_eq}
use Rattle.usb_model.specs.Text.{reply_text}
use Rattle.usb_model.proofs.reply.ReplyDisplay.fmt.Goals as goal

pub returns-in-Settled-clause-writes : goal.returns-in-Settled-clause-writes
returns-in-Settled-clause-writes g c = λ plain ok.
    has_written_of_eq _ _ _ _ _ (ap reply_text (sym c.in-Settled.is)) (c.write-in-Settled.ensures.writes plain ok)
