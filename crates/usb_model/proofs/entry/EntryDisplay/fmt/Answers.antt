use Rattle.std.proofs.Common.{ap, sym}
use Rattle.std.proofs.Output.{has_written_of_eq}
use Rattle.usb_model.specs.Text.{entry_text}
use Rattle.usb_model.proofs.entry.EntryDisplay.fmt.Goals as goal

pub returns-in-None-clause-writes : goal.returns-in-None-clause-writes
returns-in-None-clause-writes g c = λ plain ok.
    has_written_of_eq _ _ _ _ _ (ap (λ o. entry_text record { owner = o; reply = c.args.self.now.reply }) (sym c.in-None.is)) (c.write.ensures.writes plain ok)
