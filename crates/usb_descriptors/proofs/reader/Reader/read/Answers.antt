-- What is passed over changes nothing.
use Rattle.std.proofs.Common.{Ok, refl, sym, ap, ◌∙◌}
use Rattle.usb_descriptors.proofs.Steps.{step_other, reads_on}
use Rattle.usb_descriptors.proofs.reader.Reader.read.Goals as goal

pub returns-in-Other : goal.returns-in-Other
returns-in-Other c = λ before has.
    let other = sym c.read.ensures ∙ c.in_ok-interface.was ∙ ap Ok c.in-Other.is in
    reads_on c.args.self.now (step_other before c.args.piece.now other) refl has.config has.section
