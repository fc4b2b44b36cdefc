-- What is written is the text of the variant.
use Rattle.std.proofs.Common.{ap, sym}
use Rattle.std.proofs.Output.{has_written_of_eq}
use Rattle.trace_explain.specs.Text.{refusal_text}
use Rattle.trace_explain.proofs.refusal.CallRefusalDisplay.fmt.Goals as goal

pub returns-in-HeldElsewhere-clause-writes : goal.returns-in-HeldElsewhere-clause-writes
returns-in-HeldElsewhere-clause-writes g c = λ plain ok.
    has_written_of_eq _ _ _ _ _ (ap (λ x. refusal_text c.args.self.now.h c.args.self.now.endpoints x) (sym c.in-HeldElsewhere.is)) (c.write-in-HeldElsewhere.ensures.writes plain ok)
