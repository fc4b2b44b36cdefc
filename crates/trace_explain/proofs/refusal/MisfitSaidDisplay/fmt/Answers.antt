-- What is written is the text of the variant.
use Rattle.std.proofs.Common.{ap, sym}
use Rattle.std.proofs.Output.{has_written_of_eq}
use Rattle.trace_explain.specs.Text.{misfit_text}
use Rattle.trace_explain.proofs.refusal.MisfitSaidDisplay.fmt.Goals as goal

pub returns-in-Kind-clause-writes : goal.returns-in-Kind-clause-writes
returns-in-Kind-clause-writes g c = λ plain ok.
    has_written_of_eq _ _ _ _ _ (ap (misfit_text) (sym c.in-Kind.is)) (c.write.ensures.writes plain ok)
