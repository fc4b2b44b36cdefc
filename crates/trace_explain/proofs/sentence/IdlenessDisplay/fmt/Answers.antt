-- What is written is the text of the variant.
use Rattle.std.proofs.Common.{ap, sym}
use Rattle.std.proofs.Output.{has_written_of_eq}
use Rattle.trace_explain.specs.Text.{idleness_text}
use Rattle.trace_explain.proofs.sentence.IdlenessDisplay.fmt.Goals as goal

pub returns-in-Lost-clause-writes : goal.returns-in-Lost-clause-writes
returns-in-Lost-clause-writes g c = λ plain ok.
    has_written_of_eq _ _ _ _ _ (ap idleness_text (sym c.in-Lost.is)) (c.write-in-Lost.ensures.writes plain ok)

pub returns-in-NoEndpoint-clause-writes : goal.returns-in-NoEndpoint-clause-writes
returns-in-NoEndpoint-clause-writes g c = λ plain ok.
    has_written_of_eq _ _ _ _ _ (ap idleness_text (sym c.in-NoEndpoint.is)) (c.write-in-NoEndpoint.ensures.writes plain ok)
