-- What is written is the text of the variant.
use Rattle.std.proofs.Common.{ap, sym}
use Rattle.std.proofs.Output.{has_written_of_eq}
use Rattle.trace_explain.specs.Text.{obstacle_text}
use Rattle.trace_explain.proofs.refusal.ObstacleSaidDisplay.fmt.Goals as goal

pub returns-in-Result-clause-writes : goal.returns-in-Result-clause-writes
returns-in-Result-clause-writes g c = λ plain ok.
    has_written_of_eq _ _ _ _ _ (ap (λ x. obstacle_text c.args.self.now.h x) (sym c.in-Result.is)) (c.write-in-Result.ensures.writes plain ok)

pub returns-in-Callback-clause-writes : goal.returns-in-Callback-clause-writes
returns-in-Callback-clause-writes g c = λ plain ok.
    has_written_of_eq _ _ _ _ _ (ap (λ x. obstacle_text c.args.self.now.h x) (sym c.in-Callback.is)) (c.write-in-Callback.ensures.writes plain ok)

pub returns-in-Numbers-clause-writes : goal.returns-in-Numbers-clause-writes
returns-in-Numbers-clause-writes g c = λ plain ok.
    has_written_of_eq _ _ _ _ _ (ap (λ x. obstacle_text c.args.self.now.h x) (sym c.in-Numbers.is)) (c.write-in-Numbers.ensures.writes plain ok)
