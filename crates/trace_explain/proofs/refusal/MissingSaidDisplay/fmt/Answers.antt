-- What is written is the text of the variant.
use Rattle.std.proofs.Common.{ap, sym}
use Rattle.std.proofs.Output.{has_written_of_eq}
use Rattle.trace_explain.specs.Text.{missing_text}
use Rattle.trace_explain.proofs.refusal.MissingSaidDisplay.fmt.Goals as goal

pub returns-in-Interface-clause-writes : goal.returns-in-Interface-clause-writes
returns-in-Interface-clause-writes g c = λ plain ok.
    has_written_of_eq _ _ _ _ _ (ap (λ x. missing_text c.args.self.now.h c.args.self.now.endpoints.now x) (sym c.in-Interface.is)) (c.write-in-Interface.ensures.writes plain ok)

pub returns-in-Endpoint-clause-writes : goal.returns-in-Endpoint-clause-writes
returns-in-Endpoint-clause-writes g c = λ plain ok.
    has_written_of_eq _ _ _ _ _ (ap (λ x. missing_text c.args.self.now.h c.args.self.now.endpoints.now x) (sym c.in-Endpoint.is)) (c.write-in-Endpoint.ensures.writes plain ok)

pub returns-in-Claim-clause-writes : goal.returns-in-Claim-clause-writes
returns-in-Claim-clause-writes g c = λ plain ok.
    has_written_of_eq _ _ _ _ _ (ap (λ x. missing_text c.args.self.now.h c.args.self.now.endpoints.now x) (sym c.in-Claim.is)) (c.write-in-Claim.ensures.writes plain ok)

pub returns-in-ClaimFor-clause-writes : goal.returns-in-ClaimFor-clause-writes
returns-in-ClaimFor-clause-writes g c = λ plain ok.
    has_written_of_eq _ _ _ _ _ (ap (λ x. missing_text c.args.self.now.h c.args.self.now.endpoints.now x) (sym c.in-ClaimFor.is)) (c.write-in-ClaimFor.ensures.writes plain ok)

pub returns-in-Progress-clause-writes : goal.returns-in-Progress-clause-writes
returns-in-Progress-clause-writes g c = λ plain ok.
    has_written_of_eq _ _ _ _ _ (ap (λ x. missing_text c.args.self.now.h c.args.self.now.endpoints.now x) (sym c.in-Progress.is)) (c.write-in-Progress.ensures.writes plain ok)

pub returns-in-Timeout-clause-writes : goal.returns-in-Timeout-clause-writes
returns-in-Timeout-clause-writes g c = λ plain ok.
    has_written_of_eq _ _ _ _ _ (ap (λ x. missing_text c.args.self.now.h c.args.self.now.endpoints.now x) (sym c.in-Timeout.is)) (c.write-in-Timeout.ensures.writes plain ok)
