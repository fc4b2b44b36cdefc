-- By the reason's sort.
use Rattle.std.proofs.Common.{ap, ◌∙◌}
use Rattle.trace_explain.specs.Reasons.{reason_of}
use Rattle.trace_explain.specs.Sorts.{sort_of_reply}
use Rattle.trace_explain.proofs.OfSorts.{of_refusal}
use Rattle.trace_explain.proofs.TellsTurns.{sorts_agree}
use Rattle.trace_explain.proofs.laws.refusals.Goals as goal

pub returns : goal.returns
returns c setup w step why e = of_refusal (reason_of setup w step) why (sorts_agree setup w step ∙ ap sort_of_reply e)
