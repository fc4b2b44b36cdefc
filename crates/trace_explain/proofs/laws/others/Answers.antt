-- By the reason's sort.
use Rattle.std.proofs.Common.{ap, ◌∙◌}
use Rattle.trace_explain.specs.Reasons.{reason_of}
use Rattle.trace_explain.specs.Sorts.{sort_of_reply}
use Rattle.trace_explain.proofs.OfSorts.{of_callback, of_end, of_failure, of_idleness, of_no_packet}
use Rattle.trace_explain.proofs.TellsTurns.{sorts_agree}
use Rattle.trace_explain.proofs.laws.others.Goals as goal

pub returns-clause-idle : goal.returns-clause-idle
returns-clause-idle c setup w step e = of_idleness (reason_of setup w step) (sorts_agree setup w step ∙ ap sort_of_reply e)

pub returns-clause-nak : goal.returns-clause-nak
returns-clause-nak c setup w step n e = of_no_packet (reason_of setup w step) (sorts_agree setup w step ∙ ap sort_of_reply e)

pub returns-clause-ended : goal.returns-clause-ended
returns-clause-ended c setup w step n code e = of_end (reason_of setup w step) code (sorts_agree setup w step ∙ ap sort_of_reply e)

pub returns-clause-failed : goal.returns-clause-failed
returns-clause-failed c setup w step ep errand e = of_failure (reason_of setup w step) ep (sorts_agree setup w step ∙ ap sort_of_reply e)

pub returns-clause-called : goal.returns-clause-called
returns-clause-called c setup w step returned e = of_callback (reason_of setup w step) returned.status (sorts_agree setup w step ∙ ap sort_of_reply e)
