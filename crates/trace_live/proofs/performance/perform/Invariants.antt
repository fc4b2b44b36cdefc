-- The submissions are those of the plan, each with its rule.
use Rattle.trace_threads.specs.Verdicts.{ruled}
use Rattle.trace_live.proofs.performance.perform.Given as goal

abbrev pub ghosts-perform_given : goal.ghosts-perform_given
ghosts-perform_given g a = record { given = ruled a.plan a.rules.now }
