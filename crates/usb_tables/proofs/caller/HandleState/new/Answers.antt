-- Nothing is counted, and nothing is there.
use Rattle.usb_tables.proofs.Counts.{none_counted, zeros}
use Rattle.usb_tables.proofs.caller.HandleState.new.Goals as goal

pub invariant_of-result : goal.invariant_of-result
invariant_of-result c = none_counted _ c.new.result.entries c.new.ensures.empty (zeros 32)

pub returns-clause-results : goal.returns-clause-results
returns-clause-results c = zeros 32

pub returns-clause-counts : goal.returns-clause-counts
returns-clause-counts c = zeros 32
