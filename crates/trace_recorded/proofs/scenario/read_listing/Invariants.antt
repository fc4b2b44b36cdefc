-- The devices that are left lead to the whole.
use Rattle.std.proofs.Common.{◌≡◌}
use Rattle.trace_recorded.specs.Folds.{after}
use Rattle.trace_recorded.specs.Scenario.{listing_of, with_found}
use Rattle.trace_recorded.proofs.scenario.read_listing.Given as goal

abbrev pub invariant-loop-key : goal.invariant-loop-key
invariant-loop-key l = after with_found l.listing l.key-iterator ≡ listing_of l.fn.reader l.fn.events
