-- The devices that are left lead to the whole.
use Rattle.std.proofs.Common.{◌≡◌}
use Rattle.trace_recorded.specs.Choices.{no_search, with_found_device}
use Rattle.trace_recorded.specs.Devices.{by_device}
use Rattle.trace_recorded.specs.Folds.{after}
use Rattle.trace_recorded.proofs.choice.chosen.Given as goal

abbrev pub invariant-loop-key : goal.invariant-loop-key
invariant-loop-key l = after (with_found_device l.choice) l.search l.key-iterator ≡ after (with_found_device l.choice) no_search (by_device l.fn.events)
