-- The rules so far.
use Rattle.std.proofs.Common.{◌≡◌, map, take}
use Rattle.trace_run.proofs.devices.callbacks_of.Given as goal

abbrev pub invariant-loop-rule : goal.invariant-loop-rule
invariant-loop-rule l = map (λ c. c.rule) l.callbacks.items ≡ take l.rule-index l.rules
