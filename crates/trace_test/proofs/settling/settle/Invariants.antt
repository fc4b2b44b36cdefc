-- The steps so far lead to the stage that the run shows.
use Rattle.std.proofs.Common.{◌≡◌, length}
use Rattle.trace_test.proofs.SettlingSteps.{HaveSettled}
use Rattle.trace_test.proofs.settling.settle.Given as goal

abbrev pub invariant-loop : goal.invariant-loop
invariant-loop g l = record {
  count : length l.steps.items ≡ l.counter;
  each : HaveSettled g.C.Callback.rule l.initial.run l.steps.items l.run;
}
