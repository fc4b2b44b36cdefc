use Rattle.usb_library.specs.Calls.{ShowsPending}
use Rattle.usb_workers.specs.Rounds.{AreCounted, Controls, Rounds}
use Rattle.usb_workers.proofs.controller.work.Given as goal

abbrev pub invariant-loop : goal.invariant-loop
invariant-loop g l = record {
  rounds : Rounds (ShowsPending g.L.Naming.setup) (Controls g.L.Naming.setup) l.initial.caller l.caller;
  counted : AreCounted l.tries.refused l.caller;
}
