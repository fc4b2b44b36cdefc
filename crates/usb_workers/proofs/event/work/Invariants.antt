use Rattle.std.proofs.Common.{◌≡◌, ◌≤◌, []}
use Rattle.usb_library.specs.Calls.{ShowsEvents}
use Rattle.usb_workers.specs.Rounds.{AreCounted, Handles, MayAnswer, Rounds, called_in}
use Rattle.usb_workers.proofs.event.work.Given as goal

abbrev pub invariant-loop : goal.invariant-loop
invariant-loop g l = record {
  rounds : Rounds (ShowsEvents g.L.Naming.setup) (Handles g.L.Naming.setup (MayAnswer l.rounds g.C.Whom.Suiting.suits g.C.Callback.may_answer g.C.Callback.rule)) l.initial.caller l.caller;
  called : l.limit.called ≤ called_in l.caller.own;
  most : l.limit.rounds ≡ l.rounds;
  counted : AreCounted l.tries.refused l.caller;
  empty : l.taken.items ≡ [];
}
