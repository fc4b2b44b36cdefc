use Rattle.std.proofs.Common.{◌≡◌, ◌≤◌, ◌+◌, ◌++◌, length, map}
use Rattle.std.specs.Vec.Iter.{drain_items}
use Rattle.usb_workers.specs.Rounds.{AreCounted, MayAnswer, TellsAll, called_in}
use Rattle.usb_workers.proofs.event.call_all.Given as goal

-- the verdicts of those that were called are told, and the others are still there
abbrev pub invariant-loop-each : goal.invariant-loop-each
invariant-loop-each g l = record {
  told : TellsAll g.L.Naming.setup (MayAnswer l.initial.limit.rounds g.C.Whom.Suiting.suits g.C.Callback.may_answer g.C.Callback.rule) (map (λ t. t.returned) l.yielded) l.initial.caller l.caller;
  called : l.limit.called ≤ l.initial.limit.called + length l.yielded;
  own : called_in l.initial.caller.own ≤ called_in l.caller.own;
  rounds : l.limit.rounds ≡ l.initial.limit.rounds;
  counted : AreCounted l.tries.refused l.caller;
  left : l.yielded ++ drain_items l.each-iterator ≡ drain_items l.initial.each-iterator;
}
