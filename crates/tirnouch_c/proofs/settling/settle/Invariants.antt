-- So many steps so far.
use Rattle.tirnouch_c.proofs.Progress.{Working}
use Rattle.tirnouch_c.proofs.settling.settle.Given as goal

abbrev pub invariant-loop-done : goal.invariant-loop-done
invariant-loop-done l = Working l.packets l.done l.initial.session l.session
