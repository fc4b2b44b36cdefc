-- So many packets so far, of which none ended a transfer.
use Rattle.std.specs.Prelude.{◌-◌, ◌≤◌}
use Rattle.tirnouch_c.proofs.Progress.{Going}
use Rattle.tirnouch_c.proofs.packets.serve.Given as goal

abbrev pub invariant-loop-done : goal.invariant-loop-done
invariant-loop-done l = (l.done ≤ l.most) × Going l.dev l.ep l.done l.reply l.initial.session l.session

abbrev pub decreases-loop-done : goal.decreases-loop-done
decreases-loop-done l = l.most - l.done
