-- The pieces so far, over whichever devices and under whichever rules.
use Rattle.std.specs.Vec.Iter.{into_iter_items}
use Rattle.usb_plans.proofs.OwnPlans.{IsAgain}
use Rattle.usb_plans.proofs.own_plan.perform_all_own.Given as goal

abbrev pub invariant-loop-piece : goal.invariant-loop-piece
invariant-loop-piece g l = IsAgain g.C.Callback.rule l.fn.plan l.fn.own (into_iter_items l.fn.left) l.fn.run l.run l.entries l.piece-index (into_iter_items l.marks) (into_iter_items l.left)
