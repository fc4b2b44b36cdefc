-- The pieces so far, over whichever devices and under whichever rules.
use Rattle.std.specs.Vec.Iter.{into_iter_items}
use Rattle.usb_plans.proofs.OwnPlans.{IsAmid}
use Rattle.usb_plans.proofs.own_plan.share_all.Given as goal

abbrev pub invariant-loop-piece : goal.invariant-loop-piece
invariant-loop-piece g l = IsAmid g.C.Callback.rule l.fn.plan l.fn.h (into_iter_items l.fn.left) l.fn.run l.run l.part l.piece-index (into_iter_items l.left)
