-- The plan so far.
use Rattle.std.specs.Prelude.{map}
use Rattle.std.specs.Vec.Iter.{into_iter_items}
use Rattle.usb_core.specs.Public.{setup_of}
use Rattle.usb_plans.proofs.Reached.{Reached}
use Rattle.usb_plans.proofs.drives.drive.Given as goal

abbrev pub invariant-loop-piece : goal.invariant-loop-piece
invariant-loop-piece g l = Reached g.C.Callback.rule (setup_of l.fn.setup) l.fn.plan.items (map g.C.Callback.rule l.fn.callbacks.items) l.run l.entries.items (into_iter_items l.piece-iterator) (into_iter_items l.left)
