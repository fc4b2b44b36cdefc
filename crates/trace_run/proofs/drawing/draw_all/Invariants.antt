-- The plan so far.
use Rattle.std.proofs.Common.{List, drop, map}
use Rattle.std.specs.Vec.Iter.{into_iter_items}
use Rattle.usb_model.specs.declared.entry.Entry.{Entry}
use Rattle.usb_model.specs.Setup.{Setup}
use Rattle.usb_plans.proofs.Reached.{Reached}
use Rattle.trace_run.proofs.drawing.draw_all.Given as goal

abbrev pub invariant-loop-piece : goal.invariant-loop-piece
invariant-loop-piece g l = (setup : Setup) × (entries : List Entry) × Reached g.C.Callback.rule setup l.fn.plan (map g.C.Callback.rule (into_iter_items l.fn.left)) l.run entries (drop l.piece-index l.fn.plan) (into_iter_items l.left)
