-- The plan so far.
use Rattle.std.proofs.Common.{List}
use Rattle.std.specs.Vec.Iter.{into_iter_items}
use Rattle.usb_model.specs.declared.entry.Entry.{Entry}
use Rattle.usb_model.specs.declared.verdict.Rule.{Rule}
use Rattle.usb_model.specs.Setup.{Setup}
use Rattle.usb_plans.proofs.Reached.{Reached}
use Rattle.trace_run.specs.Printed.{StartsPlan}
use Rattle.trace_run.proofs.ending.perform_all.Given as goal

abbrev pub invariant-loop-piece : goal.invariant-loop-piece
invariant-loop-piece g l = (setup : Setup) (rules : List Rule) → StartsPlan g.C.Callback.rule setup l.fn.plan rules l.fn.run (into_iter_items l.fn.left) → (entries : List Entry) × Reached g.C.Callback.rule setup l.fn.plan rules l.run entries (into_iter_items l.piece-iterator) (into_iter_items l.left)
