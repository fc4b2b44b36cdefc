-- A piece further each turn.
use Rattle.std.proofs.Common.{[], ◌+◌, ◌++◌, drop, map, refl}
use Rattle.std.specs.Vec.Iter.{into_iter_items}
use Rattle.usb_plans.proofs.Reached.{has_callback, is_no_verdict, none_yet, one_more, rest_is}
use Rattle.usb_plans.specs.PlanRuns.{entries_of}
use Rattle.trace_run.proofs.drawing.draw_all.Goals as goal

pub loop-piece-init : goal.loop-piece-init
loop-piece-init g c = (
  c.requires.new.0,
  [],
  none_yet g.C.Callback.rule c.requires.new.0 c.args.plan.now (map g.C.Callback.rule (into_iter_items c.args.left.now)) c.args.run.now c.args.plan.now (into_iter_items c.args.left.now) refl c.requires.new.1 refl c.requires.callbacks c.requires.no_verdict,
)

pub perform-requires-clause-submits : goal.perform-requires-clause-submits
perform-requires-clause-submits g c = rw c.in_ok-copy_of.ensures
    (has_callback g.C.Callback.rule c.loop-piece.invariant.0 c.args.plan.now (map g.C.Callback.rule (into_iter_items c.args.left.now)) c.loop-piece.run c.loop-piece.invariant.1 (drop c.loop-piece.piece-index c.args.plan.now) (drop (c.loop-piece.piece-index + 1) c.args.plan.now)
    (into_iter_items c.loop-piece.left) (into_iter_items c.next_callback-callback.new.left) c.piece-item.result c.next_callback-callback.result (rest_is c.args.plan.now c.loop-piece.piece-index c.piece-item.result c.loop-piece-test.true c.piece-item.is)
    c.loop-piece.invariant.2 c.next_callback-callback.ensures)

pub perform-requires-clause-no_verdict : goal.perform-requires-clause-no_verdict
perform-requires-clause-no_verdict g c = rw c.in_ok-copy_of.ensures
    (is_no_verdict g.C.Callback.rule c.loop-piece.invariant.0 c.args.plan.now (map g.C.Callback.rule (into_iter_items c.args.left.now)) c.loop-piece.run c.loop-piece.invariant.1 (drop c.loop-piece.piece-index c.args.plan.now) (drop (c.loop-piece.piece-index + 1) c.args.plan.now)
    (into_iter_items c.loop-piece.left) c.piece-item.result (rest_is c.args.plan.now c.loop-piece.piece-index c.piece-item.result c.loop-piece-test.true c.piece-item.is) c.loop-piece.invariant.2)

pub loop-piece-preserved : goal.loop-piece-preserved
loop-piece-preserved g c =
    let entries = entries_of c.in_ok-performed.performed in (
      c.loop-piece.invariant.0,
      c.loop-piece.invariant.1 ++ entries,
      one_more g.C.Callback.rule c.loop-piece.invariant.0 c.args.plan.now (map g.C.Callback.rule (into_iter_items c.args.left.now)) c.loop-piece.run c.perform.new.self c.loop-piece.invariant.1 (c.loop-piece.invariant.1 ++ entries)
          (drop c.loop-piece.piece-index c.args.plan.now) (drop (c.loop-piece.piece-index + 1) c.args.plan.now) (into_iter_items c.loop-piece.left) (into_iter_items c.next_callback-callback.new.left) c.piece-item.result c.next_callback-callback.result
          (rest_is c.args.plan.now c.loop-piece.piece-index c.piece-item.result c.loop-piece-test.true c.piece-item.is)
          c.loop-piece.invariant.2 c.next_callback-callback.ensures (entries, (rw c.in_ok-copy_of.ensures at c.in_ok-performed.ensures.performs), refl),
    )
