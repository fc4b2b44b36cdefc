-- A piece further each turn.
use Rattle.std.proofs.Common.{◌∙◌}
use Rattle.std.specs.Vec.Iter.{into_iter_items}
use Rattle.usb_plans.proofs.OwnPlans.{all_picked, first_again, has_callback, is_no_verdict, more_again}
use Rattle.usb_plans.proofs.own_plan.perform_all_own.Goals as goal

pub loop-piece-init : goal.loop-piece-init
loop-piece-init g c = rw c.new-entries.ensures
    (first_again g.C.Callback.rule c.args.plan.now c.args.own (into_iter_items c.args.left.now) c.args.run.now (into_iter_items c.into_iter-marks.result) (c.into_iter-marks.ensures.rest ∙ c.into_vec.ensures) c.requires.callbacks c.requires.no_verdict)

pub perform_own-requires-clause-submits : goal.perform_own-requires-clause-submits
perform_own-requires-clause-submits g c =
    has_callback g.C.Callback.rule c.args.plan.now c.loop-piece.piece-index (into_iter_items c.loop-piece.left) (into_iter_items c.next_callback-callback.new.left) c.piece-item.result c.next_callback-callback.result
    c.loop-piece-test.true c.piece-item.is c.loop-piece.invariant.ahead c.next_callback-callback.ensures

pub perform_own-requires-clause-no_verdict : goal.perform_own-requires-clause-no_verdict
perform_own-requires-clause-no_verdict g c =
    is_no_verdict g.C.Callback.rule c.args.plan.now c.loop-piece.piece-index (into_iter_items c.loop-piece.left) (into_iter_items c.next_callback-callback.new.left) c.piece-item.result c.next_callback-callback.result
    c.loop-piece-test.true c.piece-item.is c.loop-piece.invariant.ahead

pub loop-piece-preserved : goal.loop-piece-preserved
loop-piece-preserved g c =
    more_again g.C.Callback.rule c.args.plan.now c.args.own (into_iter_items c.args.left.now) c.args.run.now c.loop-piece.run c.perform_own.new.run c.loop-piece.entries c.perform_own.new.entries c.loop-piece.piece-index
    (into_iter_items c.loop-piece.marks) (into_iter_items c.is_next_own-mine.new.own) c.is_next_own-mine.result (into_iter_items c.loop-piece.left) (into_iter_items c.next_callback-callback.new.left) c.piece-item.result c.next_callback-callback.result
    c.loop-piece-test.true c.piece-item.is c.loop-piece.invariant c.is_next_own-mine.ensures c.next_callback-callback.ensures c.in_ok-perform_own.ensures

pub returns : goal.returns
returns g c =
    all_picked g.C.Callback.rule c.args.plan.now c.args.own (into_iter_items c.args.left.now) c.args.run.now c.loop-piece.run c.loop-piece.entries c.loop-piece.piece-index (into_iter_items c.loop-piece.marks) (into_iter_items c.loop-piece.left)
    c.loop-piece-test.false c.loop-piece.invariant
