-- A piece further each turn.
use Rattle.std.specs.Vec.Iter.{into_iter_items}
use Rattle.usb_plans.proofs.OwnPlans.{all_amid, first_amid, has_callback, is_no_verdict, more_amid}
use Rattle.usb_plans.proofs.own_plan.share_all.Goals as goal

pub loop-piece-init : goal.loop-piece-init
loop-piece-init g c = rw (c.new.ensures, c.new-2.ensures) (first_amid g.C.Callback.rule c.args.plan.now c.args.h (into_iter_items c.args.left.now) c.args.run.now c.requires.callbacks c.requires.no_verdict)

pub share-requires-clause-submits : goal.share-requires-clause-submits
share-requires-clause-submits g c =
    has_callback g.C.Callback.rule c.args.plan.now c.loop-piece.piece-index (into_iter_items c.loop-piece.left) (into_iter_items c.next_callback-callback.new.left) c.piece-item.result c.next_callback-callback.result
    c.loop-piece-test.true c.piece-item.is c.loop-piece.invariant.ahead c.next_callback-callback.ensures

pub share-requires-clause-no_verdict : goal.share-requires-clause-no_verdict
share-requires-clause-no_verdict g c =
    is_no_verdict g.C.Callback.rule c.args.plan.now c.loop-piece.piece-index (into_iter_items c.loop-piece.left) (into_iter_items c.next_callback-callback.new.left) c.piece-item.result c.next_callback-callback.result
    c.loop-piece-test.true c.piece-item.is c.loop-piece.invariant.ahead

pub loop-piece-preserved : goal.loop-piece-preserved
loop-piece-preserved g c =
    more_amid g.C.Callback.rule c.args.plan.now c.args.h (into_iter_items c.args.left.now) c.args.run.now c.loop-piece.run c.share.new.run c.loop-piece.part c.share.new.part c.loop-piece.piece-index
    (into_iter_items c.loop-piece.left) (into_iter_items c.next_callback-callback.new.left) c.piece-item.result c.next_callback-callback.result c.loop-piece-test.true c.piece-item.is c.loop-piece.invariant c.next_callback-callback.ensures c.in_ok-share.ensures

pub returns : goal.returns
returns g c =
    all_amid g.C.Callback.rule c.args.plan.now c.args.h (into_iter_items c.args.left.now) c.args.run.now c.loop-piece.run c.loop-piece.part c.loop-piece.piece-index (into_iter_items c.loop-piece.left) c.loop-piece-test.false c.loop-piece.invariant
