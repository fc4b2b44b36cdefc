-- A step further each turn.
use Rattle.std.proofs.Common.{[], sym, ◌∙◌, subst}
use Rattle.std.specs.Vec.Iter.{into_iter_items}
use Rattle.usb_plans.proofs.Apart.{Again, all_again, none_again, one_again}
use Rattle.usb_plans.proofs.comparison.make_all_own.Goals as goal

pub loop-step-init : goal.loop-step-init
loop-step-init g c = rw c.new-entries.ensures
    (λ setup shows. subst (Again setup c.args.steps.now c.args.own c.args.core.now [] 0) (sym (c.into_iter-left.ensures.rest ∙ c.into_vec.ensures)) (none_again setup c.args.steps.now c.args.own c.args.core.now shows))

pub loop-step-preserved : goal.loop-step-preserved
loop-step-preserved g c = λ setup shows.
    one_again setup c.args.steps.now c.args.own c.loop-step.core c.make_own.new.core c.loop-step.entries c.make_own.new.entries c.loop-step.step-index (into_iter_items c.loop-step.left) (into_iter_items c.is_next_own-mine.new.own) c.is_next_own-mine.result
    c.step-item.result c.loop-step-test.true c.step-item.is (c.loop-step.invariant setup shows) c.is_next_own-mine.ensures c.in_ok-make_own.ensures

pub returns : goal.returns
returns g c = λ setup shows. all_again setup c.args.steps.now c.args.own c.loop-step.core c.loop-step.entries c.loop-step.step-index (into_iter_items c.loop-step.left) c.loop-step-test.false (c.loop-step.invariant setup shows)
