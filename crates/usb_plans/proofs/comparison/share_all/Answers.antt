-- A step further each turn.
use Rattle.usb_plans.proofs.Apart.{all_told, none_yet, one_more}
use Rattle.usb_plans.proofs.comparison.share_all.Goals as goal

pub loop-step-init : goal.loop-step-init
loop-step-init g c = rw (c.new.ensures, c.new-2.ensures) (λ setup shows. none_yet setup c.args.steps.now c.args.h c.args.core.now shows)

pub loop-step-preserved : goal.loop-step-preserved
loop-step-preserved g c = λ setup shows.
    one_more setup c.args.steps.now c.args.h c.loop-step.core c.share.new.core c.loop-step.part c.share.new.part c.loop-step.step-index c.step-item.result c.loop-step-test.true c.step-item.is (c.loop-step.invariant setup shows) c.in_ok-share.ensures

pub returns : goal.returns
returns g c = λ setup shows. all_told setup c.args.steps.now c.args.h c.loop-step.core c.loop-step.part c.loop-step.step-index c.loop-step-test.false (c.loop-step.invariant setup shows)
