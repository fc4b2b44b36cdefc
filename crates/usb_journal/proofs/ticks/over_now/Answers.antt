use Rattle.std.proofs.Common.{◌∙◌, ap, arith}
use Rattle.std.specs.List.{filter}
use Rattle.std.proofs.lemmas.List.{take_all}
use Rattle.usb_journal.specs.Timers.{is_over}
use Rattle.usb_journal.proofs.Loops.{filter_next}
use Rattle.usb_journal.proofs.ticks.over_now.Goals as goal

pub loop-timer-init : goal.loop-timer-init
loop-timer-init g c = λ setup w s. c.new-over.ensures.items

pub loop-timer-preserved : goal.loop-timer-preserved
loop-timer-preserved g c = λ setup w s.
    filter_next (is_over setup w c.args.moment) c.args.timers.now c.loop-timer.timer-index c.timer-item.result c.is_over-test.result c.loop-timer.over.items c.push_if.new.timers.items c.loop-timer-test.true c.timer-item.is (c.is_over-test.ensures setup w s) c.in-Ok.ensures (c.loop-timer.invariant setup w s)

pub returns : goal.returns
returns g c = λ setup w s. c.loop-timer.invariant setup w s ∙ ap (filter (is_over setup w c.args.moment)) (take_all c.loop-timer.timer-index c.args.timers.now (omega (arith, c.loop-timer-test.false)))
