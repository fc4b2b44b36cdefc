use Rattle.std.proofs.Common.{◌∙◌, ◌==◌, ◌++◌, ap, arith}
use Rattle.std.specs.List.{filter}
use Rattle.std.proofs.lemmas.List.{take_all}
use Rattle.usb_journal.specs.declared.timer.Timer.{Timer}
use Rattle.usb_journal.proofs.Loops.{filter_behind}
use Rattle.usb_journal.proofs.ticks.push_named.Goals as goal

pub loop-timer-preserved : goal.loop-timer-preserved
loop-timer-preserved c =
    filter_behind (λ (t : Timer). t.h == c.args.number) c.args.timers.now c.loop-timer.timer-index c.timer-item.result (c.number.result == c.args.number) c.args.sorted.now.items c.loop-timer.sorted.items c.push_if.new.timers.items c.loop-timer-test.true c.timer-item.is
    (ap (λ k. k == c.args.number) c.number.ensures.value) c.in-Ok.ensures c.loop-timer.invariant

pub returns : goal.returns
returns c = c.loop-timer.invariant ∙ ap (λ l. c.args.sorted.now.items ++ filter (λ (t : Timer). t.h == c.args.number) l) (take_all c.loop-timer.timer-index c.args.timers.now (omega (arith, c.loop-timer-test.false)))
