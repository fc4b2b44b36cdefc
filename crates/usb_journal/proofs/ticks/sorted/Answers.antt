use Rattle.std.proofs.Common.{◌≡◌, ◌==◌, ℕ, arith, subst}
use Rattle.std.specs.List.{filter, flat_map}
use Rattle.usb_model.specs.World.Due.{below}
use Rattle.usb_journal.specs.declared.timer.Timer.{Timer}
use Rattle.usb_journal.proofs.Loops.{names_next}
use Rattle.usb_journal.proofs.ticks.sorted.Goals as goal

pub loop-number-preserved : goal.loop-number-preserved
loop-number-preserved c = names_next c.args.timers.now c.loop-number.number c.loop-number.sorted.items c.push_named.new.sorted.items c.in-Ok.ensures c.loop-number.invariant

pub returns : goal.returns
returns c =
    let last : c.loop-number.number ≡ 64 = omega (arith, c.loop-number-test.false, c.loop-number.auto.number-end) in
    subst (λ (n : ℕ). c.loop-number.sorted.items ≡ flat_map (λ h. filter (λ (t : Timer). t.h == h) c.args.timers.now) (below n)) last c.loop-number.invariant
