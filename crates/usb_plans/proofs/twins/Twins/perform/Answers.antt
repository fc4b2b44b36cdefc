-- A piece of another, or one of the handle's own, by both.
use Rattle.std.proofs.Common.{refl}
use Rattle.std.specs.Vec.Iter.{into_iter_items}
use Rattle.usb_plans.proofs.BothRuns.{performs_one, performs_two}
use Rattle.usb_plans.proofs.twins.Twins.perform.Goals as goal

pub returns-then-not-is_own : goal.returns-then-not-is_own
returns-then-not-is_own g c = rw (← c.self.view_is)
    (performs_one g.C.Callback.rule c.args.h c.args.piece.now c.args.callback c.args.its
    (record { run = c.self.inside.run; own = c.self.inside.own; left = into_iter_items c.self.inside.left; its = into_iter_items c.self.inside.its })
    (record { run = c.perform.new.self; own = c.self.inside.own; left = into_iter_items c.self.inside.left; its = into_iter_items c.self.inside.its })
    c.in_ok-shared.shared c.is_own.result (rw c.in_ok-copy_of.ensures at c.in_ok-shared.ensures.performs) c.is_own.ensures c.if-not-is_own.true refl refl refl)

pub returns : goal.returns
returns g c = rw (← c.self.view_is)
    (performs_two g.C.Callback.rule c.args.h c.args.piece.now c.args.callback c.args.its
    (record { run = c.self.inside.run; own = c.self.inside.own; left = into_iter_items c.self.inside.left; its = into_iter_items c.self.inside.its })
    (record { run = c.perform.new.self; own = c.perform-2.new.self; left = into_iter_items c.self.inside.left; its = into_iter_items c.self.inside.its })
    (record { shared = c.in_ok-shared.shared; alone = c.in_ok-alone.alone }) c.is_own.result (rw c.in_ok-copy_of.ensures at c.in_ok-shared.ensures.performs) c.is_own.ensures c.if-not-is_own.false (rw c.in_ok-copy_of-2.ensures at c.in_ok-alone.ensures.performs) refl refl)
