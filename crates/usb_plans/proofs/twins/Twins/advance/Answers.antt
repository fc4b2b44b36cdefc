-- With the callbacks that were next.
use Rattle.std.specs.Vec.Iter.{into_iter_items}
use Rattle.usb_plans.proofs.BothRuns.{advances}
use Rattle.usb_plans.proofs.twins.Twins.advance.Goals as goal

pub returns : goal.returns
returns g c = rw (← c.self.view_is)
    (advances g.C.Callback.rule c.args.h c.args.piece.now c.next_callback-callback.result c.next_callback-its.result
    (record { run = c.self.inside.run; own = c.self.inside.own; left = into_iter_items c.next_callback-callback.new.left; its = into_iter_items c.next_callback-its.new.left })
    c.perform.new.self (into_iter_items c.self.inside.left) (into_iter_items c.self.inside.its) c.perform.result
    c.next_callback-callback.ensures c.next_callback-its.ensures c.perform.ensures)
