use Rattle.std.proofs.Common.{refl, sym}
use Rattle.usb_library.proofs.CallWakes.{of_book, plain_wakes}
use Rattle.usb_library.proofs.library.Library.call.Goals as goal

pub wake_if-requires : goal.wake_if-requires
wake_if-requires g c =
    let e = c.record-recorded.ensures in
    let last =
    of_book g.L.Naming.setup c.behind-lock.inside.book c.args.step _ (λ y. y.entry) c.record-recorded.result c.in-Ok.receipt c.in-Ok.stepped _ _ _ _ c.counted.new.self (sym c.in-Ok.ensures.given) e.receipt e.journal e.entry e.saw e.library
    c.in-Ok.ensures.made refl in
    plain_wakes g.L.Naming.setup c.args.step c.counted.new.self.seen c.in-Ok.receipt c.in-Ok.stepped.entry c.has_changed-changed.result last c.has_changed-changed.ensures
