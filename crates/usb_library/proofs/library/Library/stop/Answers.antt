use Rattle.std.proofs.Common.{refl, sym, ◌∙◌}
use Rattle.usb_model.specs.declared.step.Step.TheVariants.{Answer}
use Rattle.usb_model.specs.declared.verdict.Verdict.TheVariants.{Stop}
use Rattle.usb_library.proofs.CallWakes.{of_book, stop_wakes}
use Rattle.usb_library.proofs.library.Library.stop.Goals as goal

pub wake_if-requires : goal.wake_if-requires
wake_if-requires g c =
    let e = c.stop-made.ensures in
    let last =
    of_book g.L.Naming.setup c.behind-lock.inside.book (Answer c.args.h c.args.n Stop) _ (λ y. y) c.stop-made.result c.in_ok-receipt.receipt c.in_ok-receipt.entry _ _ _ _ c.counted.new.self (sym c.counted.ensures.given ∙ c.in_ok-receipt.was) e.receipt e.journal e.entry e.saw e.library
    c.counted.ensures.made refl in
    stop_wakes g.L.Naming.setup c.args.h c.args.n c.counted.new.self.seen c.in_ok-receipt.receipt c.in_ok-receipt.entry c.has_changed-changed.result last c.has_changed-changed.ensures
