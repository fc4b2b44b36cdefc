use Rattle.std.proofs.Common.{refl, sym, ◌∙◌}
use Rattle.usb_model.specs.declared.step.Step.TheVariants.{Answer}
use Rattle.usb_model.specs.declared.verdict.Verdict.TheVariants.{AgainWith}
use Rattle.usb_journal.specs.Booked.{answer_entry}
use Rattle.usb_library.proofs.CallWakes.{of_book, submission_wakes}
use Rattle.usb_library.proofs.library.Library.again_with.Goals as goal

pub wake_if-requires : goal.wake_if-requires
wake_if-requires g c =
    let e = c.again_with-made.ensures in
    let last =
    of_book g.L.Naming.setup c.behind-lock.inside.book (Answer c.args.h c.args.n (AgainWith c.args.bytes)) _ (answer_entry c.args.h) c.again_with-made.result c.in_ok-receipt.receipt c.in_ok-receipt.number _ _ _ _ c.counted.new.self (sym c.counted.ensures.given ∙ c.in_ok-receipt.was) e.receipt e.journal e.entry e.saw e.library
    c.counted.ensures.made refl in
    submission_wakes g.L.Naming.setup (Answer c.args.h c.args.n (AgainWith c.args.bytes)) c.args.h c.counted.new.self.seen c.in_ok-receipt.receipt c.in_ok-receipt.number c.is_ok-refilled.result (λ reply b. refl) last c.is_ok-refilled.ensures.value
