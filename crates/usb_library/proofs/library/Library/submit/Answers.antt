use Rattle.std.proofs.Common.{refl, sym, ◌∙◌}
use Rattle.usb_model.specs.declared.step.Step.TheVariants.{Submit}
use Rattle.usb_journal.specs.Booked.{answer_entry}
use Rattle.usb_library.proofs.CallWakes.{of_book, submission_wakes}
use Rattle.usb_library.proofs.library.Library.submit.Goals as goal

pub wake_if-requires : goal.wake_if-requires
wake_if-requires g c =
    let e = c.submit-made.ensures in
    let last =
    of_book g.L.Naming.setup c.behind-lock.inside.book (Submit c.args.h c.args.request) _ (answer_entry c.args.h) c.submit-made.result c.in_ok-receipt.receipt c.in_ok-receipt.number _ _ _ _ c.counted.new.self (sym c.counted.ensures.given ∙ c.in_ok-receipt.was) e.receipt e.journal e.entry e.saw e.library
    c.counted.ensures.made refl in
    submission_wakes g.L.Naming.setup (Submit c.args.h c.args.request) c.args.h c.counted.new.self.seen c.in_ok-receipt.receipt c.in_ok-receipt.number c.is_ok-accepted.result (λ reply b. refl) last c.is_ok-accepted.ensures.value
