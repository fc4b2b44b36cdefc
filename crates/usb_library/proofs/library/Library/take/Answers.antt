use Rattle.std.proofs.Common.{refl, sym, ◌∙◌}
use Rattle.std.specs.Prelude.{option_map}
use Rattle.usb_model.specs.declared.step.Step.TheVariants.{Take}
use Rattle.usb_core.specs.Public.{called_entry}
use Rattle.usb_library.proofs.CallWakes.{of_book, take_wakes}
use Rattle.usb_library.proofs.library.Library.take.Goals as goal

pub wake_if-requires : goal.wake_if-requires
wake_if-requires g c =
    let e = c.take-made.ensures in
    let last =
    of_book g.L.Naming.setup c.behind-lock.inside.book Take _ (λ o. called_entry (option_map (λ t. t.returned) o)) c.take-made.result c.in_ok-receipt.receipt c.in_ok-receipt.taken _ _ _ _ c.counted.new.self (sym c.counted.ensures.given ∙ c.in_ok-receipt.was) e.receipt e.journal e.entry e.saw e.library
    c.counted.ensures.made refl in
    take_wakes g.L.Naming.setup c.counted.new.self.seen c.in_ok-receipt.receipt _ c.is_some.result last
