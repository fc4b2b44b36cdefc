use Rattle.std.proofs.Common.{refl, sym, ◌∙◌}
use Rattle.usb_model.specs.declared.step.Step.TheVariants.{Serve}
use Rattle.usb_library.proofs.CallWakes.{of_book, packet_wakes}
use Rattle.usb_library.proofs.library.Library.serve.Goals as goal

pub wake_if-requires : goal.wake_if-requires
wake_if-requires g c =
    let e = c.serve-made.ensures in
    let last =
    of_book g.L.Naming.setup c.behind-guarded-2.inside.book (Serve c.args.dev c.args.ep) _ (λ y. y) c.serve-made.result c.in_ok-receipt.receipt c.in_ok-receipt.entry _ _ _ _ c.counted.new.self (sym c.counted.ensures.given ∙ c.in_ok-receipt.was) e.receipt e.journal e.entry e.saw e.library
    c.counted.ensures.made refl in
    packet_wakes g.L.Naming.setup c.args.dev c.args.ep c.counted.new.self.seen c.in_ok-receipt.receipt c.in_ok-receipt.entry c.has_changed-changed.result c.of_packet-work.result last c.has_changed-changed.ensures c.of_packet-work.ensures
