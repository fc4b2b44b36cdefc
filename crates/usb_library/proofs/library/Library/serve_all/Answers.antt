use Rattle.std.proofs.Common.{◌≡◌, sym, ◌∙◌}
use Rattle.std.specs.Prelude.{if◌then◌else◌, replicate}
use Rattle.usb_model.specs.declared.step.Step.TheVariants.{Serve}
use Rattle.usb_journal.specs.Booked.{entries_of}
use Rattle.usb_journal.specs.Rows.{ends_any, new_places}
use Rattle.usb_library.specs.declared.wakes.WorkerPart.TheVariants.{Events}
use Rattle.usb_library.specs.declared.wakes.Work.TheVariants.{None, Of}
use Rattle.usb_library.proofs.CallWakes.{at_ok}
use Rattle.usb_library.proofs.RowMade.{makes_row, row_of_book}
use Rattle.usb_library.proofs.RowWakes.{packets_wake}
use Rattle.usb_library.proofs.library.Library.serve_all.Goals.{else-served, then-served}
use Rattle.usb_library.proofs.library.Library.serve_all.Goals as goal

pub wake_row-requires : goal.wake_row-requires
wake_row-requires g c =
    let x = c.in_ok-served.served in
    let b = c.behind-guarded-2.inside.book in
    let e = c.serve_all-made.ensures in
    let is = sym c.counted.ensures.given ∙ c.in_ok-served.was in
    let last = row_of_book g.L.Naming.setup (λ y. replicate y.row.count (Serve c.args.dev c.args.ep)) (λ y. y.row) b c.serve_all-made.new.self _ _ _ c.counted.new.self c.serve_all-made.result x is e.made e.library c.counted.ensures.made in
    let ended = at_ok (λ y. y.ended ≡ ends_any (entries_of (new_places b c.serve_all-made.new.self))) c.serve_all-made.result x is e.ended in
    let named : c.if-served.work ≡ (if x.ended then Of Events else None) = elim c.if-served.branch [ then-served w ↦ rw w.if-served.true w.work-is | else-served w ↦ rw w.if-served.false w.work-is ] in
    packets_wake g.L.Naming.setup c.args.dev c.args.ep x.row.count x.ended b.journal (new_places b c.serve_all-made.new.self) c.counted.new.self.seen x.row.first c.if-served.work last ended named

pub returns-clause-made : goal.returns-clause-made
returns-clause-made g c =
    let x = c.in_ok-served.served in
    let e = c.serve_all-made.ensures in
    makes_row g.L.Naming.setup (λ y. replicate y.row.count (Serve c.args.dev c.args.ep)) (λ y. y.row) c.behind-guarded-2.inside.book c.serve_all-made.new.self _ _ _ _ c.counted.new.self c.serve_all-made.result x (sym c.counted.ensures.given ∙ c.in_ok-served.was) e.made e.library c.counted.ensures.made c.caller.view_is
