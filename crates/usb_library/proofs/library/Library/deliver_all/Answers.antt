use Rattle.std.proofs.Common.{◌≡◌, subst, sym, ◌∙◌}
use Rattle.std.specs.Prelude.{if◌then◌else◌, replicate}
use Rattle.usb_model.specs.declared.step.Step.TheVariants.{Deliver}
use Rattle.usb_journal.specs.Booked.{world_where}
use Rattle.usb_journal.specs.Rows.{are_quiet, new_places}
use Rattle.usb_library.specs.declared.wakes.WorkerPart.TheVariants.{Controller}
use Rattle.usb_library.specs.declared.wakes.Work.TheVariants.{None, Of}
use Rattle.usb_library.proofs.CallWakes.{at_ok}
use Rattle.usb_library.proofs.RowMade.{makes_row, row_of_book}
use Rattle.usb_library.proofs.RowWakes.{events_wake}
use Rattle.usb_library.proofs.library.Library.deliver_all.Goals.{else-delivered, then-delivered}
use Rattle.usb_library.proofs.library.Library.deliver_all.Goals as goal

pub wake_row-requires : goal.wake_row-requires
wake_row-requires g c =
    let x = c.in_ok-delivered.delivered in
    let b = c.behind-lock.inside.book in
    let e = c.deliver_all-made.ensures in
    let is = sym c.counted.ensures.given ∙ c.in_ok-delivered.was in
    let last = row_of_book g.L.Naming.setup (λ y. replicate y.row.count Deliver) (λ y. y.row) b c.deliver_all-made.new.self _ _ _ c.counted.new.self c.deliver_all-made.result x is e.made e.library c.counted.ensures.made in
    let quiet = subst (λ s. x.quiet ≡ are_quiet s (world_where s b.journal) x.row.count) e.library (at_ok (λ y. y.quiet ≡ are_quiet b.setup (world_where b.setup b.journal) y.row.count) c.deliver_all-made.result x is e.quiet) in
    let named : c.if-delivered.work ≡ (if x.quiet then None else Of Controller) = elim c.if-delivered.branch [ then-delivered w ↦ rw w.if-delivered.true w.work-is | else-delivered w ↦ rw w.if-delivered.false w.work-is ] in
    events_wake g.L.Naming.setup x.row.count x.quiet b.journal (new_places b c.deliver_all-made.new.self) c.counted.new.self.seen x.row.first c.if-delivered.work last quiet named

pub returns-clause-made : goal.returns-clause-made
returns-clause-made g c =
    let x = c.in_ok-delivered.delivered in
    let e = c.deliver_all-made.ensures in
    makes_row g.L.Naming.setup (λ y. replicate y.row.count Deliver) (λ y. y.row) c.behind-lock.inside.book c.deliver_all-made.new.self _ _ _ _ c.counted.new.self c.deliver_all-made.result x (sym c.counted.ensures.given ∙ c.in_ok-delivered.was) e.made e.library c.counted.ensures.made c.caller.view_is
