use Rattle.std.proofs.Common.{sym, ◌∙◌}
use Rattle.std.specs.Prelude.{replicate}
use Rattle.usb_model.specs.declared.step.Step.TheVariants.{Take}
use Rattle.usb_journal.specs.Rows.{new_places}
use Rattle.usb_library.proofs.RowMade.{makes_row, row_of_book}
use Rattle.usb_library.proofs.RowWakes.{results_wake}
use Rattle.usb_library.proofs.Suits.{row_suits}
use Rattle.usb_library.proofs.library.Library.take_all.Goals as goal

pub wake_row-requires : goal.wake_row-requires
wake_row-requires g c =
    let x = c.in_ok-outgoing.outgoing in
    let e = c.take_all-made.ensures in
    let last = row_of_book g.L.Naming.setup (λ y. replicate y.row.count Take) (λ y. y.row) c.behind-lock.inside.book c.take_all-made.new.self _ _ _ c.counted.new.self c.take_all-made.result x (sym c.counted.ensures.given ∙ c.in_ok-outgoing.was) e.made e.library c.counted.ensures.made in
    results_wake g.L.Naming.setup x.row.count c.behind-lock.inside.book.journal (new_places c.behind-lock.inside.book c.take_all-made.new.self) c.counted.new.self.seen x.row.first last

pub returns-clause-made : goal.returns-clause-made
returns-clause-made g c =
    let x = c.in_ok-outgoing.outgoing in
    let e = c.take_all-made.ensures in
    makes_row g.L.Naming.setup (λ y. replicate y.row.count Take) (λ y. y.row) c.behind-lock.inside.book c.take_all-made.new.self _ _ _ _ c.counted.new.self c.take_all-made.result x (sym c.counted.ensures.given ∙ c.in_ok-outgoing.was) e.made e.library c.counted.ensures.made c.caller.view_is

pub returns-clause-suits : goal.returns-clause-suits
returns-clause-suits g c =
    let i = c.behind-lock.invariant in
    row_suits g.P.Whom.Suiting.suits i.kept i.suits c.take_all-made.new.taken.items (c.take_all-made.ensures.carries i.kept i.carries).0
