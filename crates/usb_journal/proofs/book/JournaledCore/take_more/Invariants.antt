use Rattle.std.proofs.Common.{◌≡◌, ◌++◌, List, length}
use Rattle.usb_core.specs.declared.results.Taken.{Taken}
use Rattle.usb_journal.specs.Entered.{TakesRow}
use Rattle.usb_journal.proofs.book.JournaledCore.take_more.Given as goal

abbrev pub invariant-loop-done : goal.invariant-loop-done
invariant-loop-done g l = (more : List (Taken g.row.P.Denot)) × (l.taken.items ≡ l.initial.taken.items ++ more) × (length more ≡ l.done) × TakesRow more l.initial.self l.initial.position l.self l.position
