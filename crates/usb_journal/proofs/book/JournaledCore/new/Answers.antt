use Rattle.std.proofs.Common.{◌≡◌, subst, sym}
use Rattle.usb_model.specs.World.{new_world}
use Rattle.usb_core.specs.Public.{ShowsWorld}
use Rattle.usb_journal.specs.Booked.{Replays}
use Rattle.usb_journal.specs.Timers.{timers_of}
use Rattle.usb_journal.proofs.Runs.{none_yet}
use Rattle.usb_journal.proofs.book.JournaledCore.new.Goals as goal

pub invariant_of-result : goal.invariant_of-result
invariant_of-result g c =
    subst (λ l. Replays g.L.Naming.setup l c.in_ok-core.core × (c.new-timers.result.items ≡ timers_of l)) (sym c.new-log.ensures)
    (none_yet g.L.Naming.setup c.in_ok-core.core (subst (λ s. ShowsWorld s c.in_ok-core.core (new_world s)) c.requires.setup c.in_ok-core.ensures.shows), c.new-timers.ensures.items)
