use Rattle.std.proofs.Common.{arith, length, refl}
use Rattle.usb_model.specs.declared.entry.Entry.{Entry}
use Rattle.usb_model.specs.declared.step.Step.{Step}
use Rattle.usb_model.specs.declared.step.Step.TheVariants.{Deliver}
use Rattle.usb_recorder.specs.declared.place.Place.{Place}
use Rattle.usb_journal.proofs.Replies.{no_bytes_of, plain_timers}
use Rattle.usb_journal.proofs.Runs.{entered}
use Rattle.usb_journal.proofs.book.JournaledCore.deliver.Goals as goal

pub enter-receipt-requires-clause-room : goal.enter-receipt-requires-clause-room
enter-receipt-requires-clause-room g c =
    let entry : Entry = c.deliver-entry.result in
    let none = no_bytes_of g.L.Naming.setup c.self.inside.log.journal c.self.inside.core c.deliver-entry.new.self entry (Deliver) refl c.deliver-entry.ensures.turned c.self.invariant.0 in
    (1, 0, c.in_ok-reserve.ensures.room.1, omega arith, omega (arith, none))

pub invariant_of-self-2 : goal.invariant_of-self-2
invariant_of-self-2 g c =
    let entry : Entry = c.deliver-entry.result in
    let step : Step = Deliver in
    let p : Place = record { step = step; caller = c.number-caller.result; entry = entry; moment = c.self.inside.moment } in
    entered g.L.Naming.setup c.self.inside.log.journal c.reserve.new.self.journal c.self.inside.core c.deliver-entry.new.self c.enter-receipt.new.self.journal c.self.inside.timers.items c.self.inside.timers.items p c.enter-receipt.result (length c.reserve.new.self.journal)
    c.reserve.ensures.same c.enter-receipt.ensures.journal c.enter-receipt.ensures.receipt c.deliver-entry.ensures.turned
    (plain_timers c.self.inside.timers.items step entry.reply c.self.inside.moment refl)
    c.self.invariant
