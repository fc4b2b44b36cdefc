use Rattle.std.proofs.Common.{arith, length, option_map, refl}
use Rattle.usb_model.specs.declared.step.Step.TheVariants.{Take}
use Rattle.usb_core.specs.Public.{called_entry}
use Rattle.usb_recorder.specs.declared.place.Place.{Place}
use Rattle.usb_journal.specs.Booked.{world_where}
use Rattle.usb_journal.proofs.Replies.{take_timers, taken_bytes}
use Rattle.usb_journal.proofs.Runs.{entered, same_book}
use Rattle.usb_journal.proofs.book.JournaledCore.take.Goals as goal

pub enter-requires-clause-room : goal.enter-requires-clause-room
enter-requires-clause-room g c =
    let w = world_where g.L.Naming.setup c.self.inside.log.journal in
    let fits = taken_bytes g.L.Naming.setup c.self.inside.log.journal c.self.inside.core c.take.new.self (called_entry (option_map (λ t. t.returned) c.in-Ok.taken)) c.next_len.result c.in-Ok.ensures.taken c.self.invariant.0 (c.next_len.ensures g.L.Naming.setup w c.self.invariant.0.1) in
    (1, c.next_len.result, c.in_ok-reserve.ensures.room.1, omega arith, fits)

pub invariant_of-self-2 : goal.invariant_of-self-2
invariant_of-self-2 g c =
    let entry = called_entry (option_map (λ t. t.returned) c.in-Ok.taken) in
    let p : Place = record { step = Take; caller = c.number-caller.result; entry = entry; moment = c.self.inside.moment } in
    entered g.L.Naming.setup c.self.inside.log.journal c.reserve.new.self.journal c.self.inside.core c.take.new.self c.enter.new.log.journal c.self.inside.timers.items c.self.inside.timers.items p c.enter.result.0 (length c.reserve.new.self.journal)
    c.reserve.ensures.same c.enter.ensures.journal c.enter.ensures.receipt c.in-Ok.ensures.taken (take_timers c.self.inside.timers.items (option_map (λ t. t.returned) c.in-Ok.taken) c.self.inside.moment) c.self.invariant

pub returns-in_default-clause-err : goal.returns-in_default-clause-err
returns-in_default-clause-err g c =
    let s = c.in_default.ensures in
    (same_book g.L.Naming.setup c.self.inside.log.journal c.reserve.new.self.journal c.self.inside.core c.take.new.self c.self.inside.moment c.args.self.now c.self.view_is c.reserve.ensures.same s.refused s.still, refl)
