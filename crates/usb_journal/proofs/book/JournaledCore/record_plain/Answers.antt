use Rattle.std.proofs.Common.{◌∙◌, ap, length, subst, sym}
use Rattle.usb_model.specs.declared.step.Step.{Step}
use Rattle.usb_core.specs.Public.{Carries}
use Rattle.usb_recorder.specs.declared.place.Place.{Place}
use Rattle.usb_journal.specs.Booked.{Booked, next_entry}
use Rattle.usb_journal.specs.Timers.{stopped_if}
use Rattle.usb_journal.proofs.Replies.{no_bytes_of, plain_timers}
use Rattle.usb_journal.proofs.Runs.{entered, next_is}
use Rattle.usb_journal.proofs.book.JournaledCore.record_plain.Goals as goal

pub enter-receipt-requires-clause-bytes : goal.enter-receipt-requires-clause-bytes
enter-receipt-requires-clause-bytes g c = no_bytes_of g.L.Naming.setup c.self.inside.log.journal c.self.inside.core c.step.new.self c.in-Ok-step.stepped.entry c.args.step c.requires c.in-Ok-step.ensures.turned c.self.invariant.0

pub invariant_of-self-2 : goal.invariant_of-self-2
invariant_of-self-2 g c =
    let entry = c.in-Ok-step.stepped.entry in
    let p : Place = record { step = c.args.step; caller = c.number-caller.result; entry = entry; moment = c.self.inside.moment } in
    entered g.L.Naming.setup c.self.inside.log.journal c.prepare.new.self.journal c.self.inside.core c.step.new.self c.enter-receipt.new.log.journal c.self.inside.timers.items c.stop_if.new.timers.items p c.enter-receipt.result (length c.prepare.new.self.journal)
    c.prepare.ensures.same c.enter-receipt.ensures.journal
    (c.enter-receipt.ensures.receipt ∙ ap (λ (s : Step). record { place = length c.prepare.new.self.journal; entry = record { step = s; caller = c.number-caller.result; entry = entry; moment = c.self.inside.moment } }) c.of-asked.ensures)
    c.in-Ok-step.ensures.turned
    (c.stop_if.ensures ∙ (ap (λ o. stopped_if o entry.reply c.self.inside.timers.items) c.ending-ending.ensures ∙ plain_timers c.self.inside.timers.items c.args.step entry.reply c.self.inside.moment c.requires))
    c.self.invariant

pub returns-clause-entry : goal.returns-clause-entry
returns-clause-entry g c =
    next_is g.L.Naming.setup c.self.inside.log.journal c.self.inside.core c.step.new.self c.args.step c.in-Ok-step.stepped.entry c.in-Ok-step.ensures.turned c.self.invariant.0
    ∙ ap (λ (b : Booked g.row.P.Denot). next_entry b.setup b.journal c.args.step) c.self.view_is

pub returns-clause-carries : goal.returns-clause-carries
returns-clause-carries g c = λ kept has. c.in-Ok-step.ensures.carries kept (subst (λ (b : Booked g.row.P.Denot). Carries kept b.core) (sym c.self.view_is) has)

pub returns-clause-goes_out : goal.returns-clause-goes_out
returns-clause-goes_out g c = λ kept has. c.in-Ok-step.ensures.goes_out kept (subst (λ (b : Booked g.row.P.Denot). Carries kept b.core) (sym c.self.view_is) has)

pub returns-clause-back : goal.returns-clause-back
returns-clause-back g c = c.in-Ok-step.ensures.back
