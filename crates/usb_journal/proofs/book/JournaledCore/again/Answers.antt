use Rattle.std.proofs.Common.{◌∙◌, ℕ, ap, length, refl, sym}
use Rattle.usb_model.specs.declared.step.Step.{Step}
use Rattle.usb_model.specs.declared.step.Step.TheVariants.{Answer}
use Rattle.usb_model.specs.declared.verdict.Verdict.TheVariants.{Again}
use Rattle.usb_recorder.specs.declared.place.Place.{Place}
use Rattle.usb_journal.specs.Booked.{answer_entry, next_receipt}
use Rattle.usb_journal.specs.Timers.{started_again_if}
use Rattle.usb_journal.proofs.Answers.{again_timers, answer_turns, none_done, payload_comes_back}
use Rattle.usb_journal.proofs.Runs.{entered, received, same_book, same_place, stands_still}
use Rattle.usb_journal.proofs.book.JournaledCore.again.Goals as goal

pub returns-in-Err-clause-err : goal.returns-in-Err-clause-err
returns-in-Err-clause-err g c =
    let e = sym c.unless_no_memory.ensures ∙ c.in-Err.is in
    let s = c.again.ensures in (
      payload_comes_back c.again.result c.in-Err.back c.args.payload e s.back,
      same_book g.L.Naming.setup c.self.inside.log.journal c.prepare.new.log.journal c.self.inside.core c.again.new.self c.self.inside.moment c.args.self.now c.self.view_is c.prepare.ensures.same
          (none_done c.again.result c.in-Err.back _ e s.kept) (none_done c.again.result c.in-Err.back _ e s.still),
      refl,
    )

pub invariant_of-self-2 : goal.invariant_of-self-2
invariant_of-self-2 g c =
    let a = c.in-Ok-unless_no_memory.answer in
    let step : Step = Answer c.args.h c.args.n Again in
    let p : Place = record { step = step; caller = c.number-caller.result; entry = answer_entry c.args.h a; moment = c.self.inside.moment } in
    let turn = answer_turns c.self.inside.core c.again.new.self step c.args.h c.again.result a (sym c.unless_no_memory.ensures ∙ c.in-Ok-unless_no_memory.is) c.again.ensures.accepted c.again.ensures.refused in
    entered g.L.Naming.setup c.self.inside.log.journal c.prepare.new.log.journal c.self.inside.core c.again.new.self c.enter_answer-receipt.new.log.journal c.self.inside.timers.items c.start_again_if.new.timers.items p c.enter_answer-receipt.result (length c.prepare.new.log.journal)
    c.prepare.ensures.same c.enter_answer-receipt.ensures.journal
    (c.enter_answer-receipt.ensures.receipt ∙ ap (λ (x : Place). record { place = length c.prepare.new.log.journal; entry = x }) (same_place _ step c.number-caller.result _ _ c.self.inside.moment c.of-asked.ensures refl))
    turn
    (c.start_again_if.ensures ∙ (ap (started_again_if c.args.h c.args.n c.self.inside.moment a) c.prepare.ensures.timers ∙ again_timers c.args.h c.args.n c.self.inside.moment a c.self.inside.timers.items))
    c.self.invariant

pub returns-clause-receipt : goal.returns-clause-receipt
returns-clause-receipt g c =
    let step : Step = Answer c.args.h c.args.n Again in
    received g.L.Naming.setup c.self.inside.log.journal c.prepare.new.log.journal c.self.inside.core c.self.inside.moment c.args.self.now c.enter_answer-receipt.result c.of-asked.result.value step c.number-caller.result
    (answer_entry c.args.h c.in-Ok-unless_no_memory.answer) c.self.view_is c.prepare.ensures.same c.of-asked.ensures c.enter_answer-receipt.ensures.receipt
    ∙ ap (λ (n : ℕ). next_receipt c.args.self.now step n (answer_entry c.args.h c.in-Ok-unless_no_memory.answer)) c.number-caller.ensures

pub invariant_of-self-in-Err : goal.invariant_of-self-in-Err
invariant_of-self-in-Err g c =
    stands_still g.L.Naming.setup c.self.inside.log.journal c.prepare.new.log.journal c.self.inside.core c.again.new.self c.self.inside.timers.items c.prepare.new.timers.items c.prepare.ensures.same c.prepare.ensures.timers
    (none_done c.again.result c.in-Err.back _ (sym c.unless_no_memory.ensures ∙ c.in-Err.is) c.again.ensures.kept) c.self.invariant
