use Rattle.std.proofs.Common.{◌≡◌, ◌∙◌, ap, length, refl, sym}
use Rattle.std.proofs.lemmas.Option.{same_Some}
use Rattle.usb_model.specs.declared.request.Request.{Request}
use Rattle.usb_model.specs.declared.step.Step.{Step}
use Rattle.usb_model.specs.declared.step.Step.TheVariants.{Submit}
use Rattle.usb_recorder.specs.declared.place.Place.{Place}
use Rattle.usb_journal.specs.Booked.{answer_entry}
use Rattle.usb_journal.specs.Timers.{started_if}
use Rattle.usb_journal.proofs.Answers.{answer_turns, given_back, none_done, payload_comes_back, submitted_timers}
use Rattle.usb_journal.proofs.Runs.{entered, same_book, same_place, stands_still}
use Rattle.usb_journal.proofs.book.JournaledCore.submit.Goals as goal

pub returns-in-Err-clause-err : goal.returns-in-Err-clause-err
returns-in-Err-clause-err g c =
    let e = sym c.unless_no_memory.ensures ∙ c.in-Err.is in
    let s = c.submit.ensures in
    let same : c.args.request ≡ c.in-Some.request = same_Some _ _ (sym c.request_in.ensures ∙ c.in-Some.is) in (
      given_back c.submit.result c.in-Err.back c.in-Some.request e s.given ∙ sym same,
      payload_comes_back c.submit.result c.in-Err.back c.args.payload e s.back,
      same_book g.L.Naming.setup c.self.inside.log.journal c.prepare-prepared.new.log.journal c.self.inside.core c.submit.new.self c.self.inside.moment c.args.self.now c.self.view_is c.prepare-prepared.ensures.same
          (none_done c.submit.result c.in-Err.back _ e s.kept) (none_done c.submit.result c.in-Err.back _ e s.still),
      refl,
    )

pub invariant_of-self-2 : goal.invariant_of-self-2
invariant_of-self-2 g c =
    let same : c.args.request ≡ c.in-Some.request = same_Some _ _ (sym c.request_in.ensures ∙ c.in-Some.is) in
    let a = c.in-Ok-unless_no_memory.answer in
    let step : Step = Submit c.args.h c.in-Some.request in
    let p : Place = record { step = step; caller = c.number-caller.result; entry = answer_entry c.args.h a; moment = c.self.inside.moment } in
    let turn = answer_turns c.self.inside.core c.submit.new.self step c.args.h c.submit.result a (sym c.unless_no_memory.ensures ∙ c.in-Ok-unless_no_memory.is) c.submit.ensures.accepted c.submit.ensures.refused in
    entered g.L.Naming.setup c.self.inside.log.journal c.prepare-prepared.new.log.journal c.self.inside.core c.submit.new.self c.enter_answer-receipt.new.log.journal c.self.inside.timers.items c.start_if.new.timers.items p c.enter_answer-receipt.result (length c.prepare-prepared.new.log.journal)
    c.prepare-prepared.ensures.same c.enter_answer-receipt.ensures.journal
    (c.enter_answer-receipt.ensures.receipt ∙ ap (λ (x : Place). record { place = length c.prepare-prepared.new.log.journal; entry = x }) (same_place _ step c.number-caller.result _ _ c.self.inside.moment (c.of-asked.ensures ∙ ap (λ (r : Request). Submit c.args.h r) same) refl))
    turn
    (c.start_if.ensures ∙ (ap (started_if c.args.h c.in-Some.request.timeout c.self.inside.moment a) c.prepare-prepared.ensures.timers ∙ submitted_timers c.args.h c.in-Some.request c.self.inside.moment a c.self.inside.timers.items))
    c.self.invariant

pub invariant_of-self-in-Err : goal.invariant_of-self-in-Err
invariant_of-self-in-Err g c =
    stands_still g.L.Naming.setup c.self.inside.log.journal c.prepare-prepared.new.log.journal c.self.inside.core c.submit.new.self c.self.inside.timers.items c.prepare-prepared.new.timers.items c.prepare-prepared.ensures.same c.prepare-prepared.ensures.timers
    (none_done c.submit.result c.in-Err.back _ (sym c.unless_no_memory.ensures ∙ c.in-Err.is) c.submit.ensures.kept) c.self.invariant
