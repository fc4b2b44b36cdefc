use Rattle.std.proofs.lemmas.Option.{same_Some}
use Rattle.std.proofs.Common.{◌≡◌, ◌∙◌, ℕ, List, IfOk, ap, length, refl, subst, sym}
use Rattle.usb_model.specs.declared.step.Step.{Step}
use Rattle.usb_model.specs.declared.step.Step.TheVariants.{Answer}
use Rattle.usb_model.specs.declared.verdict.Verdict.TheVariants.{AgainWith}
use Rattle.usb_recorder.specs.declared.place.Place.{Place}
use Rattle.usb_journal.specs.Booked.{answer_entry}
use Rattle.usb_journal.specs.Timers.{started_again_if}
use Rattle.usb_journal.proofs.Answers.{again_with_timers, answer_turns, given_back, none_done, payload_comes_back, says_number}
use Rattle.usb_core.specs.Public.{CarriesMore}
use Rattle.usb_journal.specs.Booked.{Booked}
use Rattle.usb_journal.proofs.Runs.{entered, same_book, same_place, stands_still}
use Rattle.usb_journal.proofs.book.JournaledCore.again_with.Goals as goal

pub returns-in-Err-clause-err : goal.returns-in-Err-clause-err
returns-in-Err-clause-err g c =
    let same : c.args.bytes ≡ c.in-Some.bytes = same_Some _ _ (sym c.new_bytes_in.ensures ∙ c.in-Some.is) in
    let e = sym c.unless_no_memory.ensures ∙ c.in-Err.is in
    let s = c.again_with.ensures in (
      given_back c.again_with.result c.in-Err.back c.in-Some.bytes e s.given ∙ sym same,
      payload_comes_back c.again_with.result c.in-Err.back c.args.payload e s.back,
      same_book g.L.Naming.setup c.self.inside.log.journal c.prepare-prepared.new.log.journal c.self.inside.core c.again_with.new.self c.self.inside.moment c.args.self.now c.self.view_is c.prepare-prepared.ensures.same
          (none_done c.again_with.result c.in-Err.back _ e s.kept) (none_done c.again_with.result c.in-Err.back _ e s.still),
      refl,
    )

pub invariant_of-self-2 : goal.invariant_of-self-2
invariant_of-self-2 g c =
    let same : c.args.bytes ≡ c.in-Some.bytes = same_Some _ _ (sym c.new_bytes_in.ensures ∙ c.in-Some.is) in
    let a = c.in-Ok-unless_no_memory.answer in
    let step : Step = Answer c.args.h c.args.n (AgainWith c.in-Some.bytes) in
    let p : Place = record { step = step; caller = c.number-caller.result; entry = answer_entry c.args.h a; moment = c.self.inside.moment } in
    let turn = answer_turns c.self.inside.core c.again_with.new.self step c.args.h c.again_with.result a (sym c.unless_no_memory.ensures ∙ c.in-Ok-unless_no_memory.is) c.again_with.ensures.accepted c.again_with.ensures.refused in
    entered g.L.Naming.setup c.self.inside.log.journal c.prepare-prepared.new.log.journal c.self.inside.core c.again_with.new.self c.enter_answer-receipt.new.log.journal c.self.inside.timers.items c.start_again_if.new.timers.items p c.enter_answer-receipt.result (length c.prepare-prepared.new.log.journal)
    c.prepare-prepared.ensures.same c.enter_answer-receipt.ensures.journal
    (c.enter_answer-receipt.ensures.receipt ∙ ap (λ (x : Place). record { place = length c.prepare-prepared.new.log.journal; entry = x }) (same_place _ step c.number-caller.result _ _ c.self.inside.moment (c.of-asked.ensures ∙ ap (λ (b : List ℕ). Answer c.args.h c.args.n (AgainWith b)) same) refl))
    turn
    (c.start_again_if.ensures ∙ (ap (started_again_if c.args.h c.args.n c.self.inside.moment a) c.prepare-prepared.ensures.timers ∙ again_with_timers c.args.h c.args.n c.in-Some.bytes c.self.inside.moment a c.self.inside.timers.items))
    c.self.invariant

pub invariant_of-self-in-Err : goal.invariant_of-self-in-Err
invariant_of-self-in-Err g c =
    stands_still g.L.Naming.setup c.self.inside.log.journal c.prepare-prepared.new.log.journal c.self.inside.core c.again_with.new.self c.self.inside.timers.items c.prepare-prepared.new.timers.items c.prepare-prepared.ensures.same c.prepare-prepared.ensures.timers
    (none_done c.again_with.result c.in-Err.back _ (sym c.unless_no_memory.ensures ∙ c.in-Err.is) c.again_with.ensures.kept) c.self.invariant

pub returns-clause-carries : goal.returns-clause-carries
returns-clause-carries g c =
    subst (λ (b : Booked g.row.P.Denot). IfOk c.in-Ok-unless_no_memory.answer (λ k. CarriesMore c.args.h k c.args.payload b.core c.again_with.new.self)) c.self.view_is
    (says_number c.again_with.result c.in-Ok-unless_no_memory.answer (λ k. CarriesMore c.args.h k c.args.payload c.self.inside.core c.again_with.new.self) (sym c.unless_no_memory.ensures ∙ c.in-Ok-unless_no_memory.is) c.again_with.ensures.carries)
