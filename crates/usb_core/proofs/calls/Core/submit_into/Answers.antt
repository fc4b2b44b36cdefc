-- The turn of the world, by what the tests and the start answer.
use Rattle.std.proofs.Common.{◌≡◌, Some, IfOk, subst, sym}
use Rattle.usb_model.specs.declared.reply.Reply.TheVariants.{Number, Refused}
use Rattle.usb_model.specs.declared.step.Step.TheVariants.{Submit}
use Rattle.refine_core.specs.State.{IsState, State}
use Rattle.refine_core.specs.Steps.{DoesCoreStep, TurnsWorld}
use Rattle.refine_core.proofs.Submissions.{refuses_new, submits_new}
use Rattle.refine_core.proofs.Turns.{shows_again, turns}
use Rattle.usb_core.proofs.calls.Core.submit_into.Goals as goal
use Rattle.usb_core.proofs.calls.Core.submit_into.Goals.{in-Ok-start_into, in-Err-start_into}

pub returns-in-Err-clause-refused : goal.returns-in-Err-clause-refused
returns-in-Err-clause-refused g c =
    let old : State g.row.P.Denot = c.self.inside.parts in
    let does : DoesCoreStep old (Submit c.args.h c.args.request) (record { owner = Some c.args.h; reply = Refused c.in-Err.why }) old =
    λ setup w core keeps shows. refuses_new setup old core c.args.h c.args.request c.in-Err.why keeps (c.in-Err.ensures setup w core keeps shows) in
    λ other. subst (λ (s : State g.row.P.Denot). TurnsWorld s (Submit c.args.h c.args.request) (record { owner = Some c.args.h; reply = Refused c.in-Err.why }) s) c.self.view_is
    (turns old old (Submit c.args.h c.args.request) _ does)

pub start_into-requires : goal.start_into-requires
start_into-requires g c = let is : IsState c.self.inside.parts = c.self.invariant in (c.in-Ok.ensures is.0 is.1 is.2.0 is.2.1 is.2.2).can

pub invariant_of-self : goal.invariant_of-self
invariant_of-self g c =
    let old : State g.row.P.Denot = c.self.inside.parts in
    elim c.match-start_into.branch [
      | in-Ok-start_into w ↦ shows_again old c.start_into.new.self (Submit c.args.h c.args.request) (record { owner = Some c.args.h; reply = Number w.in-Ok-start_into.n })
          (λ setup v core keeps shows. submits_new setup old c.start_into.new.self core c.args.h c.in-Ok.admission.dev w.in-Ok-start_into.n c.args.request c.in-Ok.admission.tds keeps (c.in-Ok.ensures setup v core keeps shows) w.in-Ok-start_into.ensures.started w.in-Ok-start_into.ensures.number)
          c.self.invariant
      | in-Err-start_into w ↦ subst (λ (s : State g.row.P.Denot). IsState s) (sym w.in-Err-start_into.ensures.kept) c.self.invariant
    ]

pub returns-clause-accepted : goal.returns-clause-accepted
returns-clause-accepted g c =
    let old : State g.row.P.Denot = c.self.inside.parts in
    elim c.match-start_into.branch [
      | in-Ok-start_into w ↦ subst (λ r. IfOk r (λ n. TurnsWorld c.args.self.now (Submit c.args.h c.args.request) (record { owner = Some c.args.h; reply = Number n }) c.start_into.new.self)) (sym w.result-is)
          (subst (λ (s : State g.row.P.Denot). TurnsWorld s (Submit c.args.h c.args.request) (record { owner = Some c.args.h; reply = Number w.in-Ok-start_into.n }) c.start_into.new.self) c.self.view_is
          (turns old c.start_into.new.self (Submit c.args.h c.args.request) (record { owner = Some c.args.h; reply = Number w.in-Ok-start_into.n })
          (λ setup v core keeps shows. submits_new setup old c.start_into.new.self core c.args.h c.in-Ok.admission.dev w.in-Ok-start_into.n c.args.request c.in-Ok.admission.tds keeps (c.in-Ok.ensures setup v core keeps shows) w.in-Ok-start_into.ensures.started w.in-Ok-start_into.ensures.number)))
      | in-Err-start_into w ↦ subst (λ r. IfOk r (λ n. TurnsWorld c.args.self.now (Submit c.args.h c.args.request) (record { owner = Some c.args.h; reply = Number n }) c.start_into.new.self)) (sym w.result-is) tt
    ]
