-- The order that is run is the oldest of the core.
use Rattle.std.proofs.Common.{Some, None, sym, subst, ◌∙◌, arith}
use Rattle.std.specs.Prelude.{nat_eq}
use Rattle.usb_model.specs.declared.reply.Reply.TheVariants.{Idle, Ran}
use Rattle.usb_model.specs.declared.step.Step.TheVariants.{Command}
use Rattle.refine_core.specs.State.{IsState, State}
use Rattle.refine_core.specs.Steps.{DoesCoreStep}
use Rattle.refine_core.proofs.Orders.{few_events}
use Rattle.usb_core.proofs.Views.{parts}
use Rattle.usb_core.proofs.StepRuns.{its_endpoint, its_order, ran_none, ran_one}
use Rattle.usb_core.proofs.parts.Parts.command.Goals as goal

pub run_command-requires : goal.run_command-requires
run_command-requires g c =
    let old : State g.row.P.Denot = parts c.self.inside.claims c.self.inside.controller c.self.inside.flights c.self.inside.callers c.self.inside.outstanding in
    let is : IsState old = subst (λ (s : State g.row.P.Denot). IsState s) (sym c.self.view_is) c.requires in
    omega (arith, few_events is.0 is.1 old is.2.0 is.2.1 is.2.2)

pub returns-in_default-clause-done : goal.returns-in_default-clause-done
returns-in_default-clause-done g c =
    let old : State g.row.P.Denot = parts c.self.inside.claims c.self.inside.controller c.self.inside.flights c.self.inside.callers c.self.inside.outstanding in
    subst (λ (s : State g.row.P.Denot). DoesCoreStep s Command (record { owner = None; reply = Idle }) (record old { controller = c.run_command.new.self })) c.self.view_is
    (ran_none old c.run_command.new.self (sym c.run_command.ensures.order ∙ c.in_default.is) c.run_command.ensures.controller)

pub unreachable-requires : goal.unreachable-requires
unreachable-requires g c =
    let old : State g.row.P.Denot = parts c.self.inside.claims c.self.inside.controller c.self.inside.flights c.self.inside.callers c.self.inside.outstanding in
    its_order old c.in-Some.order c.in-Some.code (subst (λ (s : State g.row.P.Denot). IsState s) (sym c.self.view_is) c.requires)
    (sym c.run_command.ensures.order ∙ c.in-Some.is) (sym c.order_in.ensures ∙ c.in_default-order_in.is)

pub unreachable-requires-in_default-held_at : goal.unreachable-requires-in_default-held_at
unreachable-requires-in_default-held_at g c =
    let old : State g.row.P.Denot = parts c.self.inside.claims c.self.inside.controller c.self.inside.flights c.self.inside.callers c.self.inside.outstanding in
    its_endpoint old c.in-Some.order c.in-Some.code c.in-Some-order_in.said.0 c.in-Some-order_in.said.1 c.number.result c.number-2.result c.in-Some-order_in.said.2 c.held_at.result
    (subst (λ (s : State g.row.P.Denot). IsState s) (sym c.self.view_is) c.requires) (sym c.run_command.ensures.order ∙ c.in-Some.is)
    (sym c.order_in.ensures ∙ c.in-Some-order_in.is) c.number.ensures.value c.number-2.ensures.value c.held_at.ensures.found c.in_default-held_at.is

pub returns-clause-done : goal.returns-clause-done
returns-clause-done g c =
    let old : State g.row.P.Denot = parts c.self.inside.claims c.self.inside.controller c.self.inside.flights c.self.inside.callers c.self.inside.outstanding in
    subst (λ (s : State g.row.P.Denot). DoesCoreStep s Command (record { owner = Some c.in-Some-held_at.at.name; reply = Ran c.in-Some-held_at.at.ep c.in-Some-order_in.said.2 (nat_eq c.in-Some.code 1) }) (record old { controller = c.run_command.new.self })) c.self.view_is
    (ran_one old c.run_command.new.self c.in-Some.order c.in-Some.code c.in-Some-order_in.said.0 c.in-Some-order_in.said.1 c.number.result c.number-2.result c.in-Some-order_in.said.2 c.held_at.result c.in-Some-held_at.at
    (sym c.run_command.ensures.order ∙ c.in-Some.is) c.run_command.ensures.controller (sym c.order_in.ensures ∙ c.in-Some-order_in.is) c.number.ensures.value c.number-2.ensures.value c.held_at.ensures.found c.in-Some-held_at.is)
