use Rattle.std.proofs.Common.{IfOk, OnErr, subst}
use Rattle.std.specs.Prelude.{option_map}
use Rattle.usb_model.specs.declared.step.Step.TheVariants.{Take}
use Rattle.refine_core.specs.Calls.{Stays, called_entry}
use Rattle.refine_core.specs.State.{State}
use Rattle.refine_core.specs.Steps.{TurnsWorld}
use Rattle.usb_core.proofs.Turns.{shown_either, turns_if}
use Rattle.usb_core.proofs.calls.Core.take.Goals as goal

pub invariant_of-self : goal.invariant_of-self
invariant_of-self g c = shown_either c.self.inside.parts c.take.new.self Take c.take.result (λ x. called_entry (option_map (λ t. t.returned) x)) c.take.ensures.taken c.take.ensures.refused c.self.invariant

pub returns-clause-taken : goal.returns-clause-taken
returns-clause-taken g c = subst (λ (s : State g.row.P.Denot). IfOk c.take.result (λ x. TurnsWorld s Take (called_entry (option_map (λ t. t.returned) x)) c.take.new.self)) c.self.view_is
    (turns_if c.self.inside.parts c.take.new.self Take c.take.result (λ x. called_entry (option_map (λ t. t.returned) x)) c.take.ensures.taken)

pub returns-clause-refused : goal.returns-clause-refused
returns-clause-refused g c = subst (λ (s : State g.row.P.Denot). OnErr c.take.result (Stays s c.take.new.self)) c.self.view_is c.take.ensures.refused
