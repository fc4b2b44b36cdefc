use Rattle.std.proofs.Common.{◌∙◌, ap, option_map, refl, sym, subst, Some}
use Rattle.usb_model.specs.declared.step.Step.TheVariants.{Take}
use Rattle.refine_core.specs.Calls.{called_entry}
use Rattle.usb_core.proofs.Turns.{as_turn}
use Rattle.usb_model.specs.declared.entry.Entry.{Entry}
use Rattle.usb_core.specs.Results.{CarriesOut}
use Rattle.usb_core.specs.Steps.{GoesOut}
use Rattle.usb_core.proofs.calls.Core.step_take.Goals as goal

pub returns-in-Ok-Some-clause-turned : goal.returns-in-Ok-Some-clause-turned
returns-in-Ok-Some-clause-turned g c = as_turn c.args.self.now c.take.new.self c.take.new.self Take Take c.into_entry.result (called_entry (option_map (λ t. t.returned) c.in-Ok-Some.field-0)) refl
    (c.into_entry.ensures ∙ sym (ap (λ x. called_entry (option_map (λ t. t.returned) x)) c.in-Ok-Some.field-0-is)) refl c.in-Ok-Some.ensures.taken

pub returns-in-Ok-None-clause-turned : goal.returns-in-Ok-None-clause-turned
returns-in-Ok-None-clause-turned g c = as_turn c.args.self.now c.take.new.self c.take.new.self Take Take c.told.result.entry (called_entry (option_map (λ t. t.returned) c.in-Ok-None.field-0)) refl
    (ap (λ x. x.entry) c.told.ensures ∙ sym (ap (λ x. called_entry (option_map (λ t. t.returned) x)) c.in-Ok-None.field-0-is)) refl c.in-Ok-None.ensures.taken

pub returns-in-Ok-Some-clause-goes_out : goal.returns-in-Ok-Some-clause-goes_out
returns-in-Ok-Some-clause-goes_out g c = λ kept carried. subst (λ (e : Entry). GoesOut kept (Some c.in-Ok-Some.field-0-0.payload) e.reply) (sym c.into_entry.ensures)
    (subst (λ o. CarriesOut kept o) c.in-Ok-Some.field-0-is (c.in-Ok-Some.ensures.carries kept carried).0)
