-- The entry tells of what goes out, if a result waits.
use Rattle.std.proofs.Common.{◌≡◌, ◌<◌, ◌∙◌, ap, length, option_map, subst, sym, Some}
use Rattle.usb_model.specs.declared.entry.Entry.{Entry}
use Rattle.usb_model.specs.declared.reply.Returned.{Returned}
use Rattle.usb_model.specs.declared.step.Step.TheVariants.{Take}
use Rattle.usb_core.specs.Public.{TurnsWorld, called_entry}
use Rattle.usb_plans.proofs.StillShown.{has_bytes}
use Rattle.usb_plans.proofs.plan_run.take_step.Goals as goal

pub returns-in-Some-clause-turned : goal.returns-in-Some-clause-turned
returns-in-Some-clause-turned g c =
    let told : c.in-Some.told ≡ c.in-Ok-Some.taken.returned = c.in-Some.ensures.copy ∙ c.deref.ensures in
    subst (λ (e : Entry). TurnsWorld c.args.core.now Take e c.take.new.self)
    (ap (λ x. called_entry (option_map (λ t. t.returned) x)) c.in-Ok-Some.field-0-is ∙ ap (λ (r : Returned). called_entry (Some r)) (sym told)) c.in-Ok-Some.ensures.taken

pub returns-in-Ok-None-clause-turned : goal.returns-in-Ok-None-clause-turned
returns-in-Ok-None-clause-turned g c =
    subst (λ (e : Entry). TurnsWorld c.args.core.now Take e c.take.new.self) (ap (λ x. called_entry (option_map (λ t. t.returned) x)) c.in-Ok-None.field-0-is) c.in-Ok-None.ensures.taken

pub returns-in_default-clause-stays : goal.returns-in_default-clause-stays
returns-in_default-clause-stays g c =
    has_bytes c.args.core.now c.take.new.self c.args.memory.capacity c.in-Ok-Some.field-0 c.in-Ok-Some.taken c.in-Ok-Some.field-0-is c.in-Ok-Some.ensures.taken
    (subst (λ (r : Returned). c.args.memory.capacity < length r.bytes) c.deref.ensures (c.copied.ensures.none c.in_default.is))
