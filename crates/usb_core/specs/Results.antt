-- What goes out to a callback.
use Rattle.std.specs.Prelude.{◌≡◌, [], ◌∷◌, Option, Some, None}
use Rattle.usb_model.specs.declared.reply.Reply.TheVariants.{Done}
use Rattle.usb_model.specs.declared.step.Step.TheVariants.{Answer, Take}
use Rattle.usb_model.specs.declared.verdict.Verdict.TheVariants.{Stop}
use Rattle.refine_core.specs.Calls.{called_entry}
use Rattle.refine_core.specs.Handles.{says}
use Rattle.refine_core.specs.Payloads.{Kept}
use Rattle.refine_core.specs.State.{State}
use Rattle.refine_core.specs.Steps.{DoesCoreStep, DoesCoreSteps}
use Rattle.usb_core.specs.declared.results.Taken.{Taken}

-- the payload that goes out, if one does, is what is kept under the name and the number that the callback is given
abbrev pub CarriesOut : {P : Type 0} → Kept P → Option (Taken P) → Type 0
CarriesOut kept None = Unit {0}
CarriesOut kept (Some t) = kept t.returned.h t.returned.n ≡ Some t.payload

-- a result goes out to its callback, which ends: a Take, and an Answer with Stop; where none waits a Take is idle, and nothing changed
abbrev pub TakesDone : {P : Type 0} → State P → Option (Taken P) → State P → Type 0
TakesDone old None new = DoesCoreStep old Take (called_entry None) new × (new ≡ old)
TakesDone old (Some t) new = DoesCoreSteps old (Take ∷ Answer t.returned.h t.returned.n Stop ∷ []) (called_entry (Some t.returned) ∷ says t.returned.h Done ∷ []) new
