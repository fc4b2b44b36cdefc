-- Steps in a row, in one call.
use Rattle.std.specs.Prelude.{◌≡◌, [], ◌∷◌, Option, Some, None}
use Rattle.usb_model.specs.declared.reply.Reply.TheVariants.{Done}
use Rattle.usb_model.specs.declared.step.Step.TheVariants.{Answer, Take}
use Rattle.usb_model.specs.declared.verdict.Verdict.TheVariants.{Stop}
use Rattle.refine_core.specs.Calls.{called_entry}
use Rattle.refine_core.specs.Handles.{says}
use Rattle.refine_core.specs.State.{State}
use Rattle.refine_core.specs.Steps.{TurnsInRow, TurnsWorld}
use Rattle.usb_core.specs.declared.results.Taken.{Taken}

-- a result goes out to its callback, which ends: a Take, and an Answer with Stop, which is done; where none waits a Take is idle, and nothing changed
abbrev pub TakesAndStops : {P : Type 0} → State P → Option (Taken P) → State P → Type 0
TakesAndStops old None new = TurnsWorld old Take (called_entry None) new × (new ≡ old)
TakesAndStops old (Some t) new = TurnsInRow old (Take ∷ Answer t.returned.h t.returned.n Stop ∷ []) (called_entry (Some t.returned) ∷ says t.returned.h Done ∷ []) new
