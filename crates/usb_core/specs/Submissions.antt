-- What comes of a submission's tests, as the code answers it.
use Rattle.std.specs.Prelude.{◌≡◌, ℕ, Option, Some, None, Result, Ok, Err}
use Rattle.usb_model.specs.declared.refused.Refused.{Refused}
use Rattle.usb_model.specs.declared.refused.Refused.TheVariants.{NotFound}
use Rattle.usb_model.specs.declared.request.Request.{Request}
use Rattle.usb_model.specs.declared.result.InCallback.{InCallback}
use Rattle.usb_model.specs.Setup.{Setup}
use Rattle.usb_model.specs.World.{World}
use Rattle.usb_tables.specs.HandleStates.{callback_at}
use Rattle.refine_world.specs.Shows.{Core, Shows}
use Rattle.refine_core.specs.State.{Keeps, State}
use Rattle.refine_core.specs.Submissions.{Admits, RefusesIt}
use Rattle.usb_core.specs.declared.submission.Admission.{Admission}

-- it is refused, or accepted there
abbrev pub IsAdmission : {P : Type 0} → Setup → State P → Core → ℕ → Request → Result Admission Refused → Type 0
IsAdmission setup s c h request (Err why) = RefusesIt setup c h request why
IsAdmission setup s c h request (Ok x) = Admits setup s c h x.dev request x.tds

-- of the transfer of a callback: where it is to join its line once more, or what it is refused for
abbrev pub AgainAt : {P : Type 0} → State P → ℕ → Option InCallback → Result Admission Refused → Type 0
AgainAt s h None r = r ≡ Err NotFound
AgainAt s h (Some x) r = (setup : Setup) (w : World) (c : Core) → Keeps setup s c → Shows setup w c → IsAdmission setup s c h x.request r

abbrev pub IsResubmission : {P : Type 0} → State P → (h n : ℕ) → Result Admission Refused → Type 0
IsResubmission s h n r = AgainAt s h (callback_at s.callers h n) r
