-- A step that takes no memory, by what it isn't.
use Rattle.std.proofs.Common.{◌≡◌, ℕ, false, None, refl}
use Rattle.usb_model.specs.declared.request.Request.{Request}
use Rattle.usb_model.specs.declared.step.Step.{Step}
use Rattle.usb_model.specs.declared.step.Step.TheVariants.{Answer, Cancel, Claim, ClearHalt, Close, Command, Deliver, Expire, Open, Release, Reset, Serve, Submit, Take, Unplug}
use Rattle.usb_model.specs.declared.verdict.Verdict.{Verdict}
use Rattle.usb_model.specs.Numbers.{takes_payload}
use Rattle.refine_core.specs.State.{State}
use Rattle.usb_core.specs.Steps.{handed_out}

-- a step takes no payload, and hands nothing out
pub record IsPlain (step : Step) : Type 1 where
  pub payload : takes_payload step ≡ false
  pub out : {P : Type 0} (s : State P) → handed_out s step ≡ None

-- so it is with each but a submission, a result that goes out, and a verdict
pub plain : (step : Step) → ((h : ℕ) (request : Request) → step ≡ Submit h request → ⊥) → (step ≡ Take → ⊥) → ((h n : ℕ) (verdict : Verdict) → step ≡ Answer h n verdict → ⊥) → IsPlain step
plain (Open h d) a b c = record { payload = refl; out = λ s. refl }
plain (Close h) a b c = record { payload = refl; out = λ s. refl }
plain (Claim h i) a b c = record { payload = refl; out = λ s. refl }
plain (Release h i) a b c = record { payload = refl; out = λ s. refl }
plain (Reset h) a b c = record { payload = refl; out = λ s. refl }
plain (ClearHalt h e) a b c = record { payload = refl; out = λ s. refl }
plain (Submit h request) a b c = absurd (a h request refl)
plain (Cancel h n) a b c = record { payload = refl; out = λ s. refl }
plain (Expire h n) a b c = record { payload = refl; out = λ s. refl }
plain (Serve d e) a b c = record { payload = refl; out = λ s. refl }
plain Command a b c = record { payload = refl; out = λ s. refl }
plain Deliver a b c = record { payload = refl; out = λ s. refl }
plain Take a b c = absurd (b refl)
plain (Answer h n verdict) a b c = absurd (c h n verdict refl)
plain (Unplug d) a b c = record { payload = refl; out = λ s. refl }
