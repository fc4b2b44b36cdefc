-- Answer: a callback ends, or a transfer is submitted again from within it.
use Rattle.std.proofs.Common.{None, Option, Some, refl, ℕ, ◌+◌, ◌≡◌}
use Rattle.usb_model.specs.declared.effect.Change.TheVariants.{Keeps}
use Rattle.usb_model.specs.declared.refused.Refused.TheVariants.{NotFound}
use Rattle.usb_model.specs.declared.request.Body.TheVariants.{Out}
use Rattle.usb_model.specs.declared.result.InCallback.{InCallback}
use Rattle.usb_model.specs.declared.step.Step.TheVariants.{Answer}
use Rattle.usb_model.specs.declared.verdict.Verdict.TheVariants.{Again, AgainWith, Stop}
use Rattle.usb_model.specs.declared.verdict.Verdict.{Verdict}
use Rattle.usb_model.specs.Machine.Calls.{answer_callback, answer_effect, callback_of}
use Rattle.usb_model.specs.Machine.Turns.{effect}
use Rattle.usb_model.specs.Setup.{Setup}
use Rattle.usb_model.specs.World.{World, is_blocked, machine_of}
use Rattle.refine_world.specs.Calls.{answer_core, called_back}
use Rattle.refine_world.specs.Lively.{IsFine}
use Rattle.refine_world.specs.Shows.{Core, Shows}
use Rattle.refine_world.specs.Steps.{StepsTo}
use Rattle.refine_world.proofs.Calls.Refusals.{does_steps, refused_steps}
use Rattle.refine_world.proofs.Calls.Submissions.{submission_steps}
use Rattle.refine_world.proofs.Calls.Tables.{with_tables}
use Rattle.refine_world.proofs.CallWorks.{IsCall}

-- Answer
pub answer_steps : (setup : Setup) (w : World) (c : Core) → IsFine setup → Shows setup w (with_tables w c) → (h n : ℕ) (verdict : Verdict)
    → StepsTo setup w (Answer h n verdict) (answer_core setup (with_tables w c) h (Answer h n verdict) verdict (callback_of n (w.names h).in_callbacks))
unfolding answer_effect answer_callback answer_core effect machine_of is_blocked
answer_steps setup w c fine s h n verdict = by_callback verdict (callback_of n (w.names h).in_callbacks) refl
  where
    k : Core
    k = with_tables w c

    call : (verdict : Verdict) → IsCall (Answer h n verdict)
    call verdict = record { owned = refl; no_order = refl; no_news = refl; no_result = refl }

    by_callback : (verdict : Verdict) (o : Option InCallback) → effect setup h (machine_of setup h w) (Answer h n verdict) ≡ answer_callback setup (machine_of setup h w) verdict o
        → StepsTo setup w (Answer h n verdict) (answer_core setup k h (Answer h n verdict) verdict o)
    by_callback verdict None q = refused_steps setup w k s h (Answer h n verdict) NotFound (call verdict) refl q
    by_callback Stop (Some x) q = does_steps setup w k fine s h (Answer h n Stop) (called_back k h x.n) Keeps (call Stop) refl q tt refl
    by_callback Again (Some x) q = submission_steps setup w c fine s h (Answer h n Again) (called_back k h x.n) x.request (x.round + 1) (call Again) refl q
    by_callback (AgainWith bytes) (Some x) q = submission_steps setup w c fine s h (Answer h n (AgainWith bytes)) (called_back k h x.n) (record x.request { body = Out bytes }) (x.round + 1) (call (AgainWith bytes)) refl q
