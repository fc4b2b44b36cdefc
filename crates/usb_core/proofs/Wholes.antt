-- Whole packets in a row are the core's.
use Rattle.std.proofs.Common.{◌≡◌, ℕ, ◌<◌, Some, sym, subst, List}
use Rattle.std.specs.Prelude.{replicate}
use Rattle.usb_model.specs.declared.request.Body.{Body}
use Rattle.usb_model.specs.declared.request.Body.TheVariants.{Out}
use Rattle.usb_model.specs.declared.step.Step.TheVariants.{Serve}
use Rattle.usb_tables.specs.declared.transfer.Transfer.{Transfer as InFlight}
use Rattle.usb_xhc.specs.declared.packet.PacketResult.TheVariants.{Moved}
use Rattle.usb_xhc.specs.Controller.{Controller, told_at}
use Rattle.usb_xhc.specs.Skims.{controller_skimmed, size_at}
use Rattle.usb_xhc.specs.Slots.{DeviceSlot, sends}
use Rattle.usb_tables.specs.TransfersInFlight.{TransfersInFlight, item_at}
use Rattle.refine_core.specs.Packets.{Skims, out_of}
use Rattle.refine_core.specs.State.{IsState, State}
use Rattle.refine_core.specs.Steps.{DoesCoreSteps}
use Rattle.refine_core.specs.Works.{CanSkimItem}
use Rattle.refine_core.proofs.Rests.{skims_safely}
use Rattle.refine_core.proofs.Skims.{skims}
use Rattle.usb_core.specs.declared.step_bursts.Whole.{Whole}
use Rattle.usb_core.specs.StepBursts.{IsWholeAt, whole_entry}

-- what is told of the bytes that are sent is told of the body that has them
pub told_out : (k : Controller) (d e count size : ℕ) (body : Body) (bytes sent : List ℕ) → body ≡ Out bytes → sent ≡ bytes
    → ((i : ℕ) → i < count → told_at (controller_skimmed d e (λ (s : DeviceSlot). sends s e sent) i k) d e ≡ Some (Moved size))
    → (i : ℕ) → i < count → told_at (controller_skimmed d e (out_of e body) i k) d e ≡ Some (Moved size)
told_out k d e count size body bytes sent is same told =
    subst (λ (x : Body). (i : ℕ) → i < count → told_at (controller_skimmed d e (out_of e x) i k) d e ≡ Some (Moved size)) (sym is)
    (subst (λ (xs : List ℕ). (i : ℕ) → i < count → told_at (controller_skimmed d e (λ (s : DeviceSlot). sends s e xs) i k) d e ≡ Some (Moved size)) same told)

module _ {P : Type 0} where
  -- they can be served
  pub can_skim : (s : State P) (d e item : ℕ) (x : Whole) → IsState s → IsWholeAt s d e x item → CanSkimItem s d e item
  can_skim s d e item x is at = skims_safely s x.owner d e item is at.held at.front

  -- so many are the core's
  pub skimmed : (old : State P) (k : Controller) (f : TransfersInFlight (InFlight P)) (d e item count : ℕ) (x : Whole) → IsWholeAt old d e x item
      → ((t : InFlight P) → item_at old.flights d e item ≡ Some t → (i : ℕ) → i < count → told_at (controller_skimmed d e (out_of e t.request.body) i old.controller) d e ≡ Some (Moved (size_at old.controller d e)))
      → ((t : InFlight P) → item_at old.flights d e item ≡ Some t → k ≡ controller_skimmed d e (out_of e t.request.body) count old.controller)
      → ((t : InFlight P) → item_at old.flights d e item ≡ Some t → Skims old.flights f old.controller d e item count t)
      → DoesCoreSteps old (replicate count (Serve d e)) (replicate count (whole_entry x)) (record old { controller = k; flights = f })
  skimmed old k f d e item count x at whole is_k is_f = skims old k f x.owner d e item count x.n x.size at.held at.front at.number
      (λ t there. subst (λ (size : ℕ). (i : ℕ) → i < count → told_at (controller_skimmed d e (out_of e t.request.body) i old.controller) d e ≡ Some (Moved size)) at.size (whole t there)) is_k is_f
