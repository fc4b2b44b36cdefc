-- Take of the whole core.
use Rattle.std.proofs.Common.{List, Some, [], ap, refl, subst, sym, ℕ, ◌∙◌, ◌∷◌, ◌≡◌}
use Rattle.usb_model.specs.declared.effect.Change.TheVariants.{Keeps}
use Rattle.usb_model.specs.declared.result.TransferResult.{TransferResult}
use Rattle.usb_model.specs.declared.shared.Tagged.{Tagged}
use Rattle.usb_model.specs.declared.step.Step.TheVariants.{Take}
use Rattle.usb_model.specs.Machine.{Machine}
use Rattle.usb_model.specs.Setup.{Setup}
use Rattle.usb_model.specs.World.Shared.{first_name, pieces_of}
use Rattle.usb_model.specs.Machine.Turns.{effect, take_effect}
use Rattle.usb_model.specs.World.{World, is_blocked, machine_of}
use Rattle.proof_model.proofs.Lists.Pieces.{same_name}
use Rattle.proof_model.proofs.Machines.Deeds.{takes}
use Rattle.refine_world.specs.Lively.{IsFine}
use Rattle.refine_world.specs.Shows.{Core, Shows}
use Rattle.refine_world.specs.Steps.{StepsTo, rested, take_core, take_first, with_out}
use Rattle.refine_world.proofs.WholeSteps.{idle_steps, same_handle}
use Rattle.refine_world.proofs.Links.{machine_parts}
use Rattle.refine_world.proofs.StepsWithoutWork.{rest_steps}

-- the oldest result
take_held : (setup : Setup) (w : World) (c : Core) → IsFine setup → Shows setup w c → (t : Tagged TransferResult) (ts : List (Tagged TransferResult)) → w.results ≡ t ∷ ts → StepsTo setup w Take (take_first setup c (t ∷ ts))
unfolding take_first take_effect effect is_blocked
take_held setup w c fine s t ts is =
    let h : ℕ = t.name in
    let m : Machine = machine_of setup h w in
    let mine : m.results ≡ t.piece ∷ pieces_of h ts = (machine_parts setup h w).3 ∙ (ap (pieces_of h) is ∙ rw (same_name h) refl) in
    subst (λ handle. StepsTo setup w Take (record { entry = record { owner = Some h; reply = (take_effect h m (t.piece ∷ pieces_of h ts)).reply }; core = rested setup h (with_out handle t.piece) Take Keeps c })) (same_handle setup w c s h)
    (rest_steps setup w c fine s h Take (take_effect h m (t.piece ∷ pieces_of h ts)) refl refl refl (ap first_name is) (ap (take_effect h m) mine) (takes t.piece (pieces_of h ts) mine) refl)

-- Take
pub take_steps : (setup : Setup) (w : World) (c : Core) → IsFine setup → Shows setup w c → StepsTo setup w Take (take_core setup c)
unfolding take_core take_first
take_steps setup w c fine s = subst (λ l. StepsTo setup w Take (take_first setup c l)) (sym s.results) (by_results w.results refl)
  where
    by_results : (l : List (Tagged TransferResult)) → w.results ≡ l → StepsTo setup w Take (take_first setup c l)
    by_results [] none = idle_steps setup w c Take refl (ap first_name none) s
    by_results (t ∷ ts) is = take_held setup w c fine s t ts is
