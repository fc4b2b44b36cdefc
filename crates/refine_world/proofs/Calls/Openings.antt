-- Open and Close.
use Rattle.std.proofs.Common.{None, Some, [], ap, refl, true, ℕ, ◌∷◌}
use Rattle.std.specs.Prelude.{not}
use Rattle.usb_model.specs.declared.effect.Change.TheVariants.{Frees}
use Rattle.usb_model.specs.declared.handle.Handle.{Handle}
use Rattle.usb_model.specs.declared.refused.Refused.TheVariants.{Busy, NoDevice, NotFound}
use Rattle.usb_model.specs.declared.step.Step.TheVariants.{Close, Open}
use Rattle.usb_model.specs.Machine as machine
use Rattle.usb_model.specs.Machine.{does}
use Rattle.usb_model.specs.Machine.Calls.{close_effect, open_effect}
use Rattle.usb_model.specs.Machine.Turns.{effect}
use Rattle.usb_model.specs.Setup.{Setup, is_device}
use Rattle.usb_model.specs.World.{World, is_blocked, machine_of}
use Rattle.refine_world.specs.Calls.{are_quiet, close_core, is_open, open_core, rests}
use Rattle.refine_world.specs.Lively.{IsFine}
use Rattle.refine_world.specs.Shows.{Core, Shows}
use Rattle.refine_world.specs.Steps.{StepsTo}
use Rattle.refine_world.proofs.Calls.Refusals.{does_steps, unless_steps}
use Rattle.refine_world.proofs.Calls.Tables.{with_tables}
use Rattle.refine_world.proofs.Calls.Tests.{same_quiets}
use Rattle.refine_world.proofs.CallWorks.{IsCall}

-- Open
pub open_steps : (setup : Setup) (w : World) (c : Core) → IsFine setup → Shows setup w (with_tables w c) → (h dev : ℕ) → StepsTo setup w (Open h dev) (open_core setup (with_tables w c) h dev)
unfolding open_core open_effect effect machine_of is_blocked
open_steps setup w c fine s h dev =
    let handle : Handle = record (w.names h) { device = Some dev } in
    let call : IsCall (Open h dev) = record { owned = refl; no_order = refl; no_news = refl; no_result = refl } in
    unless_steps setup w (with_tables w c) s h (Open h dev) (does handle Frees) (rests setup (with_tables w c) h handle (Open h dev) Frees) call refl
    ((not (is_device setup dev), NotFound) ∷ (w.gone dev, NoDevice) ∷ (is_open (with_tables w c) h, Busy) ∷ []) refl
    (λ is none. does_steps setup w (with_tables w c) fine s h (Open h dev) handle Frees call refl is tt refl)

-- Close
pub close_steps : (setup : Setup) (w : World) (c : Core) → IsFine setup → Shows setup w (with_tables w c) → (h : ℕ) → StepsTo setup w (Close h) (close_core setup (with_tables w c) h)
unfolding close_core close_effect effect machine_of is_blocked
close_steps setup w c fine s h =
    let handle : Handle = record (w.names h) { device = None } in
    let call : IsCall (Close h) = record { owned = refl; no_order = refl; no_news = refl; no_result = refl } in
    unless_steps setup w (with_tables w c) s h (Close h) (does handle Frees) (rests setup (with_tables w c) h handle (Close h) Frees) call refl
    ((not (is_open (with_tables w c) h), NotFound) ∷ (not (are_quiet setup (with_tables w c) h (λ x. true)), Busy) ∷ [])
    (ap (λ quiet. machine.unless (machine_of setup h w) ((not (is_open (with_tables w c) h), NotFound) ∷ (not quiet, Busy) ∷ []) (does handle Frees)) (same_quiets setup w c s h (λ x. true)))
    (λ is none. does_steps setup w (with_tables w c) fine s h (Close h) handle Frees call refl is tt refl)
