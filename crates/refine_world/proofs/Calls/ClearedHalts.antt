-- ClearHalt: the halt of the device's endpoint ends, where its line is empty.
use Rattle.std.proofs.Common.{Option, [], ap, length, refl, ℕ, ◌==◌, ◌∙◌, ◌∷◌, ◌≡◌}
use Rattle.std.specs.Prelude.{not}
use Rattle.usb_model.specs.declared.effect.Effect.{Effect}
use Rattle.usb_model.specs.declared.endpoint.Endpoint.{Endpoint}
use Rattle.usb_model.specs.declared.refused.Refused.TheVariants.{Busy, NoDevice, NotFound}
use Rattle.usb_model.specs.declared.step.Step.TheVariants.{ClearHalt}
use Rattle.usb_model.specs.Machine as machine
use Rattle.usb_model.specs.Machine.{at_endpoint}
use Rattle.usb_model.specs.Machine.Calls.{clear_halt_effect}
use Rattle.usb_model.specs.Machine.Turns.{effect}
use Rattle.usb_model.specs.Setup.{Setup}
use Rattle.usb_model.specs.World.{World, machine_of}
use Rattle.proof_model.proofs.Machines.Deeds.{cleared}
use Rattle.usb_model.specs.Kept.{KeptEndpoint}
use Rattle.refine_world.specs.Calls.{calls, clear_core, device_of, is_gone, kept_at, unhalted}
use Rattle.refine_world.specs.Lively.{IsFine}
use Rattle.refine_world.specs.Shows.{Core, Shows}
use Rattle.refine_world.specs.Steps.{StepsTo}
use Rattle.refine_world.proofs.Calls.Refusals.{refused_steps, unless_steps}
use Rattle.refine_world.proofs.Calls.Tables.{with_tables}
use Rattle.refine_world.proofs.Calls.Tests.{AreSeen, are_seen, same_length, seen, unseen}
use Rattle.refine_world.proofs.CallWorks.{IsCall, clear_steps}

-- ClearHalt
pub clear_call_steps : (setup : Setup) (w : World) (c : Core) → IsFine setup → Shows setup w (with_tables w c) → (h ep : ℕ) → StepsTo setup w (ClearHalt h ep) (clear_core setup (with_tables w c) h ep (kept_at setup (with_tables w c) h ep))
unfolding clear_halt_effect clear_core effect machine_of at_endpoint
clear_call_steps setup w c fine s h ep = by_seen _ _ (are_seen setup w c h ep) refl
  where
    k : Core
    k = with_tables w c

    dev : ℕ
    dev = device_of k h

    call : IsCall (ClearHalt h ep)
    call = record { owned = refl; no_order = refl; no_news = refl; no_result = refl }

    by_seen : (o : Option Endpoint) (b : Option KeptEndpoint) → AreSeen setup w c h dev ep o b → effect setup h (machine_of setup h w) (ClearHalt h ep) ≡ clear_halt_effect (machine_of setup h w) ep o
        → StepsTo setup w (ClearHalt h ep) (clear_core setup k h ep b)
    by_seen o b unseen q = refused_steps setup w k s h (ClearHalt h ep) NotFound call refl q
    by_seen o b (seen holds) q =
        let rest : Effect = at_endpoint (w.names h) dev ep (cleared (w.endpoints dev ep)) in
        unless_steps setup w k s h (ClearHalt h ep) rest (calls k h (w.names h) dev ep (ClearHalt h ep) (unhalted (c.endpoints dev ep))) call refl ((is_gone k h, NoDevice) ∷ (not (length (c.endpoints dev ep).line == 0), Busy) ∷ [])
        (q ∙ ap (λ l. machine.unless (machine_of setup h w) ((is_gone k h, NoDevice) ∷ (not (l == 0), Busy) ∷ []) rest) (same_length setup w c s h dev ep holds))
        (λ p none. clear_steps setup w k fine s h dev ep (ClearHalt h ep) call refl holds p)
