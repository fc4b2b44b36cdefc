-- Claim, Release and Reset: of a device's interfaces, which others may hold.
use Rattle.std.proofs.Common.{Bool, None, Option, Some, [], ap, false, refl, sym, true, ℕ, ◌&&◌, ◌==◌, ◌∷◌, ◌≡◌}
use Rattle.std.specs.Prelude.{if◌then◌else◌, not}
use Rattle.usb_model.specs.declared.effect.Change.TheVariants.{Drops, Gains, Keeps, Renews}
use Rattle.usb_model.specs.declared.effect.Change.{Change}
use Rattle.usb_model.specs.declared.refused.Refused.TheVariants.{Busy, HeldElsewhere, NoDevice, NotFound}
use Rattle.usb_model.specs.declared.step.Step.TheVariants.{Claim, Release, Reset}
use Rattle.usb_model.specs.Machine as machine
use Rattle.usb_model.specs.Machine.{does}
use Rattle.usb_model.specs.Machine.Calls.{claim_effect, release_effect, reset_effect}
use Rattle.usb_model.specs.Machine.Turns.{effect}
use Rattle.usb_model.specs.Setup.{Setup, has_interface}
use Rattle.usb_model.specs.World.{World, is_blocked, is_its, is_others, machine_of}
use Rattle.proof_model.proofs.Work.Moves.{SetsNone}
use Rattle.refine_world.specs.Calls.{are_quiet, claim_core, device_of, holds, is_gone, is_open, others_hold, release_core, reset_core, rests, unless}
use Rattle.refine_world.specs.Lively.{IsFine}
use Rattle.refine_world.specs.Shows.{Core, Shows}
use Rattle.refine_world.specs.Steps.{StepsTo}
use Rattle.refine_world.proofs.Calls.Refusals.{does_steps, unless_blocked, unless_steps}
use Rattle.refine_world.proofs.Calls.Tables.{with_tables}
use Rattle.refine_world.proofs.Calls.Tests.{same_quiets}
use Rattle.refine_world.proofs.CallWorks.{IsCall}

-- what a name holds no other does
no_others : (h : ℕ) (o : Option ℕ) → is_its h o ≡ true → is_others h o ≡ false
no_others h None its = refl
no_others h (Some g) its = ap not its

-- who claims what it holds is in nobody's way; else whoever holds it is in the way
claim_blocked : (setup : Setup) (h : ℕ) (w : World) (dev i : ℕ) (b : Bool) → is_its h (w.claims dev i) ≡ b → is_blocked setup h w (if b then Keeps else Gains dev i) ≡ is_others h (w.claims dev i)
unfolding is_blocked
claim_blocked setup h w dev i true its = sym (no_others h (w.claims dev i) its)
claim_blocked setup h w dev i false its = refl

-- a claim sets no endpoint
claim_sets : (dev i : ℕ) (b : Bool) → SetsNone (if b then Keeps else Gains dev i)
claim_sets dev i true = tt
claim_sets dev i false = tt

-- Claim
pub claim_steps : (setup : Setup) (w : World) (c : Core) → IsFine setup → Shows setup w (with_tables w c) → (h i : ℕ) → StepsTo setup w (Claim h i) (claim_core setup (with_tables w c) h i)
unfolding claim_core claim_effect effect machine_of
claim_steps setup w c fine s h i =
    let k : Core = with_tables w c in
    let dev : ℕ = device_of k h in
    let change : Change = if holds k h i then Keeps else Gains dev i in
    let others : Bool = is_others h (w.claims dev i) in
    let call : IsCall (Claim h i) = record { owned = refl; no_order = refl; no_news = refl; no_result = refl } in
    unless_steps setup w k s h (Claim h i) (does (w.names h) change) (unless k h ((others, HeldElsewhere) ∷ []) (rests setup k h (w.names h) (Claim h i) change)) call refl
    ((not (is_open k h), NotFound) ∷ (is_gone k h, NoDevice) ∷ (not (has_interface setup dev i), NotFound) ∷ []) refl
    (λ is none. unless_blocked setup w k fine s h (Claim h i) (w.names h) change others call refl is (claim_sets dev i (holds k h i)) (claim_blocked setup h w dev i (holds k h i) refl))

-- Release
pub release_steps : (setup : Setup) (w : World) (c : Core) → IsFine setup → Shows setup w (with_tables w c) → (h i : ℕ) → StepsTo setup w (Release h i) (release_core setup (with_tables w c) h i)
unfolding release_core release_effect effect machine_of is_blocked
release_steps setup w c fine s h i =
    let k : Core = with_tables w c in
    let change : Change = Drops (device_of k h) i in
    let call : IsCall (Release h i) = record { owned = refl; no_order = refl; no_news = refl; no_result = refl } in
    unless_steps setup w k s h (Release h i) (does (w.names h) change) (rests setup k h (w.names h) (Release h i) change) call refl
    ((not (is_open k h && holds k h i), NotFound) ∷ (not (are_quiet setup k h (λ x. x.interface == i)), Busy) ∷ [])
    (ap (λ quiet. machine.unless (machine_of setup h w) ((not (is_open k h && holds k h i), NotFound) ∷ (not quiet, Busy) ∷ []) (does (w.names h) change)) (same_quiets setup w c s h (λ x. x.interface == i)))
    (λ is none. does_steps setup w k fine s h (Release h i) (w.names h) change call refl is tt refl)

-- Reset
pub reset_steps : (setup : Setup) (w : World) (c : Core) → IsFine setup → Shows setup w (with_tables w c) → (h : ℕ) → StepsTo setup w (Reset h) (reset_core setup (with_tables w c) h)
unfolding reset_core reset_effect effect machine_of is_blocked
reset_steps setup w c fine s h =
    let k : Core = with_tables w c in
    let change : Change = Renews (device_of k h) in
    let others : Bool = others_hold setup k h in
    let call : IsCall (Reset h) = record { owned = refl; no_order = refl; no_news = refl; no_result = refl } in
    unless_steps setup w k s h (Reset h) (does (w.names h) change) (unless k h ((others, HeldElsewhere) ∷ []) (rests setup k h (w.names h) (Reset h) change)) call refl
    ((not (is_open k h), NotFound) ∷ (is_gone k h, NoDevice) ∷ (not (are_quiet setup k h (λ x. true)), Busy) ∷ [])
    (ap (λ quiet. machine.unless (machine_of setup h w) ((not (is_open k h), NotFound) ∷ (is_gone k h, NoDevice) ∷ (not quiet, Busy) ∷ []) (does (w.names h) change)) (same_quiets setup w c s h (λ x. true)))
    (λ is none. unless_blocked setup w k fine s h (Reset h) (w.names h) change others call refl is tt refl)
