-- Cancel and Expire: a transfer in progress at one of the name's endpoints is asked to end.
use Rattle.std.proofs.Common.{Bool, List, None, Option, Some, [], ap, false, option_map, refl, sym, true, ℕ, ◌&&◌, ◌==◌, ◌||◌, ◌∙◌, ◌∷◌, ◌≡◌}
use Rattle.std.specs.Prelude.{is_some}
use Rattle.std.proofs.lemmas.Option.{same_Some}
use Rattle.usb_model.specs.declared.effect.Effect.{Effect}
use Rattle.usb_model.specs.declared.endpoint.Endpoint.{Endpoint}
use Rattle.usb_model.specs.declared.item.Ask.TheVariants as ask
use Rattle.usb_model.specs.declared.item.Ask.{Ask}
use Rattle.usb_model.specs.declared.item.Item.{Item}
use Rattle.usb_model.specs.declared.refused.Refused.TheVariants.{NotFound}
use Rattle.usb_model.specs.declared.setup.EndpointInfo.{EndpointInfo}
use Rattle.usb_model.specs.declared.step.Step.TheVariants.{Cancel, Expire}
use Rattle.usb_model.specs.declared.step.Step.{Step}
use Rattle.usb_model.specs.Endpoint.{in_progress}
use Rattle.usb_model.specs.Machine as machine
use Rattle.usb_model.specs.Machine.{at_endpoint}
use Rattle.usb_model.specs.Machine.Calls as effects
use Rattle.usb_model.specs.Machine.Calls.{Home, ask_effect, ask_in_progress, asks, home_of}
use Rattle.usb_model.specs.Machine.Turns.{effect}
use Rattle.usb_model.specs.Setup.{Setup, endpoints_of, packet_size_of}
use Rattle.usb_model.specs.World.{World, holder, machine_of, owner_of}
use Rattle.usb_model.specs.Joins.{asked}
use Rattle.usb_model.specs.Kept.{KeptEndpoint, KeptTransfer}
use Rattle.refine_world.specs.Calls.{KeptHome, ask_core, calls, device_of, home_by, home_in, kept_home, kept_in_progress}
use Rattle.refine_world.specs.Lively.{IsFine}
use Rattle.refine_world.specs.Shows.{Core, Shows}
use Rattle.refine_world.specs.Steps.{StepsTo}
use Rattle.refine_world.proofs.Calls.Refusals.{refused_steps, unless_steps}
use Rattle.refine_world.proofs.Calls.Tables.{with_tables}
use Rattle.refine_world.proofs.Calls.Tests.{AreSeen, are_seen, seen, unseen}
use Rattle.refine_world.proofs.CallWorks.{IsCall, ask_steps}
use Rattle.refine_world.proofs.CallTests.{Looked, look_item, look_kept, seen_item}

-- where a transfer is in progress, as the name has it and as the core keeps it: nowhere, or at an endpoint that the name holds, with the same ask and request
data AreHomes (setup : Setup) (w : World) (c : Core) (h dev : ℕ) : Option Home → Option KeptHome → Type 0 where
  nowhere : AreHomes setup w c h dev None None
  somewhere : (ep : ℕ) (x : Item) (y : KeptTransfer) → holder setup w.claims dev ep ≡ Some h → look_kept y ≡ look_item x
      → AreHomes setup w c h dev (Some (record { ep = ep; endpoint = w.endpoints dev ep; item = x })) (Some (record { ep = ep; endpoint = c.endpoints dev ep; kept = y }))

-- at one endpoint, or else elsewhere
homes_at : (setup : Setup) (w : World) (c : Core) → Shows setup w (with_tables w c) → (h dev n ep : ℕ) (o : Option Endpoint) (b : Option KeptEndpoint) → AreSeen setup w c h dev ep o b
    → (r : Option Home) (r' : Option KeptHome) → AreHomes setup w c h dev r r' → AreHomes setup w c h dev (effects.home_in n ep o r) (home_in n ep b r')
homes_at setup w c s h dev n ep o b unseen r r' rest = rest
homes_at setup w c s h dev n ep o b (seen holds) r r' rest =
    by_items (in_progress n (w.endpoints dev ep).line) (kept_in_progress n (c.endpoints dev ep).line)
    (seen_item (packet_size_of setup dev ep) n (w.endpoints dev ep).line (c.endpoints dev ep).line (s.endpoints h dev ep holds).kept)
  where
    by_items : (i : Option Item) (y : Option KeptTransfer) → option_map look_kept y ≡ option_map look_item i → AreHomes setup w c h dev (effects.home_by ep (w.endpoints dev ep) r i) (home_by ep (c.endpoints dev ep) r' y)
    by_items None None q = rest
    by_items None (Some y) q = absurd cc
    by_items (Some x) None q = absurd cc
    by_items (Some x) (Some y) q = somewhere ep x y holds (same_Some (look_kept y) (look_item x) q)

-- among these endpoints
are_homes : (setup : Setup) (w : World) (c : Core) → Shows setup w (with_tables w c) → (h n : ℕ) (xs : List EndpointInfo)
    → AreHomes setup w c h (device_of (with_tables w c) h) (home_of (machine_of setup h w) n xs) (kept_home setup (with_tables w c) h n xs)
unfolding home_of kept_home
are_homes setup w c s h n [] = nowhere
are_homes setup w c s h n (x ∷ xs) = homes_at setup w c s h (device_of (with_tables w c) h) n x.address _ _ (are_seen setup w c h x.address) _ _ (are_homes setup w c s h n xs)

-- a transfer is asked to end
asking_steps : (setup : Setup) (w : World) (c : Core) → IsFine setup → Shows setup w (with_tables w c) → (h : ℕ) (step : Step) (n : ℕ) (why : Ask) (timed : Bool) → IsCall step → owner_of setup w step ≡ Some h
    → effect setup h (machine_of setup h w) step ≡ ask_effect setup (machine_of setup h w) n why timed
    → StepsTo setup w step (ask_core (with_tables w c) h step n why timed (kept_home setup (with_tables w c) h n (endpoints_of setup (device_of (with_tables w c) h))))
unfolding ask_effect ask_in_progress ask_core machine_of
asking_steps setup w c fine s h step n why timed call own is = by_home _ _ (are_homes setup w c s h n (endpoints_of setup (device_of (with_tables w c) h))) is
  where
    k : Core
    k = with_tables w c

    dev : ℕ
    dev = device_of k h

    by_home : (o : Option Home) (b : Option KeptHome) → AreHomes setup w c h dev o b → effect setup h (machine_of setup h w) step ≡ ask_in_progress (machine_of setup h w) n why timed o → StepsTo setup w step (ask_core k h step n why timed b)
    by_home o b nowhere q = refused_steps setup w k s h step NotFound call own q
    by_home o b (somewhere ep x y holds same) q =
        let rest : Effect = at_endpoint (w.names h) dev ep (asks (w.endpoints dev ep) n why) in
        unless_steps setup w k s h step rest (calls k h (w.names h) dev ep step (asked c.posted (c.endpoints dev ep) n why)) call own ((is_some y.ask || (timed && (y.request.timeout == 0)), NotFound) ∷ [])
        (q ∙ ap (λ (l : Looked). machine.unless (machine_of setup h w) ((is_some l.ask || (timed && (l.request.timeout == 0)), NotFound) ∷ []) rest) (sym same))
        (λ p none. ask_steps setup w k fine s h dev ep step n why call own holds p)

-- Cancel
pub cancel_steps : (setup : Setup) (w : World) (c : Core) → IsFine setup → Shows setup w (with_tables w c) → (h n : ℕ)
    → StepsTo setup w (Cancel h n) (ask_core (with_tables w c) h (Cancel h n) n ask.Cancel false (kept_home setup (with_tables w c) h n (endpoints_of setup (device_of (with_tables w c) h))))
unfolding effect
cancel_steps setup w c fine s h n = asking_steps setup w c fine s h (Cancel h n) n ask.Cancel false (record { owned = refl; no_order = refl; no_news = refl; no_result = refl }) refl refl

-- Expire
pub expire_steps : (setup : Setup) (w : World) (c : Core) → IsFine setup → Shows setup w (with_tables w c) → (h n : ℕ)
    → StepsTo setup w (Expire h n) (ask_core (with_tables w c) h (Expire h n) n ask.Time true (kept_home setup (with_tables w c) h n (endpoints_of setup (device_of (with_tables w c) h))))
unfolding effect
expire_steps setup w c fine s h n = asking_steps setup w c fine s h (Expire h n) n ask.Time true (record { owned = refl; no_order = refl; no_news = refl; no_result = refl }) refl refl
