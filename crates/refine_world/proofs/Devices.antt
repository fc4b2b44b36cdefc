-- What the devices keep of their endpoints, held or not, is what the world has of them.
use Rattle.std.proofs.Common.{Bool, List, Some, ap, false, refl, subst, subst₂, sym, true, ℕ, ◌&&◌, ◌==◌, ◌∙◌, ◌≡◌}
use Rattle.std.specs.Prelude.{if◌then◌else◌}
use Rattle.std.proofs.lemmas.Bool.{and_parts, eqb-true}
use Rattle.usb_model.specs.declared.effect.Effect.{Effect}
use Rattle.usb_model.specs.declared.endpoint.Endpoint.{Endpoint}
use Rattle.usb_model.specs.declared.errand.Errand.{Errand}
use Rattle.usb_model.specs.declared.news.Event.{Event}
use Rattle.usb_model.specs.declared.step.Step.{Step}
use Rattle.usb_model.specs.Endpoint.{fresh}
use Rattle.usb_model.specs.Machine.{Machine, device_of}
use Rattle.usb_model.specs.Machine.Turns.{take_effect}
use Rattle.usb_model.specs.Setup.{Setup, is_within, packet_size_of, script_of}
use Rattle.usb_model.specs.World.{Claims, World, all_ends_after, holder, is_its}
use Rattle.proof_model.proofs.Lists.Pieces.{same_name}
use Rattle.proof_model.proofs.Machines.Deeds.{IsRest, claims, claims_again, closes, opens, releases, resets, stays, stops, takes}
use Rattle.usb_model.specs.Kept.{KeptEndpoint, SentErrand, Telling, new_kept_endpoint}
use Rattle.refine_world.specs.ShownEndpoint.{ShowsDevice, ShowsEnd}
use Rattle.refine_world.specs.Shows.{Core, Shows}
use Rattle.refine_world.specs.Steps.{kept_endpoint_after}
use Rattle.refine_world.proofs.Renewed.{fresh_shows}

-- of an endpoint that is shown
pub device_shown : {size : ℕ} {e : Endpoint} {os : List Errand} {ns : List Event} {b : KeptEndpoint} {sent : List SentErrand} {told : List Telling} → ShowsEnd size e os ns b sent told → ShowsDevice e b
device_shown s = record { script_left = s.script_left; device_halted = s.device_halted; packets_received = s.packets_received }

-- of one that is made new
pub device_renewed : (setup : Setup) (d e : ℕ) → ShowsDevice (fresh setup d e) (new_kept_endpoint (script_of setup d e))
device_renewed setup d e = device_shown (fresh_shows (packet_size_of setup d e) setup d e)

-- of one that is made new, or left as it was
renewed_if : (setup : Setup) (d e : ℕ) (x : Endpoint) (b : KeptEndpoint) (t : Bool) → ShowsDevice x b → ShowsDevice (if t then fresh setup d e else x) (if t then new_kept_endpoint (script_of setup d e) else b)
renewed_if setup d e x b true old = device_renewed setup d e
renewed_if setup d e x b false old = old

-- after work at an endpoint that the name holds
pub devices_worked : (setup : Setup) (cs : Claims) (ends : ℕ → ℕ → Endpoint) (kept : ℕ → ℕ → KeptEndpoint) (h dev ep : ℕ) (x : Endpoint) (b : KeptEndpoint) → holder setup cs dev ep ≡ Some h → ShowsDevice x b → ((d e : ℕ) → ShowsDevice (ends d e) (kept d e))
    → (d e : ℕ) → ShowsDevice (if ((dev == d) && (ep == e)) && is_its h (holder setup cs d e) then x else ends d e) (if (dev == d) && (ep == e) then b else kept d e)
devices_worked setup cs ends kept h dev ep x b holds now old d e = by_test ((dev == d) && (ep == e)) refl
  where
    by_test : (t : Bool) → ((dev == d) && (ep == e)) ≡ t → ShowsDevice (if t && is_its h (holder setup cs d e) then x else ends d e) (if t then b else kept d e)
    by_test false other = old d e
    by_test true same =
        let p = and_parts (dev == d) (ep == e) same in
        let its : is_its h (holder setup cs d e) ≡ true = ap (is_its h) (subst₂ (λ a i. holder setup cs a i ≡ Some h) (eqb-true dev d p.0) (eqb-true ep e p.1) holds) ∙ same_name h in
        rw its now

-- after a step that does no work at an endpoint
pub devices_rested : (setup : Setup) (w : World) (c : Core) → Shows setup w c → (h : ℕ) (m : Machine) (step : Step) (done : Effect) → IsRest setup h m step done
    → (d e : ℕ) → ShowsDevice (all_ends_after setup h w.claims w.endpoints done.change d e) (kept_endpoint_after setup h c done.change d e)
unfolding take_effect
devices_rested setup w c s h m step done (stays bare t) d e = s.devices d e
devices_rested setup w c s h m step done (claims_again g i) d e = s.devices d e
devices_rested setup w c s h m step done (stops g k x in_call) d e = s.devices d e
devices_rested setup w c s h m step done (takes x xs is) d e = s.devices d e
devices_rested setup w c s h m step done (opens g dev none) d e = s.devices d e
devices_rested setup w c s h m step done (closes g idle) d e = s.devices d e
devices_rested setup w c s h m step done (releases g i idle) d e = s.devices d e
devices_rested setup w c s h m step done (claims g i opened free) d e = renewed_if setup d e (w.endpoints d e) (c.endpoints d e) (is_within setup (device_of m) i d e) (s.devices d e)
devices_rested setup w c s h m step done (resets g idle) d e =
    subst (λ (cs : Claims). ShowsDevice (if is_its h (holder setup w.claims d e) then fresh setup d e else w.endpoints d e) (if is_its h (holder setup cs d e) then new_kept_endpoint (script_of setup d e) else c.endpoints d e)) (sym s.claims)
    (renewed_if setup d e (w.endpoints d e) (c.endpoints d e) (is_its h (holder setup w.claims d e)) (s.devices d e))
