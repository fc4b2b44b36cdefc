-- What a call's tests read of a name's endpoints: the core keeps each that the name has, no other, and reads the same of it.
use Rattle.std.proofs.Common.{Bool, None, Option, Some, ap, ap₂, false, length, refl, sym, true, ℕ, ◌&&◌, ◌==◌, ◌||◌, ◌≡◌}
use Rattle.std.specs.Prelude.{if◌then◌else◌, not, option_and_then, unwrap_or}
use Rattle.std.specs.List.{list_all, list_any}
use Rattle.usb_model.specs.declared.endpoint.Endpoint.{Endpoint}
use Rattle.usb_model.specs.declared.setup.EndpointInfo.{EndpointInfo}
use Rattle.usb_model.specs.Machine as machine
use Rattle.usb_model.specs.Machine.{is_callback_at, is_result_at}
use Rattle.usb_model.specs.Setup.{Setup, endpoints_of, packet_size_of}
use Rattle.usb_model.specs.World.{World, holder, is_its, machine_of, own_endpoint}
use Rattle.proof_model.proofs.Handles.Alone.{is_its-some}
use Rattle.usb_model.specs.Kept.{KeptEndpoint}
use Rattle.refine_world.specs.Calls.{are_quiet, device_of, is_quiet, kept_at, own_kept, results_of}
use Rattle.refine_world.specs.Shows.{Core, Shows}
use Rattle.refine_world.proofs.Bounds.{as_long}
use Rattle.refine_world.proofs.Calls.Tables.{with_tables}
use Rattle.refine_world.proofs.CallTests.{seen_errand}

-- an endpoint of a device, as the name has it and as the core keeps it: neither is there, or both are, and the name holds it
pub data AreSeen (setup : Setup) (w : World) (c : Core) (h dev ep : ℕ) : Option Endpoint → Option KeptEndpoint → Type 0 where
  unseen : AreSeen setup w c h dev ep None None
  seen : holder setup w.claims dev ep ≡ Some h → AreSeen setup w c h dev ep (Some (w.endpoints dev ep)) (Some (c.endpoints dev ep))

-- so are those at each address
pub are_seen : (setup : Setup) (w : World) (c : Core) (h ep : ℕ)
    → AreSeen setup w c h (device_of (with_tables w c) h) ep (machine.endpoint_at (machine_of setup h w) ep) (kept_at setup (with_tables w c) h ep)
unfolding machine_of
are_seen setup w c h ep = by_device (w.names h).device
  where
    by_device : (o : Option ℕ) → AreSeen setup w c h (unwrap_or o 0) ep (option_and_then (λ d. own_endpoint setup h w d ep) o) (option_and_then (λ d. own_kept setup (with_tables w c) h d ep) o)
    by_device None = unseen
    by_device (Some d) = by_test (is_its h (holder setup w.claims d ep)) refl
      where
        by_test : (b : Bool) → is_its h (holder setup w.claims d ep) ≡ b → AreSeen setup w c h d ep (if b then Some (w.endpoints d ep) else None) (if b then Some (c.endpoints d ep) else None)
        by_test true its = seen (is_its-some h (holder setup w.claims d ep) its)
        by_test false its = unseen

-- the lines are as long
pub same_length : (setup : Setup) (w : World) (c : Core) → Shows setup w (with_tables w c) → (h dev ep : ℕ) → holder setup w.claims dev ep ≡ Some h → length (w.endpoints dev ep).line ≡ length (c.endpoints dev ep).line
same_length setup w c s h dev ep holds = sym (as_long (packet_size_of setup dev ep) (w.endpoints dev ep).line (c.endpoints dev ep).line (s.endpoints h dev ep holds).kept)

-- an endpoint is quiet where the kept one is
same_quiet : (setup : Setup) (w : World) (c : Core) → Shows setup w (with_tables w c) → (h dev ep : ℕ) (e : Option Endpoint) (b : Option KeptEndpoint) → AreSeen setup w c h dev ep e b
    → machine.is_quiet (machine_of setup h w) ep e ≡ is_quiet (with_tables w c) h ep b
unfolding machine_of
same_quiet setup w c s h dev ep e b unseen = refl
same_quiet setup w c s h dev ep e b (seen holds) =
    ap₂ (λ l n. (l == 0) && (n && (not (list_any (is_result_at ep) (results_of (with_tables w c) h)) && not (list_any (is_callback_at ep) (w.names h).in_callbacks))))
    (same_length setup w c s h dev ep holds) (sym (seen_errand (c.endpoints dev ep).errand (w.endpoints dev ep).errand (s.endpoints h dev ep holds).errand))

-- so all that pass a test are
pub same_quiets : (setup : Setup) (w : World) (c : Core) → Shows setup w (with_tables w c) → (h : ℕ) (test : EndpointInfo → Bool) → machine.are_quiet setup (machine_of setup h w) test ≡ are_quiet setup (with_tables w c) h test
unfolding machine_of
same_quiets setup w c s h test =
    ap (λ (quiet : ℕ → Bool). list_all (λ x. not (test x) || quiet x.address) (endpoints_of setup (device_of (with_tables w c) h)))
    (λ i. λ ep. same_quiet setup w c s h (device_of (with_tables w c) h) ep _ _ (are_seen setup w c h ep) i)
