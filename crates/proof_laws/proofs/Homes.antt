-- The endpoint of a transfer that is in its callback is its handle's.
use Rattle.std.proofs.Common.{◌≡◌, ℕ, true, Some, sym, ◌∙◌, subst}
use Rattle.std.specs.Prelude.{is_some}
use Rattle.std.specs.List.{AllByRecursion}
use Rattle.usb_model.specs.declared.result.InCallback.{InCallback}
use Rattle.usb_model.specs.Machine.{endpoint_at}
use Rattle.usb_model.specs.Setup.{Setup}
use Rattle.usb_model.specs.World.{World, machine_of}
use Rattle.proof_model.proofs.Bounds.Runs.{callback_each, callbacks_home}
use Rattle.proof_laws.specs.InCallbacks.{IsReached, callback_at}
use Rattle.proof_laws.proofs.InCallbacks.{machine_callbacks}

-- in every world that a run leads to
pub homed : (setup : Setup) (w : World) → IsReached setup w → (h n : ℕ) (x : InCallback) → callback_at w h n ≡ Some x → is_some (endpoint_at (machine_of setup h w) x.request.ep) ≡ true
homed setup w (steps, is) h n x there =
    callback_each (λ y. is_some (endpoint_at (machine_of setup h w) y.request.ep) ≡ true) n (machine_of setup h w).handle.in_callbacks x all (machine_callbacks setup h n w ∙ there)
  where
    all : AllByRecursion (λ y. is_some (endpoint_at (machine_of setup h w) y.request.ep) ≡ true) (machine_of setup h w).handle.in_callbacks
    all = subst (λ u. AllByRecursion (λ y. is_some (endpoint_at (machine_of setup h u) y.request.ep) ≡ true) (machine_of setup h u).handle.in_callbacks) (sym is) (callbacks_home setup steps h)
