-- What can be asked of a world without a step is read off the core.
use Rattle.std.proofs.Common.{◌≡◌, ℕ, Bool, true, false, List, length, Some, None, Option, ap, refl, subst, sym, ◌∙◌, ◌<◌}
use Rattle.std.specs.Prelude.{◌||◌, ◌==◌, is_some, slice_get}
use Rattle.std.specs.Option.{option_and_then, option_map_or}
use Rattle.usb_model.specs.declared.item.Ask.TheVariants.{Time}
use Rattle.usb_model.specs.declared.result.TransferResult.{TransferResult}
use Rattle.usb_model.specs.declared.shared.Tagged.{Tagged}
use Rattle.usb_model.specs.declared.step.Step.{Step}
use Rattle.usb_model.specs.declared.step.Step.TheVariants.{Expire}
use Rattle.usb_model.specs.Setup.{Setup, endpoints_of, interface_of}
use Rattle.usb_model.specs.World.{World}
use Rattle.usb_device.specs.Pipe.{pipe_at}
use Rattle.usb_xhc.specs.Slots.{DeviceSlot}
use Rattle.refine_rings.specs.Endpoint.{IsPipe}
use Rattle.usb_core.specs.declared.pending.Pending.{Pending}
use Rattle.usb_core.specs.Pending.{IsPending, does_something}
use Rattle.usb_core.specs.Homes.{can_expire, expires_now}
use Rattle.usb_core.specs.Packets.{taken_in}
use Rattle.refine_world.specs.Calls.{KeptHome, ask_core, device_of, kept_home, step_core}
use Rattle.refine_world.specs.Shows.{Core, Shows}
use Rattle.refine_world.proofs.Calls.Whole.{whole_steps}
use Rattle.refine_rings.proofs.Ids.{has_device}
use Rattle.refine_rings.proofs.Lookups.{get_within}
use Rattle.refine_core.specs.State.{Keeps, ShowsWorld, State}
use Rattle.usb_core.specs.Reads.{IsLeft, is_done, would_expire}

-- how many bytes the first result has
abbrev first_len : List (Tagged TransferResult) → ℕ
first_len results = option_map_or (λ t. length t.piece.bytes) (slice_get results 0) 0

module _ {P : Type 0} where
  -- the core's results are the world's
  pub next_shown : (s : State P) (n : ℕ) → ((setup : Setup) (c : Core) → Keeps setup s c → n ≡ first_len c.results) → (setup : Setup) (w : World) → ShowsWorld setup s w → n ≡ first_len w.results
  next_shown s n reads setup w shown = reads setup shown.0 shown.1 ∙ ap first_len shown.2.results

-- an ask is done where the transfer wasn't asked before and has a timeout
asked_if : (c : Core) (h n : ℕ) (step : Step) (o : Option KeptHome) → can_expire o ≡ is_done (ask_core c h step n Time true o).entry.reply
unfolding ask_core
asked_if c h n step None = refl
asked_if c h n step (Some home) = by_tests (is_some home.kept.ask || (home.kept.request.timeout == 0)) refl (is_some home.endpoint.errand) refl
  where
    by_tests : (a : Bool) → (is_some home.kept.ask || (home.kept.request.timeout == 0)) ≡ a → (b : Bool) → is_some home.endpoint.errand ≡ b → can_expire (Some home) ≡ is_done (ask_core c h step n Time true (Some home)).entry.reply
    by_tests true a_is b b_is = cc
    by_tests false a_is true b_is = cc
    by_tests false a_is false b_is = cc

module _ {P : Type 0} where
  -- the core expires what the world would
  pub expires_shown : (s : State P) (h n : ℕ) (b : Bool) → ((setup : Setup) (c : Core) → Keeps setup s c → b ≡ expires_now setup c h n) → (setup : Setup) (w : World) → ShowsWorld setup s w → b ≡ would_expire setup w h n
  unfolding step_core
  expires_shown s h n b reads setup w shown =
      reads setup shown.0 shown.1 ∙ asked_if shown.0 h n (Expire h n) (kept_home setup shown.0 h n (endpoints_of setup (device_of shown.0 h)))
      ∙ ap (λ e. is_done e.reply) (whole_steps setup shown.1.fine w shown.0 shown.2 (Expire h n)).0

  -- what is to be done next by the core is what is by the world
  pub pending_shown : (s : State P) (after : Option (ℕ × ℕ)) (p : Pending) → ((setup : Setup) (w : World) (c : Core) → Keeps setup s c → Shows setup w c → IsPending setup w after p) → (setup : Setup) (w : World) → ShowsWorld setup s w → IsPending setup w after p
  pending_shown s after p reads setup w shown = reads setup w shown.0 shown.1 shown.2

  -- a step does something by the core where it does by the world
  pub work_shown : (s : State P) (step : Step) (waits : Bool) → ((setup : Setup) (w : World) (c : Core) → Keeps setup s c → Shows setup w c → waits ≡ does_something setup w step) → (setup : Setup) (w : World) → ShowsWorld setup s w → waits ≡ does_something setup w step
  work_shown s step waits reads setup w shown = reads setup w shown.0 shown.1 shown.2

module _ {P : Type 0} where
  -- a device's endpoint, held or not, stands as the world has it
  pub left_shown : (s : State P) (setup : Setup) (w : World) (d e k : ℕ) → ShowsWorld setup s w → interface_of setup d e ≡ Some k → IsLeft s.controller d e (w.endpoints d e)
  left_shown s setup w d e k shown its = let device = shown.2.devices d e in record {
    slot = slot.0;
    there = slot.1;
    left = pipe.left ∙ device.script_left;
    halted = pipe.halted ∙ device.device_halted;
    taken = pipe.taken ∙ device.packets_received;
  }
    where
      slot : (x : DeviceSlot) × (slice_get s.controller.slots d ≡ Some x)
      slot = get_within s.controller.slots d (subst (λ (n : ℕ). d < n) (sym shown.1.held.slots) (has_device setup d e k its))

      pipe : IsPipe (pipe_at slot.0.pipes e) (shown.0.endpoints d e)
      pipe = ((shown.1.held.each d slot.0 slot.1).ends e k its).pipe

  -- the packets that it took are the world's
  pub taken_shown : (s : State P) (d e i : ℕ) (o : Option (List ℕ)) → o ≡ taken_in s.controller d e i → (setup : Setup) (w : World) (k : ℕ) → ShowsWorld setup s w → interface_of setup d e ≡ Some k → o ≡ slice_get (w.endpoints d e).packets_received i
  taken_shown s d e i o is setup w k shown its =
      let left = left_shown s setup w d e k shown its in
      is ∙ ap (λ (m : Option DeviceSlot). option_and_then (λ (x : DeviceSlot). slice_get (pipe_at x.pipes e).taken i) m) left.there
      ∙ ap (λ (l : List (List ℕ)). slice_get l i) left.taken
